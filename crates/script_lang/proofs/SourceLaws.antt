-- How what is taken of a source adds up.
use Rattle.std.proofs.Common.{◌≡◌, ◌++◌, ◌≤◌, ◌<◌, ◌-◌, ℕ, [], length, take, drop, Option, Some, None, refl, sym, ap, ◌∙◌, subst, arith, cond, false}
use Rattle.std.specs.Prelude.{Result, Ok, Err, is_ok, is_err, option_map}
use Rattle.std.proofs.lemmas.List.{append-nil, append_assoc, take-append-drop, length-append, length-take, length-take-le, take_at}
use Rattle.cell_world.specs.Texts.{Text}
use Rattle.cell_world.specs.Outside.{TakesFront, Takes}
use Rattle.script_lang.specs.Sources.{IfTold, WereTaken, HasMore}

pub taken_none : (left : Option Text) (bytes : Text) → bytes ≡ [] → WereTaken left left bytes
taken_none None bytes none = refl
taken_none (Some all) bytes none = (all, refl, ap (λ b. b ++ all) (sym none))

-- at the end all is taken, and nothing is left
pub taken_all : (a b c : Option Text) (bytes buffer : Text) (n : ℕ) → n ≡ 0 → WereTaken a b bytes → Takes n b c buffer → IfTold a bytes
taken_all None b c bytes buffer n zero taken takes = tt
taken_all (Some left) b c bytes buffer n zero taken takes =
    let front : TakesFront n taken.0 c buffer = subst (λ o. Takes n o c buffer) taken.1 takes in
    taken.2 ∙ ap (λ r. bytes ++ r) (front.none zero) ∙ append-nil bytes

pub nothing_left : (a b c : Option Text) (bytes buffer : Text) (n : ℕ) → n ≡ 0 → WereTaken a b bytes → Takes n b c buffer → c ≡ option_map (λ b. []) a
nothing_left None b c bytes buffer n zero taken takes = let none : c ≡ None = subst (λ o. Takes n o c buffer) taken takes in none
nothing_left (Some left) b c bytes buffer n zero taken takes =
    let front : TakesFront n taken.0 c buffer = subst (λ o. Takes n o c buffer) taken.1 takes in
    front.rest ∙ ap (λ k. Some (drop k taken.0)) zero ∙ ap (λ r. Some r) (front.none zero)

-- some more is taken
pub taken_more : (a b c : Option Text) (bytes more buffer : Text) (n : ℕ) → WereTaken a b bytes → Takes n b c buffer → more ≡ bytes ++ take n buffer → WereTaken a c more
taken_more None b c bytes more buffer n taken takes is = subst (λ o. Takes n o c buffer) taken takes
taken_more (Some left) b c bytes more buffer n taken takes is =
    let rest = taken.0 in
    let front : TakesFront n rest c buffer = subst (λ o. Takes n o c buffer) taken.1 takes in (
      drop n rest,
      front.rest,
      taken.2 ∙ ap (λ r. bytes ++ r) (sym (take-append-drop n rest)) ∙ sym (append_assoc bytes (take n rest) (drop n rest))
          ∙ ap (λ t. (bytes ++ t) ++ drop n rest) (sym front.front) ∙ ap (λ m. m ++ drop n rest) (sym is),
    )

-- more is there than fits
pub taken_long : (a b c : Option Text) (bytes buffer : Text) (n most : ℕ) → WereTaken a b bytes → Takes n b c buffer → n ≤ length buffer → most - length bytes < n → length bytes ≤ most → HasMore most a
taken_long None b c bytes buffer n most taken takes fits long short = record {
  bytes = bytes ++ take n buffer;
  told = tt;
  long = omega (arith, long, short, length-append bytes (take n buffer), length-take-le n buffer fits);
}
taken_long (Some left) b c bytes buffer n most taken takes fits long short =
    let rest = taken.0 in
    let front : TakesFront n rest c buffer = subst (λ o. Takes n o c buffer) taken.1 takes in
    record {
      bytes = left;
      told = refl;
      long = omega (arith, long, short, ap length taken.2, length-append bytes rest, ap length front.front, length-take n rest, length-take-le n buffer fits);
    }

-- what the front of the buffer adds
pub extended : {T E : Type 0} (new old into behind slice : Text) (len n : ℕ) (result : Result T E) → new ≡ cond (is_ok result) (old ++ take n slice) old → slice ≡ take len (into ++ drop (length into) behind) → length into ≡ len → is_err result ≡ false
    → new ≡ old ++ take n into
extended new old into behind slice len n (Ok x) is all fits fine = is ∙ ap (λ s. old ++ take n s) (all ∙ take_at into (drop (length into) behind) len fits)
extended new old into behind slice len n (Err e) is all fits fine = absurd cc
