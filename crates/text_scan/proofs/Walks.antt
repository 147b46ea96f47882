-- Where a walk stops is the place of the fault.
use Rattle.std.proofs.Common.{◌≡◌, ℕ, ◌+◌, ◌<◌, Bool, false, List, [], ◌∷◌, ◌++◌, length, get_or, take, Option, Some, None, true≢false, refl, sym, ap, ◌∙◌, arith}
use Rattle.std.specs.Prelude.{option_and_then, IsTrue}
use Rattle.std.proofs.lemmas.List.{take_more, take_all}
use Rattle.text_scan.specs.Places.{BeginsText, IsPlace}
use Rattle.text_scan.specs.Walks.{walk, at_end, accepts}

pub walk-append : {S : Type 0} (next : S → ℕ → Option S) (from : Option S) (xs ys : List ℕ) → walk next from (xs ++ ys) ≡ walk next (walk next from xs) ys
walk-append next from [] ys = refl
walk-append next from (x ∷ xs) ys = walk-append next (option_and_then (λ s. next s x) from) xs ys

-- nothing leads on from nowhere
walk-None : {S : Type 0} (next : S → ℕ → Option S) (xs : List ℕ) → walk next None xs ≡ None
walk-None next [] = refl
walk-None next (x ∷ xs) = walk-None next xs

pub accepts-None : {S : Type 0} (next : S → ℕ → Option S) (is_end : S → Bool) (text : List ℕ) → accepts next is_end None text ≡ false
accepts-None next is_end text = ap (at_end is_end) (walk-None next text)

-- one byte more
pub walk_more : {S : Type 0} (next : S → ℕ → Option S) (from : Option S) (text : List ℕ) (i : ℕ) (s : S) → i < length text → walk next from (take i text) ≡ Some s
    → walk next from (take (i + 1) text) ≡ next s (get_or text i 0)
walk_more next from text i s lt at =
    rw (take_more text i 0 lt, walk-append next from (take i text) (get_or text i 0 ∷ []), at) refl

-- from a state with a witness, the bytes so far go on
goes_on : {S : Type 0} (next : S → ℕ → Option S) (is_end : S → Bool) (from : Option S) (front : List ℕ) (s : S) → walk next from front ≡ Some s
    → ((more : List ℕ) × IsTrue (accepts next is_end (Some s) more)) → BeginsText (accepts next is_end from) front
goes_on next is_end from front s at live =
    (live.0, ap (at_end is_end) (walk-append next from front live.0 ∙ ap (λ p. walk next p live.0) at) ∙ live.1)

-- a byte that leads nowhere is at the place
pub stops : {S : Type 0} (next : S → ℕ → Option S) (is_end : S → Bool) (from : Option S) (text : List ℕ) (i : ℕ) (s : S) → i < length text → walk next from (take i text) ≡ Some s
    → next s (get_or text i 0) ≡ None → ((more : List ℕ) × IsTrue (accepts next is_end (Some s) more)) → IsPlace (accepts next is_end from) text i
stops next is_end from text i s lt at none live = record {
  within = omega arith;
  before = goes_on next is_end from (take i text) s at live;
  after = λ _ more.
      let nowhere : walk next from (take (i + 1) text ++ more.0) ≡ None = walk-append next from (take (i + 1) text) more.0 ∙ (ap (λ p. walk next p more.0) (walk_more next from text i s lt at ∙ none) ∙ walk-None next more.0) in
      true≢false (sym more.1 ∙ ap (at_end is_end) nowhere);
  ended = λ e _. omega arith;
}

-- a text that ends where none may end has its length as its place
pub ends_early : {S : Type 0} (next : S → ℕ → Option S) (is_end : S → Bool) (from : Option S) (text : List ℕ) (s : S) → walk next from text ≡ Some s
    → is_end s ≡ false → ((more : List ℕ) × IsTrue (accepts next is_end (Some s) more)) → IsPlace (accepts next is_end from) text (length text)
ends_early next is_end from text s at short live = record {
  within = omega arith;
  before = rw (take_all (length text) text (omega arith)) (goes_on next is_end from text s at live);
  after = λ lt _. omega arith;
  ended = λ _ found. true≢false (sym found ∙ (ap (at_end is_end) at ∙ short));
}
