-- Hexadecimal digits, in the words of this project and of the crates hex and uuid.
use Rattle.std.proofs.Common.{◌≡◌, ◌⊎◌, ℕ, zero, suc, ◌+◌, ◌*◌, ◌<◌, true, [], ◌∷◌, ◌++◌, length, get_or, Option, Some, None, Ok, unwrap_or, true≢false, refl, sym, ap, subst, ◌∙◌, inl, inr, arith}
use Rattle.std.specs.Prelude.{is_some, option_map}
use Rattle.std.specs.Option.{IsSome, SomeIff}
use Rattle.std.specs.List.{list_all}
use Rattle.std.proofs.lemmas.Bool.Decides.{nat_tests}
use Rattle.hex.specs.Hex.{hex_digit_value, decode_pairs}
use Rattle.uuid.specs.Text.{is_hex_digit, value_of}
use Rattle.cell_world.specs.Texts.{Text}
use Rattle.cell_world.specs.KeyForms.{hex_digit, hex_bytes}

pub cases_option : {A : Type 0} (o : Option A) → (o ≡ None) ⊎ ((x : A) × (o ≡ Some x))
cases_option None = inl refl
cases_option (Some x) = inr (x, refl)

pub cases_list : (xs : Text) → (xs ≡ []) ⊎ ((b : ℕ) × (bs : Text) × (xs ≡ b ∷ bs))
cases_list [] = inl refl
cases_list (b ∷ bs) = inr (b, bs, refl)

pub some_mapped : {A B : Type 0} (f : A → B) (o : Option A) → is_some (option_map f o) ≡ is_some o
some_mapped f None = refl
some_mapped f (Some x) = refl

pub some_value : {A : Type 0} (o : Option A) → is_some o ≡ true → (x : A) × (o ≡ Some x)
some_value None h = absurd (true≢false (sym h))
some_value (Some x) h = (x, refl)

pub some_if : {A : Type 0} (o : Option A) (P : Type 0) (x : A) → SomeIff o P x → P → IsSome o
some_if None P x h p = absurd (h p)
some_if (Some y) P x h p = refl

pub none_some : {A : Type 0} {P : Type 0} (x : A) → None ≡ Some x → P
none_some x e = absurd cc

-- a digit's value is the same to all three
same_digit : (b : ℕ) → hex_digit_value b ≡ hex_digit b
same_digit b = grind (arith, nat_tests)

digit_of_uuid : (b v : ℕ) → hex_digit b ≡ Some v → (is_hex_digit b ≡ true) × (value_of b ≡ v)
digit_of_uuid b v h = grind (arith, nat_tests)

-- the first byte of pairs of digits, and the rest
record IsFirst (a b : ℕ) (digits bytes : Text) : Type 0 where
  high : ℕ
  low : ℕ
  rest : Text
  first : hex_digit a ≡ Some high
  second : hex_digit b ≡ Some low
  behind : hex_bytes digits ≡ Some rest
  whole : (16 * high + low) ∷ rest ≡ bytes

first_pair : (a b : ℕ) (digits bytes : Text) → hex_bytes (a ∷ b ∷ digits) ≡ Some bytes → IsFirst a b digits bytes
first_pair a b digits bytes h =
    elim (cases_option (hex_digit a)) [
      | inl none ↦ none_some bytes (rw none at h)
      | inr x ↦ elim (cases_option (hex_digit b)) [
        | inl none ↦ none_some bytes (rw (x.1, none) at h)
        | inr y ↦ elim (cases_option (hex_bytes digits)) [
          | inl none ↦ none_some bytes (rw (x.1, y.1, none) at h)
          | inr z ↦ record { high = x.0; low = y.0; rest = z.0; first = x.1; second = y.1; behind = z.1; whole = ap (λ (o : Option Text). unwrap_or o []) (rw (x.1, y.1, z.1) at h) }
        ]
      ]
    ]

-- what pairs of digits are to hex and to uuid
pub record IsPairs (digits bytes : Text) : Type 0 where
  pub twice : length digits ≡ 2 * length bytes
  pub decoded : (i : ℕ) → decode_pairs i digits ≡ Ok bytes
  pub all_hex : list_all is_hex_digit digits ≡ true
  pub each : (j : ℕ) → j < length bytes → get_or bytes j 0 ≡ value_of (get_or digits (2 * j) 0) * 16 + value_of (get_or digits (2 * j + 1) 0)

pub pairs_of : (digits bytes : Text) → hex_bytes digits ≡ Some bytes → IsPairs digits bytes
unfolding decode_pairs
pairs_of [] bytes h =
    subst (IsPairs []) (ap (λ (o : Option Text). unwrap_or o []) h) (record { twice = refl; decoded = λ i. refl; all_hex = refl; each = λ j lt. absurd (omega arith) })
pairs_of (a ∷ []) bytes h = none_some bytes h
pairs_of (a ∷ b ∷ digits) bytes h =
    let p = first_pair a b digits bytes h in
    let q = pairs_of digits p.rest p.behind in
    subst (IsPairs (a ∷ b ∷ digits)) p.whole (joined a b digits p.high p.low p.rest p.first p.second q)
  where
    joined : (a b : ℕ) (digits : Text) (high low : ℕ) (rest : Text) → hex_digit a ≡ Some high → hex_digit b ≡ Some low → IsPairs digits rest → IsPairs (a ∷ b ∷ digits) ((16 * high + low) ∷ rest)
    joined a b digits high low rest first second q =
        let fa : hex_digit_value a ≡ Some high = same_digit a ∙ first in
        let fb : hex_digit_value b ≡ Some low = same_digit b ∙ second in
        let va = digit_of_uuid a high first in
        let vb = digit_of_uuid b low second in
        let order : high * 16 + low ≡ 16 * high + low = omega arith in
        record {
          twice = omega (arith, q.twice);
          decoded = λ i. rw (fa, fb, q.decoded (i + 2)) (ap (λ n. Ok (n ∷ rest)) order);
          all_hex = rw (va.0, vb.0, q.all_hex) refl;
          each = each_of a b digits high low rest va.1 vb.1 q;
        }
      where
        each_of : (a b : ℕ) (digits : Text) (high low : ℕ) (rest : Text) → value_of a ≡ high → value_of b ≡ low → IsPairs digits rest
            → (j : ℕ) → j < length ((16 * high + low) ∷ rest) → get_or ((16 * high + low) ∷ rest) j 0 ≡ value_of (get_or (a ∷ b ∷ digits) (2 * j) 0) * 16 + value_of (get_or (a ∷ b ∷ digits) (2 * j + 1) 0)
        each_of a b digits high low rest va vb q zero lt = rw (va, vb) (omega arith)
        each_of a b digits high low rest va vb q (suc j) lt =
            let even : 2 * suc j ≡ suc (suc (2 * j)) = omega arith in
            let odd : 2 * suc j + 1 ≡ suc (suc (2 * j + 1)) = omega arith in
            rw (odd, even) (q.each j (omega arith))

pub pairs_append : (xs ys as1 bs : Text) → hex_bytes xs ≡ Some as1 → hex_bytes ys ≡ Some bs → hex_bytes (xs ++ ys) ≡ Some (as1 ++ bs)
pairs_append [] ys as1 bs h k = k ∙ ap (λ (o : Text). Some (o ++ bs)) (ap (λ (o : Option Text). unwrap_or o []) h)
pairs_append (a ∷ []) ys as1 bs h k = none_some as1 h
pairs_append (a ∷ b ∷ xs) ys as1 bs h k =
    let p = first_pair a b xs as1 h in
    rw (p.first, p.second, pairs_append xs ys p.rest bs p.behind k) (ap (λ (o : Text). Some (o ++ bs)) p.whole)
