-- A printed number is read as the same number.
use Rattle.std.proofs.Common.{◌≡◌, ℕ, suc, ◌+◌, ◌-◌, ◌*◌, ◌/◌, ◌%◌, ◌^◌, ◌<◌, true, ◌==◌, [], ◌∷◌, ◌++◌, Option, Some, unwrap_or, refl, ap, ◌∙◌, inl, inr, arith, ℤ, pos}
use Rattle.std.specs.Prelude.{negsuc}
use Rattle.std.specs.Fmt.{decimal, signed_decimal}
use Rattle.std.proofs.lemmas.Bool.{cases_Bool, cases_lt, eqb-true, ne_eqb, lt-ltb, le-ltb, le-leb}
use Rattle.std.proofs.lemmas.Bool.Decides.{nat_tests}
use Rattle.std.proofs.lemmas.Fmt.{decimal_by_steps}
use Rattle.cell_world.specs.Texts.{Text, is_digit}
use Rattle.cell_world.specs.KeyForms.{digits_from, number_of, signed_number}
use Rattle.cell_world.specs.KeyPrinting.{signed_text}
use Rattle.key_space.specs.Values.{moved_up}
use Rattle.key_space.proofs.HexDigits.{none_some}
use Rattle.key_space.proofs.DecimalValues.{Within, read_number}

digit_glyph : (d : ℕ) → d < 10 → is_digit (48 + d) ≡ true
digit_glyph d lt = grind (arith, nat_tests)

-- one digit more
digits_push : (n : ℕ) (ds : Text) (m d : ℕ) → digits_from n ds ≡ Some m → d < 10 → digits_from n (ds ++ (48 + d) ∷ []) ≡ Some (10 * m + d)
digits_push n [] m d h lt =
    let same : n ≡ m = ap (λ (o : Option ℕ). unwrap_or o 0) h in
    rw (digit_glyph d lt) (ap Some (omega (arith, same)))
digits_push n (b ∷ bs) m d h lt =
    elim (cases_Bool (is_digit b)) [
      | inl one ↦ rw one (digits_push (10 * n + (b - 48)) bs m d (rw one at h) lt)
      | inr other ↦ none_some m (rw other at h)
    ]

number_push : (ds : Text) (m d : ℕ) → number_of ds ≡ Some m → 0 < m → d < 10 → number_of (ds ++ (48 + d) ∷ []) ≡ Some (10 * m + d)
number_push [] m d h some lt = none_some m h
number_push (b ∷ []) m d h some lt =
    elim (cases_Bool (b == 48)) [
      | inl nil ↦
          let zero_is : Some 0 ≡ Some m = rw (eqb-true b 48 nil) at h in
          let same : 0 ≡ m = ap (λ (o : Option ℕ). unwrap_or o 0) zero_is in
          absurd (omega (arith, same, some))
      | inr more ↦ rw more (digits_push 0 (b ∷ []) m d h lt)
    ]
number_push (b ∷ c ∷ bs) m d h some lt =
    elim (cases_Bool (b == 48)) [
      | inl nil ↦ none_some m (rw nil at h)
      | inr more ↦ rw more (digits_push 0 (b ∷ c ∷ bs) m d (rw more at h) lt)
    ]

pub number_again : (n : ℕ) → n < 2 ^ 64 → number_of (decimal n) ≡ Some n
number_again =
    decimal_by_steps (λ n ds. number_of ds ≡ Some n)
    (λ n lt. rw (digit_glyph n lt) (ap Some (omega arith)))
    (λ n ds le rest. number_push ds (n / 10) (n % 10) rest (omega arith) (omega arith) ∙ ap Some (omega arith))

plain_again : (half n : ℕ) (text : Text) → number_of text ≡ Some n → n < half → signed_number half text ≡ Some (half + n)
plain_again half n [] h lt = none_some n h
plain_again half n (b ∷ bs) h lt =
    let first = (read_number (b ∷ bs) (rw h refl)).first in
    rw (ne_eqb b 45 (λ e. omega (arith, first.0, e)), h, lt-ltb n half lt) refl

pub signed_again : (half m : ℕ) → half < 2 ^ 64 → m < 2 * half → signed_number half (signed_text half m) ≡ Some m
signed_again half m small lt =
    elim (cases_lt m half) [
      | inl under ↦
          rw (lt-ltb m half under, number_again (half - m) (omega arith), lt-ltb 0 (half - m) (omega arith), le-leb (half - m) half (omega arith)) (ap Some (omega arith))
      | inr over ↦
          rw (le-ltb m half over) (plain_again half (m - half) (decimal (m - half)) (number_again (m - half) (omega arith)) (omega arith) ∙ ap Some (omega arith))
    ]

-- ---- by the value

pub moved_below : (half : ℕ) (z : ℤ) → Within half z → moved_up half z < 2 * half
moved_below half (pos n) h = omega arith
moved_below half (negsuc n) h = omega arith

pub printed_signed : (half : ℕ) (z : ℤ) → Within half z → signed_decimal z ≡ signed_text half (moved_up half z)
printed_signed half (pos n) h =
    let value : half + n - half ≡ n = omega arith in
    rw (le-ltb (half + n) half (omega arith), value) refl
printed_signed half (negsuc n) h =
    let value : half - (half - suc n) ≡ suc n = omega arith in
    rw (lt-ltb (half - suc n) half (omega arith), value) refl
