-- What parse gives for a decimal text is its number.
use Rattle.std.proofs.Common.{◌≡◌, ℕ, zero, suc, ◌+◌, ◌-◌, ◌*◌, ◌<◌, ◌≤◌, ◌^◌, true, false, ◌==◌, ◌&&◌, [], ◌∷◌, get_or, Option, Some, None, Result, Ok, Err, IsOk, true≢false, refl, sym, ap, subst, inl, inr, arith, if◌then◌else◌, unwrap_or, ℤ, pos, neg_ℤ}
use Rattle.std.specs.Prelude.{negsuc, is_some, nat_lt, nat_le, MatchResult, FitsSigned}
use Rattle.std.specs.Int.{w32, w64}
use Rattle.std.specs.Str.{IsUtf8}
use Rattle.std.specs.Str.Parse.{IsNumeral, AllDigits, digits_value, digits_value_after, signed_digits_value, without_leading_sign, without_leading_plus}
use Rattle.std.specs.Char.{digit_value}
use Rattle.std.proofs.lemmas.Bool.{cases_Bool, eqb-true, ne_eqb, lt-ltb, le-ltb, le-leb, lt-leb, ltb-true, cases_lt}
use Rattle.std.proofs.lemmas.Str.{IsUtf8-from_ascii, digit_value_digit}
use Rattle.std.proofs.lemmas.Str.Ascii.{IsAscii-cons}
use Rattle.std.proofs.lemmas.Fmt.{IsAscii-from_digits}
use Rattle.cell_world.specs.Texts.{Text, is_digit}
use Rattle.cell_world.specs.KeyForms.{digits_from, number_of, signed_number}
use Rattle.key_space.specs.Values.{moved_up}
use Rattle.key_space.specs.Texts.{is_above_zero, is_signed_text}
use Rattle.key_space.proofs.DecimalTexts.{digit_range}

-- ---- digits

pub read_digits : (n : ℕ) (ds : Text) → is_some (digits_from n ds) ≡ true → AllDigits 10 ds × (digits_from n ds ≡ Some (digits_value_after 10 n ds))
read_digits n [] h = (tt, refl)
read_digits n (b ∷ bs) h =
    elim (cases_Bool (is_digit b)) [
      | inl one ↦
          let range = digit_range b one in
          let value : digit_value b + 48 ≡ b = digit_value_digit b range in
          let step : 10 * n + (b - 48) ≡ n * 10 + digit_value b = omega (arith, value) in
          let rest = read_digits (n * 10 + digit_value b) bs (subst (λ m. is_some (digits_from m bs) ≡ true) step (rw one at h)) in
          ((omega (arith, value, range.1), rest.0), rw (one, step) rest.1)
      | inr other ↦ absurd (true≢false (sym (rw other at h)))
    ]

-- what number_of and parse say of one text
pub record IsNumberText (text : Text) : Type 0 where
  pub numeral : IsNumeral 10 text
  pub value : number_of text ≡ Some (digits_value 10 text)
  pub first : (48 ≤ get_or text 0 0) × (get_or text 0 0 ≤ 57)

pub read_number : (text : Text) → is_some (number_of text) ≡ true → IsNumberText text
read_number [] h = absurd (true≢false (sym h))
read_number (b ∷ []) h = let d = read_digits 0 (b ∷ []) h in record { numeral = (omega arith, d.0); value = d.1; first = first_of b [] h }
  where
    first_of : (b : ℕ) (bs : Text) → is_some (digits_from 0 (b ∷ bs)) ≡ true → (48 ≤ b) × (b ≤ 57)
    first_of b bs h = elim (cases_Bool (is_digit b)) [ inl one ↦ digit_range b one | inr other ↦ absurd (true≢false (sym (rw other at h))) ]
read_number (b ∷ c ∷ bs) h =
    elim (cases_Bool (b == 48)) [
      | inl nil ↦ absurd (true≢false (sym (rw nil at h)))
      | inr more ↦
          let k : is_some (digits_from 0 (b ∷ c ∷ bs)) ≡ true = rw more at h in
          let d = read_digits 0 (b ∷ c ∷ bs) k in
          record { numeral = (omega arith, d.0); value = rw more d.1; first = first_of b (c ∷ bs) k }
    ]
  where
    first_of : (b : ℕ) (bs : Text) → is_some (digits_from 0 (b ∷ bs)) ≡ true → (48 ≤ b) × (b ≤ 57)
    first_of b bs h = elim (cases_Bool (is_digit b)) [ inl one ↦ digit_range b one | inr other ↦ absurd (true≢false (sym (rw other at h))) ]

pub without_plus : (text : Text) → IsNumberText text → without_leading_plus text ≡ text
without_plus text is = rw (ne_eqb (get_or text 0 0) 43 (λ e. omega (arith, is.first.0, e))) refl

pub without_sign : (text : Text) → IsNumberText text → without_leading_sign text ≡ text
without_sign text is = rw (ne_eqb (get_or text 0 0) 45 (λ e. omega (arith, is.first.0, e))) (without_plus text is)

pub number_utf8 : (text : Text) → IsNumberText text → IsUtf8 text
number_utf8 text is = IsUtf8-from_ascii text (IsAscii-from_digits text is.numeral.1)

-- ---- with a sign

-- at least minus half, and below half
abbrev pub Within : ℕ → ℤ → Type 0
Within half (pos n) = n < half
Within half (negsuc n) = n < half

pub within_32 : (z : ℤ) → FitsSigned w32 z → Within (2 ^ 31) z
within_32 (pos n) h = h.sfits
within_32 (negsuc n) h = h.sfits

pub within_64 : (z : ℤ) → FitsSigned w64 z → Within (2 ^ 63) z
within_64 (pos n) h = h.sfits
within_64 (negsuc n) h = h.sfits

pub fits_32 : (z : ℤ) → Within (2 ^ 31) z → FitsSigned w32 z
fits_32 (pos n) h = record { sfits = h }
fits_32 (negsuc n) h = record { sfits = h }

pub fits_64 : (z : ℤ) → Within (2 ^ 63) z → FitsSigned w64 z
fits_64 (pos n) h = record { sfits = h }
fits_64 (negsuc n) h = record { sfits = h }

-- the number of a text with a sign, moved up, where it is within the bounds
pub record IsSignedText (half : ℕ) (text : Text) : Type 0 where
  pub numeral : IsNumeral 10 (without_leading_sign text)
  pub utf8 : IsUtf8 text
  pub inside : Within half (signed_digits_value 10 text) → signed_number half text ≡ Some (moved_up half (signed_digits_value 10 text))
  pub outside : (Within half (signed_digits_value 10 text) → ⊥) → signed_number half text ≡ None

abbrev minus_of : ℕ → ℕ → Option ℕ
minus_of half n = if nat_lt 0 n && nat_le n half then Some (half - n) else None

abbrev plus_of : ℕ → ℕ → Option ℕ
plus_of half n = if nat_lt n half then Some (half + n) else None

minus_inside : (half n : ℕ) → 0 < n → Within half (neg_ℤ (pos n)) → minus_of half n ≡ Some (moved_up half (neg_ℤ (pos n)))
minus_inside half zero some h = absurd (omega arith)
minus_inside half (suc n) some h = rw (lt-ltb 0 (suc n) some, le-leb (suc n) half (omega arith)) refl

minus_outside : (half n : ℕ) → 0 < n → (Within half (neg_ℤ (pos n)) → ⊥) → minus_of half n ≡ None
minus_outside half zero some h = absurd (omega arith)
minus_outside half (suc n) some h =
    elim (cases_lt n half) [
      | inl lt ↦ absurd (h lt)
      | inr le ↦ rw (lt-ltb 0 (suc n) some, lt-leb (suc n) half (omega arith)) refl
    ]

plus_inside : (half n : ℕ) → n < half → plus_of half n ≡ Some (half + n)
plus_inside half n h = rw (lt-ltb n half h) refl

plus_outside : (half n : ℕ) → (n < half → ⊥) → plus_of half n ≡ None
plus_outside half n h =
    elim (cases_lt n half) [
      | inl lt ↦ absurd (h lt)
      | inr le ↦ rw (le-ltb n half le) refl
    ]

above_zero : (o : Option ℕ) → is_above_zero o ≡ true → (is_some o ≡ true) × ((n : ℕ) → o ≡ Some n → 0 < n)
above_zero None h = absurd (true≢false (sym h))
above_zero (Some m) h = (refl, λ n e. let same : m ≡ n = ap (λ (o : Option ℕ). unwrap_or o 0) e in omega (arith, same, ltb-true 0 m h))

-- `-` and a number above zero
minus_text : (half : ℕ) (ds : Text) → is_above_zero (number_of ds) ≡ true → IsSignedText half (45 ∷ ds)
minus_text half ds h =
    let found = above_zero (number_of ds) h in
    let is = read_number ds found.0 in
    let some : 0 < digits_value 10 ds = found.1 (digits_value 10 ds) is.value in
    record {
      numeral = is.numeral;
      utf8 = IsUtf8-from_ascii (45 ∷ ds) (IsAscii-cons 45 ds (omega arith) (IsAscii-from_digits ds is.numeral.1));
      inside = λ within. rw is.value (minus_inside half (digits_value 10 ds) some within);
      outside = λ out. rw is.value (minus_outside half (digits_value 10 ds) some out);
    }

-- a number with no sign
plain_text : (half b : ℕ) (bs : Text) → (b == 45) ≡ false → is_some (number_of (b ∷ bs)) ≡ true → IsSignedText half (b ∷ bs)
plain_text half b bs plain h =
    let is = read_number (b ∷ bs) h in
    let unsigned = without_sign (b ∷ bs) is in
    let value : signed_digits_value 10 (b ∷ bs) ≡ pos (digits_value 10 (b ∷ bs)) = rw (plain, without_plus (b ∷ bs) is) refl in
    record {
      numeral = subst (IsNumeral 10) (sym unsigned) is.numeral;
      utf8 = number_utf8 (b ∷ bs) is;
      inside = λ within. rw (value, plain, is.value) (plus_inside half (digits_value 10 (b ∷ bs)) (subst (Within half) value within));
      outside = λ out. rw (plain, is.value) (plus_outside half (digits_value 10 (b ∷ bs)) (λ lt. out (subst (Within half) (sym value) lt)));
    }

pub read_signed : (half : ℕ) (text : Text) → is_signed_text text ≡ true → IsSignedText half text
read_signed half [] h = absurd (true≢false (sym h))
read_signed half (b ∷ bs) h =
    elim (cases_Bool (b == 45)) [
      | inl minus ↦ subst (λ n. IsSignedText half (n ∷ bs)) (sym (eqb-true b 45 minus)) (minus_text half bs (rw minus at h))
      | inr plain ↦ plain_text half b bs plain (rw plain at h)
    ]

-- ---- what parse answers

-- a text that is UTF-8 is read as text
pub ok_from : {T E : Type 0} (r : Result T E) (P : T → Type 0) (U : Type 0) (Q : E → Type 0) → MatchResult r P (λ e. (U → ⊥) × Q e) → U → IsOk r
ok_from (Ok x) P U Q h u = refl
ok_from (Err e) P U Q h u = absurd (h.0 u)
