-- The state machines of decimal texts accept just the texts of the grammars.
use Rattle.std.proofs.Common.{◌≡◌, ℕ, ◌+◌, ◌-◌, ◌*◌, ◌<◌, ◌≤◌, Bool, true, false, ◌==◌, [], ◌∷◌, Some, None, refl, sym, ◌∙◌, inl, inr, arith, if◌then◌else◌}
use Rattle.std.specs.Prelude.{is_some}
use Rattle.std.proofs.lemmas.Bool.{cases_Bool, and_parts, eqb-true, eqb-false, lt-ltb, leb-true}
use Rattle.text_scan.specs.Walks.{accepts}
use Rattle.text_scan.proofs.Walks.{accepts-None}
use Rattle.cell_world.specs.Texts.{Text, is_digit}
use Rattle.cell_world.specs.KeyForms.{digits_from, number_of}
use Rattle.key_space.specs.Texts.{is_above_zero, is_signed_text}
use Rattle.key_space.specs.Decimals.{signed_next, signed_end, unsigned_next, unsigned_end}
use Rattle.key_space.specs.declared.decimals.Signed.{Signed}
use Rattle.key_space.specs.declared.decimals.Signed.TheVariants as s
use Rattle.key_space.specs.declared.decimals.Unsigned.{Unsigned}
use Rattle.key_space.specs.declared.decimals.Unsigned.TheVariants as u

abbrev signed_from : Signed → Text → Bool
signed_from state text = accepts signed_next signed_end (Some state) text

abbrev unsigned_from : Unsigned → Text → Bool
unsigned_from state text = accepts unsigned_next unsigned_end (Some state) text

signed_nowhere : (text : Text) → accepts signed_next signed_end None text ≡ false
signed_nowhere = accepts-None signed_next signed_end

unsigned_nowhere : (text : Text) → accepts unsigned_next unsigned_end None text ≡ false
unsigned_nowhere = accepts-None unsigned_next unsigned_end

pub digit_range : (b : ℕ) → is_digit b ≡ true → (48 ≤ b) × (b ≤ 57)
digit_range b h = let p = and_parts _ _ h in (leb-true 48 b p.0, leb-true b 57 p.1)

signed_digits : (n : ℕ) (bs : Text) → signed_from s.Digits bs ≡ is_some (digits_from n bs)
signed_digits n [] = refl
signed_digits n (b ∷ bs) =
    elim (cases_Bool (is_digit b)) [
      | inl one ↦ rw one (signed_digits (10 * n + (b - 48)) bs)
      | inr other ↦ rw other (signed_nowhere bs)
    ]

unsigned_digits : (n : ℕ) (bs : Text) → unsigned_from u.Digits bs ≡ is_some (digits_from n bs)
unsigned_digits n [] = refl
unsigned_digits n (b ∷ bs) =
    elim (cases_Bool (is_digit b)) [
      | inl one ↦ rw one (unsigned_digits (10 * n + (b - 48)) bs)
      | inr other ↦ rw other (unsigned_nowhere bs)
    ]

-- what is above zero stays so with more digits
above : (n : ℕ) (bs : Text) → 0 < n → is_above_zero (digits_from n bs) ≡ is_some (digits_from n bs)
above n [] some = lt-ltb 0 n some
above n (b ∷ bs) some =
    elim (cases_Bool (is_digit b)) [
      | inl one ↦ rw one (above (10 * n + (b - 48)) bs (omega arith))
      | inr other ↦ rw other refl
    ]

-- a first digit that is not 0 is above zero
first_above : (b : ℕ) → (b == 48) ≡ false → is_digit b ≡ true → 0 < 10 * 0 + (b - 48)
first_above b more one = let r = digit_range b one in omega (arith, r.0, eqb-false b 48 more)

after_minus : (bs : Text) → signed_from s.Minus bs ≡ is_above_zero (number_of bs)
after_minus [] = refl
after_minus (b ∷ []) =
    elim (cases_Bool (b == 48)) [
      | inl nil ↦ rw (eqb-true b 48 nil) refl
      | inr more ↦ elim (cases_Bool (is_digit b)) [
        | inl one ↦ rw (more, one) (sym (lt-ltb 0 (10 * 0 + (b - 48)) (first_above b more one)))
        | inr other ↦ rw (more, other) refl
      ]
    ]
after_minus (b ∷ c ∷ bs) =
    elim (cases_Bool (b == 48)) [
      | inl nil ↦ rw nil (signed_nowhere (c ∷ bs))
      | inr more ↦ elim (cases_Bool (is_digit b)) [
        | inl one ↦ rw (more, one) (signed_digits (10 * 0 + (b - 48)) (c ∷ bs) ∙ sym (above (10 * 0 + (b - 48)) (c ∷ bs) (first_above b more one)))
        | inr other ↦ rw (more, other) (signed_nowhere (c ∷ bs))
      ]
    ]

pub unsigned_texts : (text : Text) → unsigned_from u.Start text ≡ is_some (number_of text)
unsigned_texts [] = refl
unsigned_texts (b ∷ []) =
    elim (cases_Bool (b == 48)) [
      | inl nil ↦ rw (eqb-true b 48 nil) refl
      | inr more ↦ elim (cases_Bool (is_digit b)) [ inl one ↦ rw (more, one) refl | inr other ↦ rw (more, other) refl ]
    ]
unsigned_texts (b ∷ c ∷ bs) =
    elim (cases_Bool (b == 48)) [
      | inl nil ↦ rw nil (unsigned_nowhere bs)
      | inr more ↦ elim (cases_Bool (is_digit b)) [
        | inl one ↦ rw (more, one) (unsigned_digits (10 * 0 + (b - 48)) (c ∷ bs))
        | inr other ↦ rw (more, other) (unsigned_nowhere (c ∷ bs))
      ]
    ]

pub signed_texts : (text : Text) → signed_from s.Start text ≡ is_signed_text text
signed_texts [] = refl
signed_texts (b ∷ bs) =
    elim (cases_Bool (b == 45)) [
      | inl minus ↦ rw minus (after_minus bs)
      | inr plain ↦ rw plain (plain_text b bs)
    ]
  where
    -- the text begins with no minus
    plain_text : (b : ℕ) (bs : Text) → accepts signed_next signed_end (if b == 48 then Some s.Zero else if is_digit b then Some s.Digits else None) bs ≡ is_some (number_of (b ∷ bs))
    plain_text b [] =
        elim (cases_Bool (b == 48)) [
          | inl nil ↦ rw (eqb-true b 48 nil) refl
          | inr more ↦ elim (cases_Bool (is_digit b)) [ inl one ↦ rw (more, one) refl | inr other ↦ rw (more, other) refl ]
        ]
    plain_text b (c ∷ bs) =
        elim (cases_Bool (b == 48)) [
          | inl nil ↦ rw nil (signed_nowhere bs)
          | inr more ↦ elim (cases_Bool (is_digit b)) [
            | inl one ↦ rw (more, one) (signed_digits (10 * 0 + (b - 48)) (c ∷ bs))
            | inr other ↦ rw (more, other) (signed_nowhere (c ∷ bs))
          ]
        ]
