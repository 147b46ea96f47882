-- The state machine of bytes keys accepts just their texts, and what is behind `0x` is pairs of digits.
use Rattle.std.proofs.Common.{◌≡◌, ℕ, ◌+◌, ◌*◌, ◌/◌, ◌%◌, ◌≤◌, Bool, true, false, ◌==◌, [], ◌∷◌, length, drop, Some, None, Ok, true≢false, refl, sym, ◌∙◌, inl, inr, arith}
use Rattle.std.specs.Prelude.{is_some}
use Rattle.std.proofs.lemmas.Bool.{cases_Bool, ne_eqb, eq-eqb}
use Rattle.text_scan.specs.Walks.{accepts}
use Rattle.text_scan.proofs.Walks.{accepts-None}
use Rattle.cell_world.specs.Texts.{Text}
use Rattle.cell_world.specs.KeyForms.{hex_digit, hex_bytes}
use Rattle.key_space.specs.Texts.{written_bytes}
use Rattle.key_space.specs.HexTexts.{bytes_next, bytes_end}
use Rattle.key_space.specs.declared.bytes_texts.BytesAt.{BytesAt}
use Rattle.key_space.specs.declared.bytes_texts.BytesAt.TheVariants.{Start, Even}
use Rattle.hex.specs.Hex.{decode_sized}
use Rattle.key_space.proofs.HexDigits.{cases_option, some_mapped, pairs_of}

abbrev from : BytesAt → Text → Bool
from state text = accepts bytes_next bytes_end (Some state) text

nowhere : (text : Text) → accepts bytes_next bytes_end None text ≡ false
nowhere = accepts-None bytes_next bytes_end

pairs : (digits : Text) → from Even digits ≡ is_some (hex_bytes digits)
pairs [] = refl
pairs (a ∷ []) = elim (cases_option (hex_digit a)) [ inl none ↦ rw none refl | inr x ↦ rw x.1 refl ]
pairs (a ∷ b ∷ digits) =
    elim (cases_option (hex_digit a)) [
      | inl none ↦ rw none (nowhere digits)
      | inr x ↦ elim (cases_option (hex_digit b)) [
        | inl none ↦ rw (x.1, none) (nowhere digits)
        | inr y ↦ rw (x.1, y.1) (pairs digits ∙ sym (some_mapped (λ rest. (16 * x.0 + y.0) ∷ rest) (hex_bytes digits)))
      ]
    ]

pub bytes_texts : (text : Text) → from Start text ≡ is_some (written_bytes text)
bytes_texts [] = refl
bytes_texts (a ∷ []) = elim (cases_Bool (a == 48)) [ inl one ↦ rw one refl | inr other ↦ rw other refl ]
bytes_texts (a ∷ b ∷ digits) =
    elim (cases_Bool (a == 48)) [
      | inl one ↦ elim (cases_Bool (b == 120)) [ inl both ↦ rw (one, both) (pairs digits) | inr other ↦ rw (one, other) (nowhere digits) ]
      | inr other ↦ rw other (nowhere digits)
    ]

-- the digits are behind the first two bytes
pub digits_behind : (text : Text) → is_some (written_bytes text) ≡ true → (2 ≤ length text) × (written_bytes text ≡ hex_bytes (drop 2 text))
digits_behind [] h = absurd (true≢false (sym h))
digits_behind (a ∷ []) h = absurd (true≢false (sym h))
digits_behind (a ∷ b ∷ digits) h =
    elim (cases_Bool (a == 48)) [
      | inl one ↦ elim (cases_Bool (b == 120)) [ inl both ↦ (omega arith, rw (one, both) refl) | inr other ↦ absurd (true≢false (sym (rw (one, other) at h))) ]
      | inr other ↦ absurd (true≢false (sym (rw other at h)))
    ]

-- what hex answers for pairs of digits
pub decoded : (digits bytes : Text) (n : ℕ) → hex_bytes digits ≡ Some bytes → length bytes ≡ n → decode_sized digits n ≡ Ok bytes
decoded digits bytes n h count =
    let p = pairs_of digits bytes h in
    let twice = p.twice in
    rw (ne_eqb (length digits % 2) 1 (λ e. omega (arith, twice, e)), eq-eqb (length digits / 2) n (omega (arith, twice, count))) (p.decoded 0)
