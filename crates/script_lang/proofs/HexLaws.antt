-- What the crate hex decodes is the bytes of the digits.
use Rattle.std.proofs.Common.{◌≡◌, ◌⊎◌, ℕ, ◌+◌, ◌*◌, ◌%◌, false, ◌==◌, [], ◌∷◌, length, Some, None, Result, Ok, Err, refl, sym, ap, ◌∙◌, inl, inr, arith}
use Rattle.std.proofs.lemmas.Bool.{cases_Bool, ne_eqb}
use Rattle.std.proofs.lemmas.Bool.Decides.{nat_tests}
use Rattle.hex.specs.declared.error.FromHexError.{FromHexError}
use Rattle.hex.specs.Hex.{hex_digit_value, decode_pairs, decode_of}
use Rattle.cell_world.specs.Texts.{Text}
use Rattle.cell_world.specs.KeyForms.{hex_digit, hex_bytes}
use Rattle.key_space.proofs.HexDigits.{cases_option, pairs_of}

same_digit : (b : ℕ) → hex_digit_value b ≡ hex_digit b
same_digit b = grind (arith, nat_tests)

cases_result : {A E : Type 0} (r : Result A E) → ((x : A) × (r ≡ Ok x)) ⊎ ((e : E) × (r ≡ Err e))
cases_result (Ok x) = inl (x, refl)
cases_result (Err e) = inr (e, refl)

-- pairs that are decoded are pairs of digits
decoded_pairs : (i : ℕ) (digits bytes : Text) → decode_pairs i digits ≡ Ok bytes → hex_bytes digits ≡ Some bytes
unfolding decode_pairs
decoded_pairs i [] bytes h = cc
decoded_pairs i (a ∷ []) bytes h = absurd cc
decoded_pairs i (a ∷ b ∷ rest) bytes h =
    elim (cases_option (hex_digit a)) [
      | inl none ↦ absurd (let bad = rw (same_digit a ∙ none) at h in cc)
      | inr x ↦ elim (cases_option (hex_digit b)) [
        | inl none ↦ absurd (let bad = rw (same_digit a ∙ x.1, same_digit b ∙ none) at h in cc)
        | inr y ↦ elim (cases_result (decode_pairs (i + 2) rest)) [
          | inr e ↦ absurd (let bad = rw (same_digit a ∙ x.1, same_digit b ∙ y.1, e.1) at h in cc)
          | inl z ↦
              let whole : Ok ((x.0 * 16 + y.0) ∷ z.0) ≡ Ok bytes = rw (same_digit a ∙ x.1, same_digit b ∙ y.1, z.1) at h in
              let order : 16 * x.0 + y.0 ≡ x.0 * 16 + y.0 = omega arith in
              rw (x.1, y.1, decoded_pairs (i + 2) rest z.0 z.1) (ap (λ n. Some (n ∷ z.0)) order ∙ cc whole)
        ]
      ]
    ]

pub decoded : (digits bytes : Text) → decode_of digits ≡ Ok bytes → hex_bytes digits ≡ Some bytes
decoded digits bytes h =
    elim (cases_Bool (length digits % 2 == 1)) [
      | inl odd ↦ absurd (let bad = rw odd at h in cc)
      | inr even ↦ decoded_pairs 0 digits bytes (rw even at h)
    ]

pub not_decoded : (digits : Text) (e : FromHexError) → decode_of digits ≡ Err e → hex_bytes digits ≡ None
not_decoded digits e h =
    elim (cases_option (hex_bytes digits)) [
      | inl none ↦ none
      | inr some ↦
          let p = pairs_of digits some.0 some.1 in
          let twice = p.twice in
          let even : (length digits % 2 == 1) ≡ false = ne_eqb (length digits % 2) 1 (λ o. omega (arith, twice, o)) in
          let fine : Ok some.0 ≡ Err e = sym (p.decoded 0) ∙ (rw even at h) in
          absurd cc
    ]
