-- Which words are guids.
use Rattle.std.proofs.Common.{◌≡◌, ◌≢◌, ℕ, zero, suc, Bool, true, false, [], ◌∷◌, length, Some, None, true≢false, refl, sym, ap, ◌∙◌, inl, inr, arith}
use Rattle.std.specs.Prelude.{is_some, option_map, IsOk, IsSome, Result, is_ok, ◌↔◌}
use Rattle.std.specs.Int.{from_be_bytes, w128}
use Rattle.std.proofs.lemmas.Bool.{cases_Bool, ne_eqb}
use Rattle.text_scan.specs.Walks.{accepts}
use Rattle.text_scan.proofs.Walks.{accepts-None}
use Rattle.cell_world.specs.Texts.{Text}
use Rattle.cell_world.specs.KeyForms.{guid_bytes, normal_of}
use Rattle.cell_world.specs.declared.cells.KeyType.TheVariants.{Guid}
use Rattle.key_space.specs.HexTexts.{fits_left, guid_next, guid_end}
use Rattle.key_space.proofs.GuidTexts.{guid_texts}
use Rattle.key_space.proofs.HexDigits.{cases_option, some_mapped, some_value}
use Rattle.script_lang.specs.Spelling.{guid_number}

-- what is read with so many bytes left has so many
read_length : (left : ℕ) (text : Text) → accepts guid_next guid_end (Some (record { bytes = left })) text ≡ true → length text ≡ left
read_length zero [] h = refl
read_length zero (b ∷ bs) h = absurd (true≢false (sym h ∙ accepts-None guid_next guid_end bs))
read_length (suc left) [] h = absurd (true≢false (sym h ∙ ne_eqb (suc left) 0 (λ e. omega (arith, e))))
read_length (suc left) (b ∷ bs) h =
    elim (cases_Bool (fits_left (suc left) b)) [
      | inl fits ↦ ap suc (read_length left bs (rw fits at h))
      | inr other ↦ absurd (true≢false (sym (rw other at h) ∙ accepts-None guid_next guid_end bs))
    ]

-- a guid's text has 36 bytes
pub other_length : (text : Text) → length text ≢ 36 → guid_number text ≡ None
unfolding guid_number
other_length text other =
    elim (cases_option (guid_bytes text)) [
      | inl none ↦ ap (option_map (from_be_bytes w128)) none
      | inr some ↦ absurd (other (read_length 36 text (guid_texts text ∙ ap is_some some.1)))
    ]

same_test : (a b : Bool) → ((a ≡ true) ↔ (b ≡ true)) → a ≡ b
same_test true b h = sym (h.0 refl)
same_test false true h = h.1 refl
same_test false false h = refl

-- a word is a guid where it is a key of that type
pub guid_tested : {T E : Type 0} (result : Result T E) (text : Text) → (IsOk result ↔ IsSome (normal_of Guid text)) → is_ok result ≡ is_some (guid_number text)
unfolding guid_number normal_of
guid_tested result text exact =
    same_test (is_ok result) (is_some (normal_of Guid text)) exact ∙ (some_mapped _ (guid_bytes text) ∙ sym (some_mapped (from_be_bytes w128) (guid_bytes text)))

pub guid_there : (text : Text) → is_some (guid_number text) ≡ true → (bytes : Text) × (guid_bytes text ≡ Some bytes)
unfolding guid_number
guid_there text h = some_value (guid_bytes text) (sym (some_mapped (from_be_bytes w128) (guid_bytes text)) ∙ h)

pub number_there : (text bytes : Text) → guid_bytes text ≡ Some bytes → guid_number text ≡ Some (from_be_bytes w128 bytes)
unfolding guid_number
number_there text bytes found = ap (option_map (from_be_bytes w128)) found
