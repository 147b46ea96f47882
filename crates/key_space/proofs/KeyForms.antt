-- Normal forms and their lists of bytes.
use Rattle.std.proofs.Common.{◌≡◌, ℕ, zero, suc, ◌+◌, ◌-◌, ◌≤◌, List, [], ◌∷◌, length, get_or, drop, ◌==◌, Some, refl, sym, ap, ◌∙◌, arith}
use Rattle.std.specs.Prelude.{slice_index}
use Rattle.std.proofs.lemmas.List.{drop_more, drop_all}
use Rattle.cell_world.specs.Texts.{Text}
use Rattle.cell_world.specs.KeyForms.{last_is_zero, guid_form}
use Rattle.cell_world.specs.KeyPrinting.{guid_unformed}
use Rattle.cell_world.specs.declared.cells.KeyType.TheVariants as types
use Rattle.key_space.specs.Values.{type_of, form_of, IsKey}
use Rattle.key_space.specs.declared.keys.Key.{Key}
use Rattle.key_space.specs.declared.keys.Key.TheVariants.{Int, Long, Guid, Bytes, Datetime, Timespan}

pub last_byte : (bytes : List ℕ) → 1 ≤ length bytes → (slice_index bytes (length bytes - 1) == 0) ≡ last_is_zero bytes
last_byte [] le = absurd (omega arith)
last_byte (b ∷ []) le = refl
last_byte (b ∷ c ∷ bs) le =
    let last : length (b ∷ c ∷ bs) - 1 ≡ suc (length bs) = omega arith in
    let shorter : length (c ∷ bs) - 1 ≡ length bs = omega arith in
    ap (λ n. get_or (b ∷ c ∷ bs) n 0 == 0) last ∙ (ap (λ n. get_or (c ∷ bs) n 0 == 0) (sym shorter) ∙ last_byte (c ∷ bs) (omega arith))

-- n elements from place i on
abbrev pub listed : ℕ → ℕ → List ℕ → List ℕ
listed zero i xs = []
listed (suc n) i xs = get_or xs i 0 ∷ listed n (i + 1) xs

-- a list by its elements
pub drop-listed : (n i : ℕ) (xs : List ℕ) → length xs ≡ i + n → drop i xs ≡ listed n i xs
drop-listed zero i xs e = drop_all i xs (omega arith)
drop-listed (suc n) i xs e = drop_more xs i 0 (omega arith) ∙ ap (λ (l : List ℕ). get_or xs i 0 ∷ l) (drop-listed n (i + 1) xs (omega arith))

-- the bytes of a guid and of its normal form tell each other
pub unformed : (bytes : Text) → length bytes ≡ 16 → guid_unformed (guid_form bytes) ≡ bytes
unformed bytes e = sym (drop-listed 16 0 bytes e)

pub formed : (form : Text) → length form ≡ 16 → guid_form (guid_unformed form) ≡ form
formed form e = sym (drop-listed 16 0 form e)

pub one_guid : (key : Key) (form : Text) → IsKey key → type_of key ≡ types.Guid → form_of key ≡ form → Some (Guid (guid_unformed form)) ≡ Some key
one_guid (Guid bytes) form is type same = ap (λ b. Some (Guid b)) (ap guid_unformed (sym same) ∙ unformed bytes is.count)
one_guid (Int x) form is type same = absurd cc
one_guid (Long x) form is type same = absurd cc
one_guid (Bytes x) form is type same = absurd cc
one_guid (Datetime x) form is type same = absurd cc
one_guid (Timespan x) form is type same = absurd cc
