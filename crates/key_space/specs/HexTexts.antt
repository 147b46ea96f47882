-- The state machines of texts with hexadecimal digits: bytes keys and guids.
use Rattle.std.specs.Prelude.{◌≡◌, ℕ, zero, suc, ◌==◌, ◌||◌, Bool, true, false, List, [], ◌∷◌, Option, Some, None, is_some, if◌then◌else◌, IsTrue, refl}
use Rattle.std.proofs.Common.{ap, ◌∙◌}
use Rattle.text_scan.specs.Walks.{walk, at_end, accepts}
use Rattle.cell_world.specs.KeyForms.{hex_digit}
use Rattle.key_space.specs.declared.bytes_texts.BytesAt.{BytesAt}
use Rattle.key_space.specs.declared.bytes_texts.BytesAt.TheVariants.{Start, Zero, Even, Odd}
use Rattle.key_space.specs.declared.guid_texts.GuidLeft.{GuidLeft}

-- a hexadecimal digit, of either case
abbrev pub is_hex : ℕ → Bool
is_hex b = is_some (hex_digit b)

-- ---- bytes keys

abbrev pub bytes_next : BytesAt → ℕ → Option BytesAt
bytes_next Start b = if b == 48 then Some Zero else None
bytes_next Zero b = if b == 120 then Some Even else None
bytes_next Even b = if is_hex b then Some Odd else None
bytes_next Odd b = if is_hex b then Some Even else None

abbrev pub bytes_end : BytesAt → Bool
bytes_end Start = false
bytes_end Zero = false
bytes_end Even = true
bytes_end Odd = false

pub bytes_live : (state : BytesAt) → (more : List ℕ) × IsTrue (accepts bytes_next bytes_end (Some state) more)
bytes_live Start = (48 ∷ 120 ∷ [], refl)
bytes_live Zero = (120 ∷ [], refl)
bytes_live Even = ([], refl)
bytes_live Odd = (48 ∷ [], refl)

-- ---- guids: the state is how many bytes are still to come

-- `-` comes where so many bytes are left, it among them
abbrev pub is_dash_left : ℕ → Bool
is_dash_left left = (left == 28) || ((left == 23) || ((left == 18) || (left == 13)))

-- the byte may come where so many are left
abbrev pub fits_left : ℕ → ℕ → Bool
fits_left left b = if is_dash_left left then b == 45 else is_hex b

abbrev pub after_byte : ℕ → ℕ → Option GuidLeft
after_byte zero b = None
after_byte (suc left) b = if fits_left (suc left) b then Some (record { bytes = left }) else None

abbrev pub guid_next : GuidLeft → ℕ → Option GuidLeft
guid_next state b = after_byte state.bytes b

abbrev pub guid_end : GuidLeft → Bool
guid_end state = state.bytes == 0

-- a byte that may come at a dash, or at a digit
abbrev some_byte : Bool → ℕ
some_byte true = 45
some_byte false = 48

some_byte_fits : (dash : Bool) → (if dash then some_byte dash == 45 else is_hex (some_byte dash)) ≡ true
some_byte_fits true = refl
some_byte_fits false = refl

abbrev bytes_left : ℕ → List ℕ
bytes_left zero = []
bytes_left (suc left) = some_byte (is_dash_left (suc left)) ∷ bytes_left left

left_is_read : (left : ℕ) → IsTrue (accepts guid_next guid_end (Some (record { bytes = left })) (bytes_left left))
left_is_read zero = refl
left_is_read (suc left) =
    ap (λ fits. at_end guid_end (walk guid_next (if fits then Some (record { bytes = left }) else None) (bytes_left left))) (some_byte_fits (is_dash_left (suc left))) ∙ left_is_read left

pub guid_live : (state : GuidLeft) → (more : List ℕ) × IsTrue (accepts guid_next guid_end (Some state) more)
guid_live state = (bytes_left state.bytes, left_is_read state.bytes)
