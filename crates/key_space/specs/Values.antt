-- What a key is: the values that it may have, its type, its normal form, and the order of values.
use Rattle.std.specs.Prelude.{ℕ, ◌+◌, ◌-◌, ◌^◌, ◌≤◌, suc, List, [], ◌∷◌, slice_index, IsTrue, ℤ, pos, negsuc, FitsSigned}
use Rattle.std.specs.Int.{w32, w64, to_be_bytes}
use Rattle.std.specs.Ordering.{nat_cmp, ordering_then}
use Rattle.std.specs.declared.cmp.Ordering.{Ordering}
use Rattle.std.specs.declared.cmp.Ordering.TheVariants.{Equal}
use Rattle.cell_world.specs.Texts.{Text}
use Rattle.cell_world.specs.KeyForms.{is_normal, last_tick, guid_form}
use Rattle.cell_world.specs.declared.cells.KeyType.{KeyType}
use Rattle.cell_world.specs.declared.cells.KeyType.TheVariants as types
use Rattle.key_space.specs.Guids.{IsGuid}
use Rattle.key_space.specs.declared.keys.Key.{Key}
use Rattle.key_space.specs.declared.keys.Key.TheVariants.{Int, Long, Guid, Bytes, Datetime, Timespan}

abbrev pub type_of : Key → KeyType
type_of (Int x) = types.Int
type_of (Long x) = types.Long
type_of (Guid bytes) = types.Guid
type_of (Bytes bytes) = types.Bytes
type_of (Datetime ticks) = types.Datetime
type_of (Timespan ticks) = types.Timespan

-- The values of each type. Contracts see numbers and lists that no key has; these are the ones that keys have.
abbrev pub IsKey : Key → Type 0
IsKey (Int x) = FitsSigned w32 x
IsKey (Long x) = FitsSigned w64 x
IsKey (Guid bytes) = IsGuid bytes
IsKey (Bytes bytes) = IsTrue (is_normal types.Bytes bytes)
IsKey (Datetime ticks) = ticks ≤ last_tick
IsKey (Timespan ticks) = FitsSigned w64 ticks

-- a number from -half up to half, moved up by half
abbrev pub moved_up : ℕ → ℤ → ℕ
moved_up half (pos n) = half + n
moved_up half (negsuc n) = half - suc n

-- the normal form of a key
abbrev pub form_of : Key → Text
form_of (Int x) = to_be_bytes w32 (moved_up (2 ^ 31) x)
form_of (Long x) = to_be_bytes w64 (moved_up (2 ^ 63) x)
form_of (Guid bytes) = guid_form bytes
form_of (Bytes bytes) = bytes
form_of (Datetime ticks) = to_be_bytes w64 ticks
form_of (Timespan ticks) = to_be_bytes w64 (moved_up (2 ^ 63) ticks)

-- Two lists of bytes, compared at these places in turn: the first at which they differ decides.
abbrev pub cmp_at : List ℕ → Text → Text → Ordering
cmp_at [] a b = Equal
cmp_at (place ∷ places) a b = ordering_then (nat_cmp (slice_index a place) (slice_index b place)) (cmp_at places a b)
