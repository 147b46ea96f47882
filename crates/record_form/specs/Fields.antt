-- How the fields of cells are read.
use Rattle.std.specs.Prelude.{ℕ, ◌+◌, ◌*◌, List, [], ◌∷◌, Bool, ◌&&◌, ◌||◌, Option, Some, None, nat_lt, nat_le, ◌==◌, if◌then◌else◌}
use Rattle.std.specs.Int.{w64, w128}
use Rattle.cell_world.specs.Texts.{Text, is_letter, is_digit, is_name_byte, is_part_byte}
use Rattle.cell_world.specs.declared.spans.High.{High}
use Rattle.cell_world.specs.declared.spans.High.TheVariants.{At, Max}
use Rattle.cell_world.specs.declared.spans.Span.{Span}
use Rattle.cell_world.specs.declared.spans.Span.TheVariants.{Range, Point}
use Rattle.cell_world.specs.declared.cells.KeyType.{KeyType}
use Rattle.cell_world.specs.declared.cells.KeyType.TheVariants as type
use Rattle.cell_world.specs.declared.cells.MapKind.{MapKind}
use Rattle.cell_world.specs.declared.cells.MapKind.TheVariants as kind
use Rattle.cell_world.specs.declared.cells.Status.{Status}
use Rattle.cell_world.specs.declared.cells.Status.TheVariants.{Offline, Online}
use Rattle.cell_world.specs.declared.cells.Token.{Token}
use Rattle.cell_world.specs.declared.cells.Away.{Away}
use Rattle.cell_world.specs.declared.cells.Away.TheVariants as away
use Rattle.cell_world.specs.declared.cells.Mark.{Mark}
use Rattle.cell_world.specs.declared.cells.Mark.TheVariants as mark
use Rattle.record_form.specs.Reading.{Read, nothing_at, is_from, byte_at, number_at, raw_at, text_at, both, pair, made, tagged}
use Rattle.record_form.specs.declared.names.InName.{InName}
use Rattle.record_form.specs.declared.names.InName.TheVariants as name
use Rattle.record_form.specs.declared.locations.InLocation.{InLocation}
use Rattle.record_form.specs.declared.locations.InLocation.TheVariants as location

-- ---- texts

-- a letter first
abbrev pub name_next : ℕ → InName → ℕ → Option InName
name_next left name.First b = if is_letter b then Some name.Later else None
name_next left name.Later b = if is_name_byte b then Some name.Later else None

unfoldable pub name_at : List ℕ → Read Text
name_at = made (λ p. p.1) (both (byte_at (is_from 1 32)) (λ n. text_at name_next n name.First))

-- the byte after so many bytes of a part
abbrev pub fits_part : ℕ → ℕ → Bool
fits_part n b = if n == 0 then is_letter b || is_digit b else is_part_byte b

-- in the server or in the database, after so many bytes of it; the server leaves room for a database of 1 to 64 bytes
abbrev pub location_next : ℕ → InLocation → ℕ → Option InLocation
location_next left (location.Server n) b =
    if b == 47 then (if nat_le 1 n && (nat_le 1 left && nat_le left 64) then Some (location.Database 0) else None)
    else if fits_part n b && (nat_le 2 left && (nat_lt n 64 && nat_le (left + n) 128)) then Some (location.Server (n + 1)) else None
location_next left (location.Database n) b = if fits_part n b && nat_lt n 64 then Some (location.Database (n + 1)) else None

unfoldable pub location_at : List ℕ → Read Text
location_at = made (λ p. p.1) (both (byte_at (is_from 3 129)) (λ n. text_at location_next n (location.Server 0)))

unfoldable pub key_at : List ℕ → Read Text
key_at = made (λ p. p.1) (both (byte_at (is_from 0 128)) raw_at)

-- a length up to 1,024 in two bytes
unfoldable pub value_length_at : List ℕ → Read ℕ
value_length_at = made (λ p. p.0 * 256 + p.1) (both (byte_at (is_from 0 4)) (λ high. byte_at (is_from 0 (if high == 4 then 0 else 255))))

unfoldable pub row_value_at : List ℕ → Read Text
row_value_at = made (λ p. p.1) (both value_length_at raw_at)

-- ---- spans

abbrev pub end_body_at : ℕ → List ℕ → Read High
end_body_at tag = if tag == 0 then made At key_at else made (λ _. Max) nothing_at

unfoldable pub end_at : List ℕ → Read High
end_at = tagged (is_from 0 1) end_body_at

abbrev pub range_of : Text × High → Span
range_of p = Range p.0 p.1

abbrev pub span_body_at : ℕ → List ℕ → Read Span
span_body_at tag = if tag == 0 then made range_of (pair key_at end_at) else made Point key_at

unfoldable pub span_at : List ℕ → Read Span
span_at = tagged (is_from 0 1) span_body_at

-- ---- enumerations

abbrev pub status_of : ℕ → Status
status_of b = if b == 0 then Offline else Online

unfoldable pub status_at : List ℕ → Read Status
status_at = made status_of (byte_at (is_from 0 1))

abbrev pub map_kind_of : ℕ → MapKind
map_kind_of b = if b == 1 then kind.Range else kind.List

unfoldable pub map_kind_at : List ℕ → Read MapKind
map_kind_at = made map_kind_of (byte_at (is_from 1 2))

abbrev pub key_type_of : ℕ → KeyType
key_type_of b = if b == 1 then type.Int else if b == 2 then type.Long else if b == 3 then type.Guid else if b == 4 then type.Bytes else if b == 5 then type.Datetime else type.Timespan

unfoldable pub key_type_at : List ℕ → Read KeyType
key_type_at = made key_type_of (byte_at (is_from 1 6))

abbrev pub away_of : ℕ → Away
away_of b = if b == 1 then away.Detached else away.Suspect

unfoldable pub away_at : List ℕ → Read Away
away_at = made away_of (byte_at (is_from 1 2))

-- ---- marks and tokens

abbrev pub token_of : ℕ → Option Token
token_of n = Some (record { 0 = n })

abbrev pub token_body_at : ℕ → List ℕ → Read (Option Token)
token_body_at tag = if tag == 0 then made (λ _. None) nothing_at else made token_of (number_at w128)

unfoldable pub token_at : List ℕ → Read (Option Token)
token_at = tagged (is_from 0 1) token_body_at

abbrev pub mark_body_at : ℕ → List ℕ → Read Mark
mark_body_at tag = if tag == 0 then made (λ _. mark.Plain) nothing_at else if tag == 1 then made mark.Old (number_at w64) else made (λ _. mark.New) nothing_at

unfoldable pub mark_at : List ℕ → Read Mark
mark_at = tagged (is_from 0 2) mark_body_at
