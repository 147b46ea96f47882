-- Which bytes are the normal form of a key, which spans a map may have, and which key a word is.
use Rattle.std.specs.Prelude.{ℕ, ◌+◌, ◌-◌, ◌*◌, ◌^◌, Bool, true, false, ◌&&◌, not, nat_le, nat_lt, ◌==◌, List, [], ◌∷◌, ◌++◌, length, map, slice_index, Option, Some, None, option_map, option_and_then, if◌then◌else◌}
use Rattle.std.proofs.Common.{zero, suc}
use Rattle.std.specs.Int.{from_be_bytes, to_be_bytes, w32, w64}
use Rattle.cell_world.specs.Texts.{Text, is_digit, are_bytes}
use Rattle.cell_world.specs.Keys.{before}
use Rattle.cell_world.specs.declared.cells.KeyType.{KeyType}
use Rattle.cell_world.specs.declared.cells.KeyType.TheVariants.{Int, Long, Guid, Bytes, Datetime, Timespan}
use Rattle.cell_world.specs.declared.cells.MapKind.{MapKind}
use Rattle.cell_world.specs.declared.cells.MapKind.TheVariants as kind
use Rattle.cell_world.specs.declared.limits.TheConstants.{KEY_BYTES}
use Rattle.cell_world.specs.declared.spans.High.{High}
use Rattle.cell_world.specs.declared.spans.High.TheVariants.{At, Max}
use Rattle.cell_world.specs.declared.spans.Span.{Span}
use Rattle.cell_world.specs.declared.spans.Span.TheVariants.{Range, Point}

-- ---- normal forms

abbrev pub last_is_zero : Text → Bool
last_is_zero [] = false
last_is_zero (b ∷ []) = b == 0
last_is_zero (b ∷ c ∷ bs) = last_is_zero (c ∷ bs)

-- the most ticks that a datetime has: the end of the year 9999
abbrev pub last_tick : ℕ
last_tick = 3155378975999999999

-- The bytes are the normal form of a key of this type.
abbrev pub is_normal : KeyType → Text → Bool
is_normal Int key = are_bytes key && (length key == 4)
is_normal Long key = are_bytes key && (length key == 8)
is_normal Timespan key = are_bytes key && (length key == 8)
is_normal Datetime key = are_bytes key && ((length key == 8) && nat_le (from_be_bytes w64 key) last_tick)
is_normal Guid key = are_bytes key && (length key == 16)
is_normal Bytes key = are_bytes key && (nat_le (length key) KEY_BYTES && not (last_is_zero key))

abbrev pub is_normal_end : KeyType → High → Bool
is_normal_end type (At key) = is_normal type key
is_normal_end type Max = true

-- A span of a map of this kind and key type: a range with its low key below its end, or a point.
abbrev pub is_span_of : MapKind → KeyType → Span → Bool
is_span_of kind.Range type (Range low high) = is_normal type low && (is_normal_end type high && before low high)
is_span_of kind.List type (Point at) = is_normal type at
is_span_of kind.Range type (Point at) = false
is_span_of kind.List type (Range low high) = false

-- ---- numbers as they are written

-- the digits, after those that make n
abbrev pub digits_from : ℕ → Text → Option ℕ
digits_from n [] = Some n
digits_from n (b ∷ bs) = if is_digit b then digits_from (10 * n + (b - 48)) bs else None

-- a decimal number without leading zeros; zero is `0`
abbrev pub number_of : Text → Option ℕ
number_of [] = None
number_of (b ∷ []) = digits_from 0 (b ∷ [])
number_of (b ∷ c ∷ bs) = if b == 48 then None else digits_from 0 (b ∷ c ∷ bs)

-- A number from -half up to half, half left out, moved up by half. There is no `+`, and no `-0`.
abbrev pub signed_number : ℕ → Text → Option ℕ
signed_number half [] = None
signed_number half (b ∷ bs) =
    if b == 45
    then option_and_then (λ n. if nat_lt 0 n && nat_le n half then Some (half - n) else None) (number_of bs)
    else option_and_then (λ n. if nat_lt n half then Some (half + n) else None) (number_of (b ∷ bs))

-- ---- bytes as they are written, two hexadecimal digits each, of either case

abbrev pub hex_digit : ℕ → Option ℕ
hex_digit b =
    if is_digit b then Some (b - 48)
    else if nat_le 97 b && nat_le b 102 then Some (b - 87)
    else if nat_le 65 b && nat_le b 70 then Some (b - 55)
    else None

abbrev pub hex_byte : ℕ → ℕ → Option ℕ
hex_byte a b = option_and_then (λ high. option_map (λ low. 16 * high + low) (hex_digit b)) (hex_digit a)

abbrev pub hex_bytes : Text → Option Text
hex_bytes [] = Some []
hex_bytes (a ∷ []) = None
hex_bytes (a ∷ b ∷ bs) = option_and_then (λ byte. option_map (λ rest. byte ∷ rest) (hex_bytes bs)) (hex_byte a b)

-- the bytes without the zeros at their end
abbrev pub without_zeros : Text → Text
without_zeros [] = []
without_zeros (b ∷ bs) = before_rest b (without_zeros bs)
  where
    before_rest : ℕ → Text → Text
    before_rest b [] = if b == 0 then [] else b ∷ []
    before_rest b (c ∷ cs) = b ∷ c ∷ cs

-- `0x`, and then the digits
abbrev pub after_0x : Text → Option Text
after_0x (a ∷ b ∷ bs) = if (a == 48) && (b == 120) then Some bs else None
after_0x bs = None

-- at most 128 bytes as written
abbrev pub bytes_form : Text → Option Text
bytes_form text = option_and_then (λ bytes. if nat_le (length bytes) KEY_BYTES then Some (without_zeros bytes) else None) (option_and_then hex_bytes (after_0x text))

-- ---- guids as they are written: 8, 4, 4, 4 and 12 digits with `-` between

-- so many bytes from the front, and what is behind them
abbrev pub bytes_taken : ℕ → Text → Option (Text × Text)
bytes_taken zero text = Some ([], text)
bytes_taken (suc n) [] = None
bytes_taken (suc n) (a ∷ []) = None
bytes_taken (suc n) (a ∷ b ∷ bs) = option_and_then (λ byte. option_map (λ p. (byte ∷ p.0, p.1)) (bytes_taken n bs)) (hex_byte a b)

abbrev pub after_dash : Text → Option Text
after_dash [] = None
after_dash (b ∷ bs) = if b == 45 then Some bs else None

-- groups of so many bytes, with `-` between them, and nothing behind the last
abbrev pub grouped_bytes : List ℕ → Text → Option Text
grouped_bytes [] text = None
grouped_bytes (n ∷ []) text = option_and_then (λ p. at_end p.0 p.1) (bytes_taken n text)
  where
    at_end : Text → Text → Option Text
    at_end bytes [] = Some bytes
    at_end bytes (b ∷ bs) = None
grouped_bytes (n ∷ m ∷ more) text =
    option_and_then (λ p. option_map (λ rest. p.0 ++ rest) (option_and_then (grouped_bytes (m ∷ more)) (after_dash p.1))) (bytes_taken n text)

-- the sixteen bytes of a guid, in the order of its text
abbrev pub guid_bytes : Text → Option Text
guid_bytes = grouped_bytes (4 ∷ 2 ∷ 2 ∷ 2 ∷ 6 ∷ [])

-- the places in the text's bytes from which the bytes of the normal form come
abbrev pub guid_order : List ℕ
guid_order = 10 ∷ 11 ∷ 12 ∷ 13 ∷ 14 ∷ 15 ∷ 8 ∷ 9 ∷ 7 ∷ 6 ∷ 5 ∷ 4 ∷ 3 ∷ 2 ∷ 1 ∷ 0 ∷ []

abbrev pub guid_form : Text → Text
guid_form bytes = map (slice_index bytes) guid_order

-- ---- which key a word is

-- The normal form of the key of this type that the text stands for, if it stands for one.
unfoldable pub normal_of : KeyType → Text → Option Text
normal_of Int text = option_map (to_be_bytes w32) (signed_number (2 ^ 31) text)
normal_of Long text = option_map (to_be_bytes w64) (signed_number (2 ^ 63) text)
normal_of Timespan text = option_map (to_be_bytes w64) (signed_number (2 ^ 63) text)
normal_of Datetime text = option_and_then (λ n. if nat_le n last_tick then Some (to_be_bytes w64 n) else None) (number_of text)
normal_of Guid text = option_map guid_form (guid_bytes text)
normal_of Bytes text = bytes_form text
