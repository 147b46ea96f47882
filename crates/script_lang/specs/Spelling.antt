-- The grammar of words: for each kind of word, the value that a text stands for, if it is such a word.
use Rattle.std.specs.Prelude.{ℕ, ◌^◌, Bool, ◌&&◌, nat_le, length, Option, Some, None, option_map, option_and_then, if◌then◌else◌, codes}
use Rattle.std.specs.Int.{from_be_bytes, w128}
use Rattle.cell_world.specs.Texts.{Text, is_name, is_location, is_key_text}
use Rattle.cell_world.specs.ByteOrder.{byte_eq}
use Rattle.cell_world.specs.KeyForms.{number_of, hex_bytes, after_0x, guid_bytes}
use Rattle.cell_world.specs.declared.cells.KeyType.{KeyType}
use Rattle.cell_world.specs.declared.cells.KeyType.TheVariants.{Int, Long, Guid, Bytes, Datetime, Timespan}
use Rattle.cell_world.specs.declared.cells.MapKind.{MapKind}
use Rattle.cell_world.specs.declared.cells.MapKind.TheVariants as map_kind
use Rattle.cell_world.specs.declared.cells.Token.{Token}
use Rattle.plain_model.specs.declared.commands.HighText.{HighText}
use Rattle.plain_model.specs.declared.commands.HighText.TheVariants as high
use Rattle.plain_model.specs.declared.commands.Side.{Side}
use Rattle.plain_model.specs.declared.commands.Side.TheVariants as side
use Rattle.script_lang.specs.Values.{Value, OfBytes, OfKind, OfType, OfHigh, OfToken, OfNumber, OfSide}
use Rattle.script_lang.specs.WordKinds.{WordKind}
use Rattle.script_lang.specs.WordKinds as kind

-- ---- words that are listed

abbrev pub kind_of : Text → Option MapKind
kind_of word = if byte_eq word (codes "range") then Some map_kind.Range else if byte_eq word (codes "list") then Some map_kind.List else None

abbrev pub type_of : Text → Option KeyType
type_of word =
    if byte_eq word (codes "int") then Some Int
    else if byte_eq word (codes "long") then Some Long
    else if byte_eq word (codes "guid") then Some Guid
    else if byte_eq word (codes "bytes") then Some Bytes
    else if byte_eq word (codes "datetime") then Some Datetime
    else if byte_eq word (codes "timespan") then Some Timespan
    else None

abbrev pub side_of : Text → Option Side
side_of word = if byte_eq word (codes "shard") then Some side.Shard else if byte_eq word (codes "global") then Some side.Global else None

-- ---- words that are their own value

abbrev pub if_passes : (Text → Bool) → Text → Option Text
if_passes grammar word = if grammar word then Some word else None

-- the end of a range: a key, and `max` is the unbounded end
abbrev pub high_of : Text → Option HighText
high_of word = if byte_eq word (codes "max") then Some high.Max else option_map high.At (if_passes is_key_text word)

-- ---- numbers

-- a number word, from the least to the most
abbrev pub number_within : ℕ → ℕ → Text → Option ℕ
number_within least most word = option_and_then (λ n. if nat_le least n && nat_le n most then Some n else None) (number_of word)

-- the greatest number of 32 and of 64 bits
abbrev pub last_32 : ℕ
last_32 = 4294967295

abbrev pub last_64 : ℕ
last_64 = 18446744073709551615

-- the bytes that a guid's text spells, as a big-endian number
unfoldable pub guid_number : Text → Option ℕ
guid_number word = option_map (from_be_bytes w128) (guid_bytes word)

-- tokens below 2^64 are those of jobs
abbrev pub token_from : ℕ → Option Token
token_from n = if nat_le (2 ^ 64) n then Some (record { 0 = n }) else None

abbrev pub token_of : Text → Option Token
token_of word = option_and_then token_from (guid_number word)

-- ---- the value of a row

-- `0x` and two hexadecimal digits a byte, of either case
unfoldable pub hex_value : Text → Option Text
hex_value word = option_and_then hex_bytes (after_0x word)

-- at most 1,024 bytes
abbrev pub row_from : Text → Option Text
row_from bytes = if nat_le (length bytes) 1024 then Some bytes else None

abbrev pub row_value_of : Text → Option Text
row_value_of word = option_and_then row_from (hex_value word)

-- ---- each kind

-- The value of a word of this kind. None where it is no word of the kind.
unfoldable pub value_of : WordKind → Text → Option Value
value_of kind.Name word = option_map OfBytes (if_passes is_name word)
value_of kind.Location word = option_map OfBytes (if_passes is_location word)
value_of kind.MapKind word = option_map OfKind (kind_of word)
value_of kind.KeyType word = option_map OfType (type_of word)
value_of kind.Key word = option_map OfBytes (if_passes is_key_text word)
value_of kind.High word = option_map OfHigh (high_of word)
value_of kind.Token word = option_map OfToken (token_of word)
value_of kind.MaybeToken word = option_map OfToken (token_of word)
value_of kind.Connection word = option_map OfNumber (number_within 1 64 word)
value_of kind.RowNumber word = option_map OfNumber (number_within 0 last_64 word)
value_of kind.RowValue word = option_map OfBytes (row_value_of word)
value_of kind.Number word = option_map OfNumber (number_within 1 last_32 word)
value_of kind.Side word = option_map OfSide (side_of word)
value_of kind.Batch word = option_map OfNumber (number_within 1 100000 word)
value_of kind.Session word = option_map OfNumber (number_within 1 16 word)
