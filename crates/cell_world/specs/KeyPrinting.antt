-- The one printed text of a key, of a guid and of a token.
use Rattle.std.specs.Prelude.{ℕ, ◌+◌, ◌-◌, ◌/◌, ◌%◌, ◌^◌, nat_lt, List, [], ◌∷◌, ◌++◌, map, take, drop, slice_index, if◌then◌else◌, flat_map, codes, decimal}
use Rattle.std.specs.Int.{from_be_bytes, to_be_bytes, w32, w64, w128}
use Rattle.cell_world.specs.Texts.{Text}
use Rattle.cell_world.specs.declared.cells.KeyType.{KeyType}
use Rattle.cell_world.specs.declared.cells.KeyType.TheVariants.{Int, Long, Guid, Bytes, Datetime, Timespan}
use Rattle.cell_world.specs.declared.cells.Token.{Token}

-- ---- numbers

-- `-`
abbrev pub dash : Text
dash = 45 ∷ []

-- the decimal text of a number that was moved up by half
abbrev pub signed_text : ℕ → ℕ → Text
signed_text half n = if nat_lt n half then dash ++ decimal (half - n) else decimal (n - half)

-- ---- bytes, two hexadecimal digits each, in lower case

-- `0` to `9`, `a` to `f`
abbrev pub hex_glyph : ℕ → ℕ
hex_glyph d = if nat_lt d 10 then 48 + d else 87 + d

abbrev pub hex_text : Text → Text
hex_text bytes = flat_map (λ b. hex_glyph (b / 16) ∷ hex_glyph (b % 16) ∷ []) bytes

-- a row's bytes, and a key of the type bytes
abbrev pub bytes_text : Text → Text
bytes_text bytes = codes "0x" ++ hex_text bytes

-- ---- guids

-- sixteen bytes as groups of 4, 2, 2, 2 and 6 with `-` between
abbrev pub guid_text : Text → Text
guid_text bytes =
    hex_text (take 4 bytes) ++ dash ++ hex_text (take 2 (drop 4 bytes)) ++ dash ++ hex_text (take 2 (drop 6 bytes))
    ++ dash ++ hex_text (take 2 (drop 8 bytes)) ++ dash ++ hex_text (drop 10 bytes)

-- the places in the normal form from which the bytes of the text come
abbrev pub guid_form_places : List ℕ
guid_form_places = 15 ∷ 14 ∷ 13 ∷ 12 ∷ 11 ∷ 10 ∷ 9 ∷ 8 ∷ 6 ∷ 7 ∷ 0 ∷ 1 ∷ 2 ∷ 3 ∷ 4 ∷ 5 ∷ []

-- the bytes of a guid in the order of its text, from its normal form
abbrev pub guid_unformed : Text → Text
guid_unformed form = map (slice_index form) guid_form_places

-- a token is printed as the guid whose bytes are its number, big-endian
abbrev pub token_text : Token → Text
token_text token = guid_text (to_be_bytes w128 token.0)

-- ---- keys

-- the printed text of the key of this type whose normal form this is
unfoldable pub key_text : KeyType → Text → Text
key_text Int form = signed_text (2 ^ 31) (from_be_bytes w32 form)
key_text Long form = signed_text (2 ^ 63) (from_be_bytes w64 form)
key_text Timespan form = signed_text (2 ^ 63) (from_be_bytes w64 form)
key_text Datetime form = decimal (from_be_bytes w64 form)
key_text Guid form = guid_text (guid_unformed form)
key_text Bytes form = bytes_text form
