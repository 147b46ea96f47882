-- The texts of keys: the grammar of each type, and what is wrong with a text that is no key.
use Rattle.std.specs.Prelude.{◌≡◌, ℕ, ◌<◌, ◌==◌, nat_lt, Bool, false, [], ◌∷◌, length, IsTrue, Option, Some, None, is_some, option_and_then, if◌then◌else◌}
use Rattle.text_scan.specs.Places.{IsPlace}
use Rattle.cell_world.specs.Texts.{Text}
use Rattle.cell_world.specs.KeyForms.{number_of, after_0x, hex_bytes, guid_bytes, normal_of}
use Rattle.cell_world.specs.declared.cells.KeyType.{KeyType}
use Rattle.cell_world.specs.declared.cells.KeyType.TheVariants.{Int, Long, Guid, Bytes, Datetime, Timespan}
use Rattle.cell_world.specs.declared.limits.TheConstants.{KEY_BYTES}
use Rattle.key_space.specs.declared.faults.KeyFault.{KeyFault}
use Rattle.key_space.specs.declared.faults.KeyFault.TheVariants.{NotInGrammar, OutOfRange, TooLong, Memory}

-- ---- the grammars

abbrev pub is_above_zero : Option ℕ → Bool
is_above_zero None = false
is_above_zero (Some n) = nat_lt 0 n

-- a number with any number of digits, or `-` and one above zero
abbrev pub is_signed_text : Text → Bool
is_signed_text [] = false
is_signed_text (b ∷ bs) = if b == 45 then is_above_zero (number_of bs) else is_some (number_of (b ∷ bs))

-- the bytes that are written behind `0x`, with their zeros, however many they are
abbrev pub written_bytes : Text → Option Text
written_bytes text = option_and_then hex_bytes (after_0x text)

-- The text is in the grammar of the type. Whether its number or its bytes are a key's is asked afterwards.
abbrev pub in_grammar : KeyType → Text → Bool
in_grammar Int text = is_signed_text text
in_grammar Long text = is_signed_text text
in_grammar Timespan text = is_signed_text text
in_grammar Datetime text = is_some (number_of text)
in_grammar Guid text = is_some (guid_bytes text)
in_grammar Bytes text = is_some (written_bytes text)

-- ---- faults

abbrev pub IsNumber : KeyType → Type 0
IsNumber Int = Unit {0}
IsNumber Long = Unit {0}
IsNumber Timespan = Unit {0}
IsNumber Datetime = Unit {0}
IsNumber Guid = ⊥
IsNumber Bytes = ⊥

-- The fault of a text that is no key of the type. The grammar comes first; of a text in it, either its bytes are too many or its number is none of the type's.
abbrev pub IsKeyFault : KeyType → Text → KeyFault → Type 0
IsKeyFault type text (NotInGrammar place) = IsPlace (in_grammar type) text place
IsKeyFault type text TooLong = (type ≡ Bytes) × ((bytes : Text) × (written_bytes text ≡ Some bytes) × (KEY_BYTES < length bytes))
IsKeyFault type text OutOfRange = IsNumber type × IsTrue (in_grammar type text) × (normal_of type text ≡ None)
-- reading a key takes no memory
IsKeyFault type text Memory = ⊥

-- The fault is the place at which no text of a grammar goes on.
abbrev pub IsAtPlace : (Text → Bool) → Text → KeyFault → Type 0
IsAtPlace grammar text fault = (place : ℕ) × (fault ≡ NotInGrammar place) × IsPlace grammar text place
