-- The grammars of names, of locations and of keys as they are written.
use Rattle.std.specs.Prelude.{ℕ, Bool, false, not, ◌&&◌, ◌||◌, nat_lt, nat_le, ◌==◌, List, [], ◌∷◌, length}
use Rattle.std.specs.List.{list_all, before_first, after_first}
use Rattle.cell_world.specs.declared.limits.TheConstants.{NAME_BYTES, PART_BYTES, KEY_TEXT_BYTES, KEY_BYTES, ROW_BYTES}

-- a byte list: a name, a location, a key or a row's value
abbrev pub Text : Type 0
Text = List ℕ

-- `A` to `Z` and `a` to `z`
abbrev pub is_letter : ℕ → Bool
is_letter c = (nat_le 65 c && nat_le c 90) || (nat_le 97 c && nat_le c 122)

-- `0` to `9`
abbrev pub is_digit : ℕ → Bool
is_digit c = nat_le 48 c && nat_le c 57

-- a letter, a digit or `_`
abbrev pub is_name_byte : ℕ → Bool
is_name_byte c = is_letter c || (is_digit c || c == 95)

-- a name: a letter first, at most 32 bytes in all
abbrev pub is_name : Text → Bool
is_name [] = false
is_name (c ∷ cs) = is_letter c && (nat_lt (length cs) NAME_BYTES && list_all is_name_byte cs)

-- a letter, a digit, `_`, `-` or `.`
abbrev pub is_part_byte : ℕ → Bool
is_part_byte c = is_letter c || (is_digit c || (c == 95 || (c == 45 || c == 46)))

-- a server or a database: a letter or a digit first, at most 64 bytes in all
abbrev pub is_part : Text → Bool
is_part [] = false
is_part (c ∷ cs) = (is_letter c || is_digit c) && (nat_lt (length cs) PART_BYTES && list_all is_part_byte cs)

abbrev pub is_slash : ℕ → Bool
is_slash c = c == 47

-- a location: SERVER/DATABASE
abbrev pub is_location : Text → Bool
is_location xs = is_part (before_first is_slash xs) && is_part (after_first is_slash xs)

-- `!` to `~`
abbrev pub is_key_text_byte : ℕ → Bool
is_key_text_byte c = nat_le 33 c && nat_le c 126

-- a key as it is written: 1 to 300 bytes
abbrev pub is_key_text : Text → Bool
is_key_text xs = not (length xs == 0) && (nat_le (length xs) KEY_TEXT_BYTES && list_all is_key_text_byte xs)

-- the numbers are bytes
abbrev pub are_bytes : Text → Bool
are_bytes = list_all (λ b. nat_lt b 256)

-- a key: at most 128 bytes
abbrev pub is_key_form : Text → Bool
is_key_form xs = are_bytes xs && nat_le (length xs) KEY_BYTES

-- the value of a row: at most 1,024 bytes
abbrev pub is_row_value : Text → Bool
is_row_value xs = are_bytes xs && nat_le (length xs) ROW_BYTES
