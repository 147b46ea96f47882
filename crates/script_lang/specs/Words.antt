-- The bytes and the words of a line.
use Rattle.std.specs.Prelude.{ℕ, ◌==◌, ◌||◌, ◌&&◌, Bool, not, nat_le, List, length}
use Rattle.std.specs.List.{slice_split, filter}
use Rattle.cell_world.specs.Texts.{Text}

-- what ends a line
abbrev pub is_line_feed : ℕ → Bool
is_line_feed b = b == 10

-- a byte that may stand in a line: space to `~`, and the tab
abbrev pub is_line_byte : ℕ → Bool
is_line_byte b = (nat_le 32 b && nat_le b 126) || (b == 9)

-- the most bytes of a line, without its end
abbrev pub line_limit : ℕ
line_limit = 4096

-- what stands between words: a space or a tab
abbrev pub is_blank : ℕ → Bool
is_blank b = (b == 32) || (b == 9)

abbrev pub has_bytes : Text → Bool
has_bytes text = not (length text == 0)

-- the words of a line: what stands between blanks, where something stands there
abbrev pub words : Text → List Text
words line = filter has_bytes (slice_split is_blank line)
