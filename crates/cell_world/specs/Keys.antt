-- Key order and spans. A key is a list of bytes, its normal form.
use Rattle.std.specs.Prelude.{Bool, true, false, not, ◌&&◌, if◌then◌else◌, List, Option, Some, None}
use Rattle.std.specs.Ordering.{is_lt, is_eq, is_gt}
use Rattle.std.specs.List.{list_any}
use Rattle.cell_world.specs.Texts.{Text}
use Rattle.cell_world.specs.ByteOrder.{byte_cmp}
use Rattle.cell_world.specs.declared.spans.High.{High}
use Rattle.cell_world.specs.declared.spans.High.TheVariants.{At, Max}
use Rattle.cell_world.specs.declared.spans.Span.{Span}
use Rattle.cell_world.specs.declared.spans.Span.TheVariants.{Range, Point}

-- ---- texts and keys, in byte order: a proper prefix comes first

abbrev pub same : Text → Text → Bool
same a b = is_eq (byte_cmp a b)

abbrev pub below : Text → Text → Bool
below a b = is_lt (byte_cmp a b)

abbrev pub at_most : Text → Text → Bool
at_most a b = not (is_gt (byte_cmp a b))

abbrev pub greater : Text → Text → Text
greater a b = if below a b then b else a

-- the text is one of these
abbrev pub is_among : List Text → Text → Bool
is_among texts text = list_any (same text) texts

-- ---- ends

-- the key is before the end
abbrev pub before : Text → High → Bool
before key (At high) = below key high
before key Max = true

abbrev pub same_end : High → High → Bool
same_end (At a) (At b) = same a b
same_end Max Max = true
same_end (At a) Max = false
same_end Max (At b) = false

-- the first end comes before the second
abbrev pub end_below : High → High → Bool
end_below (At a) end = before a end
end_below Max end = false

abbrev pub lesser_end : High → High → High
lesser_end a b = if end_below b a then b else a

-- ---- spans

-- A range contains its low key and not its high key; a point contains itself alone.
abbrev pub contains : Span → Text → Bool
contains (Range low high) key = at_most low key && before key high
contains (Point at) key = same at key

abbrev pub low_of : Span → Text
low_of (Range low high) = low
low_of (Point at) = at

-- where a range ends; a point has no end
abbrev pub end_of : Span → Option High
end_of (Range low high) = Some high
end_of (Point at) = None

-- Two spans overlap where the greater of their low keys is in both.
abbrev pub overlaps : Span → Span → Bool
overlaps a b = contains a (greater (low_of a) (low_of b)) && contains b (greater (low_of a) (low_of b))
