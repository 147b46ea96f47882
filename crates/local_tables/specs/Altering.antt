-- Which local rows of a site the transactions of an operation alter, and the changes that they make.
use Rattle.std.specs.Prelude.{◌≡◌, ℕ, Bool, true, false, ◌&&◌, ◌||◌, not, ◌==◌, List, [], ◌∷◌, length, filter, Option, Some, None}
use Rattle.std.specs.FinMap as fin
use Rattle.cell_world.specs.Texts.{Text}
use Rattle.cell_world.specs.Keys.{same, below, before, low_of}
use Rattle.cell_world.specs.Stores.{Log, Locals}
use Rattle.cell_world.specs.Images.{Shard}
use Rattle.cell_world.specs.Outside.{Outside, place_at}
use Rattle.cell_world.specs.Sweep.{reaches}
use Rattle.cell_world.specs.declared.operations.Op.{Op}
use Rattle.cell_world.specs.declared.spans.Span.{Span}
use Rattle.cell_world.specs.declared.spans.Span.TheVariants.{Range, Point}
use Rattle.cell_world.specs.declared.cells.Site.{Site}
use Rattle.cell_world.specs.declared.cells.LocalRow.{LocalRow}
use Rattle.cell_world.specs.declared.cells.Mark.{Mark}
use Rattle.cell_world.specs.declared.cells.Mark.TheVariants.{Plain, Old, New}
use Rattle.cell_world.specs.declared.changes.Edit.{Edit}
use Rattle.image_laws.specs.RowEdits.{step_edits, undo_edits, settle_edits}
use Rattle.local_tables.specs.Resolving.{is_marked}
use Rattle.local_tables.specs.declared.altering.Work.{Work}
use Rattle.local_tables.specs.declared.altering.Work.TheVariants.{ToMark, ToUndo, ToSettle}

-- ---- sites

-- the site is the one of the shard at this location
abbrev pub IsSiteOf : Outside → Site → Text → Type 0
IsSiteOf o site location = place_at o.locations site.0 ≡ Some (Shard location)

-- ---- marks of one operation, and of others

abbrev pub is_old_of : ℕ → Mark → Bool
is_old_of number Plain = false
is_old_of number (Old p) = p == number
is_old_of number New = false

abbrev pub is_new : Mark → Bool
is_new Plain = false
is_new (Old p) = false
is_new New = true

abbrev pub is_own : ℕ → LocalRow → Mark → Bool
is_own number row Plain = false
is_own number row (Old p) = p == number
is_own number row New = row.number == number

-- the row is Old of the operation of this number, or New and made by it
abbrev pub has_mark_of : ℕ → LocalRow → Bool
has_mark_of number row = is_own number row row.mark

-- the row has a mark, and it is of another operation
abbrev pub is_foreign : ℕ → LocalRow → Bool
is_foreign number row = is_marked row.mark && not (has_mark_of number row)

-- how many rows of the hull have a mark of another operation
abbrev pub foreign_marks : Op → Locals → ℕ
foreign_marks op locals = length (filter (λ row. reaches op row && is_foreign op.number row) (fin.values locals))

-- ---- the rows that a transaction alters

abbrev pub alters : Work → Op → LocalRow → Bool
-- the rows of the hull, but for those that are Old of it already
alters ToMark op row = reaches op row && not (is_old_of op.number row.mark)
-- the rows of the hull that aren't Plain
alters ToUndo op row = reaches op row && is_marked row.mark
-- the rows with a mark of it, of whatever map
alters ToSettle op row = has_mark_of op.number row

-- all of them, in key order
abbrev pub altered : Work → Op → Locals → List LocalRow
altered work op locals = filter (alters work op) (fin.values locals)

-- ---- the changes, as edits

-- the local step: the altered rows of the hull are swept, and the rows of the news at the location are put
abbrev pub to_mark : Log → Op → Text → Locals → List Edit
to_mark log op location locals = step_edits log op location (altered ToMark op locals)

-- undo: the marked rows of the hull become Plain where they count, and go where they don't
abbrev pub to_undo : Log → Op → Locals → List Edit
to_undo log op locals = undo_edits log op (altered ToUndo op locals)

-- settling: the Old rows of the operation go, and its New ones become Plain
abbrev pub to_settle : Op → Locals → List Edit
to_settle op locals = settle_edits op.number (altered ToSettle op locals)

-- the answer with these edits; none where there is nothing to do
abbrev pub if_any : List Edit → Option (List Edit)
if_any [] = None
if_any (edit ∷ edits) = Some (edit ∷ edits)

-- the edits of an answer
abbrev pub edits_of : Option (List Edit) → List Edit
edits_of None = []
edits_of (Some edits) = edits

-- ---- where a scan for them begins and ends

-- the least map of the rows that it alters
abbrev pub first_map : Work → Op → Text
first_map ToMark op = op.map
first_map ToUndo op = op.map
first_map ToSettle op = 65 ∷ []

-- a span with this low key begins past the end of the hull
abbrev pub begins_past : Span → Text → Bool
begins_past (Range low high) key = not (before key high)
begins_past (Point at) key = below at key

-- the row is of a later map, or begins past the end of the hull
abbrev pub is_past_hull : Op → LocalRow → Bool
is_past_hull op row = below op.map row.map || (same row.map op.map && begins_past op.hull (low_of row.span))

-- it alters neither this row nor one after it
abbrev pub is_past : Work → Op → LocalRow → Bool
is_past ToMark op row = is_past_hull op row
is_past ToUndo op row = is_past_hull op row
is_past ToSettle op row = false
