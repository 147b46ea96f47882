-- The one sweep: what a local step of an operation, and its undo, makes of the rows of a site that overlap its hull.
use Rattle.std.specs.Prelude.{◌≡◌, ℕ, Bool, ◌&&◌, Option, Some, None, IsTrue, option_and_then, if◌then◌else◌}
use Rattle.std.specs.FinMap as map
use Rattle.cell_world.specs.Texts.{Text}
use Rattle.cell_world.specs.Keys.{same, overlaps}
use Rattle.cell_world.specs.Stores.{Log, Locals}
use Rattle.cell_world.specs.Meaning.{counts}
use Rattle.cell_world.specs.Sound.{HasLocal}
use Rattle.cell_world.specs.declared.operations.Op.{Op}
use Rattle.cell_world.specs.declared.cells.LocalRow.{LocalRow}
use Rattle.cell_world.specs.declared.cells.Mark.{Mark}
use Rattle.cell_world.specs.declared.cells.Mark.TheVariants.{Plain}

-- the row is of the operation's map, and overlaps its hull
abbrev pub reaches : Op → LocalRow → Bool
reaches op row = same row.map op.map && overlaps row.span op.hull

-- the row with another mark
abbrev pub marked_as : Mark → LocalRow → LocalRow
marked_as mark row = record row { mark = mark }

-- What becomes of a row. Of those that overlap the hull the ones that count get the mark, and the others go. The mark is Old of the operation where its local step is made, and Plain where it is undone.
abbrev pub sweep : Log → Op → Mark → LocalRow → Option LocalRow
sweep log op mark row = if reaches op row then (if counts log row then Some (marked_as mark row) else None) else Some row

-- the local rows after are those before, each as the sweep leaves it
abbrev pub IsSwept : Log → Op → Mark → Locals → Locals → Type 0
IsSwept log op mark before after = (k : Text × (Text × ℕ)) → map.get after k ≡ option_and_then (sweep log op mark) (map.get before k)

-- Swept plain, as undo leaves a site: the rows that overlap the hull are Plain.
abbrev pub IsSweptPlain : Op → Locals → Type 0
IsSweptPlain op locals = (row : LocalRow) → HasLocal locals row → IsTrue (reaches op row) → row.mark ≡ Plain
