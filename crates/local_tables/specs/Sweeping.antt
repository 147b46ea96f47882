-- What the sweep and the settling of listed rows rest on.
use Rattle.std.specs.Prelude.{ℕ, List, IsTrue, if◌then◌else◌}
use Rattle.cell_world.specs.Lists.{IsOneOf}
use Rattle.cell_world.specs.Sweep.{reaches}
use Rattle.cell_world.specs.declared.operations.Op.{Op}
use Rattle.cell_world.specs.declared.cells.LocalRow.{LocalRow}
use Rattle.local_tables.specs.Altering.{has_mark_of, is_foreign}

-- each of the rows is of the operation's map, and overlaps its hull
abbrev pub AllReach : Op → List LocalRow → Type 0
AllReach op rows = (row : LocalRow) → IsOneOf rows row → IsTrue (reaches op row)

-- each has a mark of the operation of this number
abbrev pub AllOwn : ℕ → List LocalRow → Type 0
AllOwn number rows = (row : LocalRow) → IsOneOf rows row → IsTrue (has_mark_of number row)

-- the log is read for a mark of another operation alone
abbrev pub foreign_reads : ℕ → LocalRow → ℕ
foreign_reads number row = if is_foreign number row then 1 else 0
