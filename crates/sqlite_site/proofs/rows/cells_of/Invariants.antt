use Rattle.std.proofs.Common.{take}
use Rattle.sqlite_site.specs.Entries.{AreCellsOf}
use Rattle.sqlite_site.proofs.rows.cells_of.Given as goal

abbrev pub invariant-loop-row : goal.invariant-loop-row
invariant-loop-row l = AreCellsOf l.kind (take l.row-index l.rows) l.cells.items
