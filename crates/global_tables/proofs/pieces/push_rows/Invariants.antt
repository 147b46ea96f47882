use Rattle.std.proofs.Common.{◌≡◌, ◌++◌, map, take}
use Rattle.global_tables.proofs.pieces.push_rows.Given as goal

abbrev pub invariant-loop-cell : goal.invariant-loop-cell
invariant-loop-cell g l = map g.T.Row.cell_of l.rows.items ≡ map g.T.Row.cell_of l.initial.rows.items ++ take l.cell-index l.cells
