use Rattle.std.proofs.Common.{◌≡◌, ◌++◌, take}
use Rattle.local_tables.specs.Scanning.{altered_in}
use Rattle.local_tables.proofs.scanning.push_rows.Given as goal

abbrev pub invariant-loop-cell : goal.invariant-loop-cell
invariant-loop-cell l = l.rows.items ≡ l.initial.rows.items ++ altered_in l.work l.op (take l.cell-index l.cells)
