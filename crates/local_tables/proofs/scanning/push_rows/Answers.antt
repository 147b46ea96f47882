use Rattle.std.proofs.Common.{ap, ◌∙◌, ◌++◌}
use Rattle.local_tables.specs.Scanning.{altered_in}
use Rattle.local_tables.proofs.SweepLaws.{all_taken}
use Rattle.local_tables.proofs.scanning.push_rows.Goals as goal

pub returns-clause-pushed : goal.returns-clause-pushed
returns-clause-pushed c = c.loop-cell.invariant ∙ ap (λ cs. c.args.rows.now.items ++ altered_in c.args.work c.args.op.now cs) (all_taken c.args.cells.now c.loop-cell.cell-index c.loop-cell-test.false)
