use Rattle.std.proofs.Common.{◌≡◌}
use Rattle.sqlite.specs.Held.{state}
use Rattle.cell_table.specs.Cells.{Holds, others}
use Rattle.cell_table.proofs.DeleteLemmas.{deletes, for_each}
use Rattle.cell_table.proofs.delete.Goals as goal

pub returns : goal.returns
returns g c clean =
    let old = state g.S.Store c.args.conn.now in
    let new = state g.S.Store c.execute.new.self in
    for_each (Holds old.now) (λ all. Holds new.now (others c.args.kind c.args.key.now all)) c.execute.result
    (λ all has. deletes old new c.args.kind c.args.key.now all c.execute.result has (rw (c.params-to_sql.ensures, c.params-to_sql-2.ensures) at (c.execute.ensures.runs clean)))
