use Rattle.std.proofs.Common.{◌≡◌, ℤ, List, [], ◌∷◌, ◌++◌}
use Rattle.std.proofs.lemmas.Result.{on_ok_weaker}
use Rattle.sqlite.specs.Held.{state}
use Rattle.cell_table.specs.Cells.{Entry, Holds, others}
use Rattle.cell_table.proofs.DeleteLemmas.{for_each}
use Rattle.cell_table.proofs.PutLemmas.{puts}
use Rattle.cell_table.proofs.put.Goals as goal

pub returns : goal.returns
returns g c clean =
    let old = state g.S.Store c.args.conn.now in
    let new = state g.S.Store c.execute.new.self in
    let P = λ (all : List Entry). (id : ℤ) × Holds new.now (others c.args.kind c.args.key.now all ++ record { id = id; kind = c.args.kind; key = c.args.key.now; value = c.args.value.now } ∷ []) in
    for_each (Holds old.now) P c.execute.result (λ all has. on_ok_weaker {Q = P all} c.execute.result (λ it. (_, it))
    (puts old new c.args.kind c.args.key.now c.args.value.now all c.execute.result has (rw (c.params-to_sql.ensures, c.params-to_sql-2.ensures, c.params-to_sql-3.ensures) at (c.execute.ensures.runs clean))))
