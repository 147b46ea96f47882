use Rattle.std.proofs.Common.{◌≡◌, List, [], ◌∷◌, ◌++◌}
use Rattle.sqlite.specs.Held.{state}
use Rattle.cell_table.specs.Cells.{Entry, Holds, IsMade}
use Rattle.cell_table.proofs.DeleteLemmas.{for_each, deletes}
use Rattle.cell_table.proofs.PutLemmas.{puts}
use Rattle.cell_table.proofs.ChangeLemmas.{inside_stays, call_keeps, call_ran, made_none, made_some}
use Rattle.cell_table.proofs.make.Goals as goal

pub returns-in-Some-clause-kept : goal.returns-in-Some-clause-kept
returns-in-Some-clause-kept g c clean = call_keeps g.S.Store _ _ c.args.tx.now.conn.now c.execute.new.self.conn.now _ _ c.execute.ensures.ended (c.execute.ensures.runs clean)

pub returns-in-None-clause-kept : goal.returns-in-None-clause-kept
returns-in-None-clause-kept g c clean = call_keeps g.S.Store _ _ c.args.tx.now.conn.now c.execute-in-None.new.self.conn.now _ _ c.execute-in-None.ensures.ended (c.execute-in-None.ensures.runs clean)

pub returns-in-None-clause-made : goal.returns-in-None-clause-made
returns-in-None-clause-made g c clean =
    let old = state g.S.Store c.args.tx.now.conn.now in
    let new = state g.S.Store c.execute-in-None.new.self.conn.now in
    let op = c.args.op.now in
    let P = λ (all : List Entry). (next : List Entry) × IsMade op all next × Holds new.now next in
    for_each (Holds old.now) P c.execute-in-None.result (λ all has.
    call_ran g.S.Store _ _ c.args.tx.now.conn.now c.execute-in-None.new.self.conn.now _ _ c.execute-in-None.ensures.ended
    (rw (c.params-to_sql-in-None.ensures, c.params-to_sql-in-None-2.ensures) at (c.execute-in-None.ensures.runs clean)) (P all)
    (λ n ran. (_, made_none op all c.in-None.is, deletes old new op.kind op.key.items all _ has ran)))

pub returns-in-Some-clause-made : goal.returns-in-Some-clause-made
returns-in-Some-clause-made g c clean =
    let old = state g.S.Store c.args.tx.now.conn.now in
    let new = state g.S.Store c.execute.new.self.conn.now in
    let op = c.args.op.now in
    let P = λ (all : List Entry). (next : List Entry) × IsMade op all next × Holds new.now next in
    for_each (Holds old.now) P c.execute.result (λ all has.
    call_ran g.S.Store _ _ c.args.tx.now.conn.now c.execute.new.self.conn.now _ _ c.execute.ensures.ended
    (rw (c.params-to_sql.ensures, c.params-to_sql-in-Some.ensures, c.params-to_sql-in-Some-2.ensures) at (c.execute.ensures.runs clean)) (P all)
    (λ n ran. (_, made_some op all c.in-Some.value _ c.in-Some.is, puts old new op.kind op.key.items c.in-Some.value.items all _ has ran)))

pub returns-in-Some-clause-inside : goal.returns-in-Some-clause-inside
returns-in-Some-clause-inside g c clean began = inside_stays _ _ _ _ _ (c.execute.ensures.runs clean began)

pub returns-in-None-clause-inside : goal.returns-in-None-clause-inside
returns-in-None-clause-inside g c clean began = inside_stays _ _ _ _ _ (c.execute-in-None.ensures.runs clean began)
