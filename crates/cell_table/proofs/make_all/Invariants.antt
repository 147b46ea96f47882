use Rattle.std.proofs.Common.{◌≡◌, List, IsTrue, take}
use Rattle.sqlite.specs.State.{HasCleanDisk, KeepsCommit, Survives}
use Rattle.sqlite.specs.Held.{state}
use Rattle.cell_table.specs.Cells.{Entry, Holds, AreMade}
use Rattle.cell_table.proofs.make_all.Given as goal

abbrev pub invariant-each : goal.invariant-each
invariant-each g l =
    let old = state g.S.Store l.fn.tx.conn.now in
    let now = state g.S.Store l.tx.conn.now in
    (l.tx.conn.ghost_name ≡ l.fn.tx.conn.ghost_name) × Survives old now (λ _. ⊥)
    × (HasCleanDisk now → KeepsCommit old now × (IsTrue old.in_transaction → IsTrue now.in_transaction) × ((all : List Entry) → Holds old.now all → (next : List Entry) × AreMade (take l.op-index l.ops) all next × Holds now.now next))
