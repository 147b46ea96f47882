use Rattle.std.proofs.Common.{arith}
use Rattle.global_tables.proofs.CopyEdits.{follows_more}
use Rattle.global_tables.proofs.known.KnownTables.changed.Goals as goal

pub loop-edit-preserved : goal.loop-edit-preserved
loop-edit-preserved c =
    follows_more c.args.self.now c.loop-edit.next c.edit.new.self c.as_slice-edit-items.result.now c.loop-edit.edit-index c.edit-item.result (omega (arith, c.loop-edit-test.true)) c.edit-item.is c.loop-edit.invariant c.in_ok-edit.ensures
