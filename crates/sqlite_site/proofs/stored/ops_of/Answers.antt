use Rattle.std.proofs.Common.{◌+◌, take, sym, subst}
use Rattle.sqlite_site.specs.Held.{AreOpsOf}
use Rattle.sqlite_site.proofs.OpLemmas.{ops_more}
use Rattle.sqlite_site.proofs.stored.ops_of.Goals as goal

pub loop-edit-preserved : goal.loop-edit-preserved
loop-edit-preserved c =
    subst (λ ops. AreOpsOf ops (take (c.loop-edit.edit-index + 1) c.args.edits.now)) (sym c.in_ok-push.ensures.items)
    (ops_more c.loop-edit.ops.items c.args.edits.now c.loop-edit.edit-index c.in_ok-op_of.field-0 c.edit-item.result c.loop-edit-test.true c.edit-item.is c.loop-edit.invariant c.in_ok-op_of.ensures)
