use Rattle.op_steps.proofs.Passes.{passes_then}
use Rattle.op_steps.proofs.Rises.{rose_after}
use Rattle.op_steps.proofs.UndoCalls.{err_not_ok, list_begins}
use Rattle.op_steps.proofs.RecoverLaws.{next_done, next_failed}
use Rattle.op_steps.proofs.undoing.undo_all.Goals as goal

pub loop-op-init : goal.loop-op-init
loop-op-init g c = list_begins c.args.ops.now (g.W.World.outside c.args.world.now)

pub loop-op-preserved : goal.loop-op-preserved
loop-op-preserved g c =
    passes_then _ _ _ (g.W.World.outside c.args.world.now) (g.W.World.outside c.loop-op.world) (g.W.World.outside c.undo.new.world) c.loop-op.invariant c.in-Ok.ensures.passes
    (λ image hs gs p q. next_done c.args.ops.now c.loop-op.op-index c.op-item.result c.loop-op-test.true c.op-item.is image hs gs p q)

pub returns-in-Err-clause-passes : goal.returns-in-Err-clause-passes
returns-in-Err-clause-passes g c =
    passes_then _ _ _ (g.W.World.outside c.args.world.now) (g.W.World.outside c.loop-op.world) (g.W.World.outside c.undo.new.world) c.loop-op.invariant c.in-Err.ensures.passes
    (λ image hs gs p q. next_failed c.args.ops.now c.loop-op.op-index c.op-item.result c.loop-op-test.true c.op-item.is _ (err_not_ok c.in-Err.fault) image hs gs p q)

pub returns-in-Err-clause-cause : goal.returns-in-Err-clause-cause
returns-in-Err-clause-cause g c h =
    rose_after (g.W.World.outside c.args.world.now) (g.W.World.outside c.loop-op.world) (g.W.World.outside c.undo.new.world) c.loop-op.invariant.later (c.in-Err.ensures.cause h)
