use Rattle.op_steps.proofs.Passes.{passes_then, passes_weaker}
use Rattle.op_steps.proofs.Rises.{rose_after}
use Rattle.op_steps.proofs.UndoCalls.{err_not_ok}
use Rattle.op_steps.proofs.UndoLaws.{undo_done, undo_failed}
use Rattle.op_steps.proofs.undoing.undo.Goals as goal

pub returns-in-Ok-clause-passes : goal.returns-in-Ok-clause-passes
returns-in-Ok-clause-passes g c =
    passes_then _ _ _ (g.W.World.outside c.args.world.now) (g.W.World.outside c.undo_sites.new.world) (g.W.World.outside c.drop_log_row.new.world) c.in-Ok.ensures.passes c.drop_log_row.ensures.passes
    (λ image hs gs p q. undo_done c.args.op.now _ image hs gs p q)

pub returns-in-Ok-clause-cause : goal.returns-in-Ok-clause-cause
returns-in-Ok-clause-cause g c h =
    rose_after (g.W.World.outside c.args.world.now) (g.W.World.outside c.undo_sites.new.world) (g.W.World.outside c.drop_log_row.new.world) c.undo_sites.ensures.passes.later (c.drop_log_row.ensures.cause h)

pub returns-in-Err-clause-passes : goal.returns-in-Err-clause-passes
returns-in-Err-clause-passes g c =
    passes_weaker _ _ (g.W.World.outside c.args.world.now) (g.W.World.outside c.undo_sites.new.world) (λ image hs p sound logged. undo_failed c.args.op.now _ _ image hs (err_not_ok c.in-Err.fault) (p sound logged)) c.in-Err.ensures.passes
