use Rattle.op_steps.proofs.Passes.{passes_then, passes_weaker}
use Rattle.op_steps.proofs.Rises.{rose_after}
use Rattle.op_steps.proofs.UndoCalls.{err_not_ok}
use Rattle.op_steps.proofs.UndoLaws.{sites_done, sites_stopped}
use Rattle.op_steps.proofs.undoing.undo_sites.Goals as goal

pub returns-in-Ok-clause-passes : goal.returns-in-Ok-clause-passes
returns-in-Ok-clause-passes g c =
    passes_then _ _ _ (g.W.World.outside c.args.world.now) (g.W.World.outside c.undo_both.new.world) (g.W.World.outside c.undo_both-in-Ok.new.world) c.in-Ok.ensures.passes c.undo_both-in-Ok.ensures.passes
    (λ image hs gs p q. sites_done c.args.op.now _ image hs gs p q)

pub returns-in-Ok-clause-cause : goal.returns-in-Ok-clause-cause
returns-in-Ok-clause-cause g c h =
    rose_after (g.W.World.outside c.args.world.now) (g.W.World.outside c.undo_both.new.world) (g.W.World.outside c.undo_both-in-Ok.new.world) c.undo_both.ensures.passes.later (c.undo_both-in-Ok.ensures.cause h)

pub returns-in-Err-clause-passes : goal.returns-in-Err-clause-passes
returns-in-Err-clause-passes g c =
    passes_weaker _ _ (g.W.World.outside c.args.world.now) (g.W.World.outside c.undo_both.new.world) (λ image hs p. sites_stopped c.args.op.now _ _ _ image hs (err_not_ok c.in-Err.fault) p) c.in-Err.ensures.passes
