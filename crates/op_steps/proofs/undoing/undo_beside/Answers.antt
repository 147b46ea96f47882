use Rattle.op_steps.proofs.UndoCalls.{same_site, other_site}
use Rattle.op_steps.proofs.undoing.undo_beside.Goals as goal

pub returns-in-Some-None-clause-passes : goal.returns-in-Some-None-clause-passes
returns-in-Some-None-clause-passes g c =
    other_site c.args.op.now c.args.piece.now c.in-Some-None.piece c.args.done.now _ (g.W.World.outside c.args.world.now) (g.W.World.outside c.undo_at.new.world) c.in-Some-None.is-0 c.undo_at.ensures.passes

pub returns-then-is_eq-clause-passes : goal.returns-then-is_eq-clause-passes
returns-then-is_eq-clause-passes g c =
    same_site c.args.op.now c.args.piece.now c.args.done.now c.in-Some-Some.piece c.in-Some-Some.done _ (g.W.World.outside c.args.world.now) c.in-Some-Some.is-0 c.in-Some-Some.is-1 (cc)

pub returns-else-is_eq-clause-passes : goal.returns-else-is_eq-clause-passes
returns-else-is_eq-clause-passes g c =
    other_site c.args.op.now c.args.piece.now c.in-Some-Some.piece c.args.done.now _ (g.W.World.outside c.args.world.now) (g.W.World.outside c.undo_at-else-is_eq.new.world) c.in-Some-Some.is-0 c.undo_at-else-is_eq.ensures.passes
