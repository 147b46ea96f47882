use Rattle.op_steps.proofs.MarkLaws.{no_mark, mark_same, mark_first, mark_other}
use Rattle.op_steps.proofs.stepping.mark_beside.Goals as goal

pub returns-in-None-default-clause-passes : goal.returns-in-None-default-clause-passes
returns-in-None-default-clause-passes g c = no_mark c.args.op.now c.args.piece.now c.args.done.now (g.W.World.outside c.args.world.now) c.in-None-default.is-0

pub returns-in-Some-None-clause-passes : goal.returns-in-Some-None-clause-passes
returns-in-Some-None-clause-passes g c =
    mark_first c.args.op.now c.args.piece.now c.args.done.now c.in-Some-None.piece _ _ (g.W.World.outside c.args.world.now) (g.W.World.outside c.mark_at.new.world) c.in-Some-None.is-0 c.in-Some-None.is-1 c.mark_at.ensures.passes

pub returns-then-is_eq-clause-passes : goal.returns-then-is_eq-clause-passes
returns-then-is_eq-clause-passes g c =
    mark_same c.args.op.now c.args.piece.now c.args.done.now c.in-Some-Some.piece c.in-Some-Some.done (g.W.World.outside c.args.world.now) c.in-Some-Some.is-0 c.in-Some-Some.is-1 (cc)

pub returns-else-is_eq-clause-passes : goal.returns-else-is_eq-clause-passes
returns-else-is_eq-clause-passes g c =
    mark_other c.args.op.now c.args.piece.now c.args.done.now c.in-Some-Some.piece c.in-Some-Some.done _ _ (g.W.World.outside c.args.world.now) (g.W.World.outside c.mark_at-else-is_eq.new.world) c.in-Some-Some.is-0 c.in-Some-Some.is-1 (cc) c.mark_at-else-is_eq.ensures.passes
