use Rattle.std.proofs.Common.{sym, subst}
use Rattle.op_steps.specs.Stages.{name_of}
use Rattle.operation_laws.specs.Forward.{IsBeforeTarget}
use Rattle.manager_core.specs.Moving.{MovesOn, MovesOnce}
use Rattle.manager_core.proofs.MovingOnce.{over_moves, over_once}
use Rattle.manager_core.proofs.moving.move_from_source.Goals as goal

pub returns-else-has_step-clause-moves : goal.returns-else-has_step-clause-moves
returns-else-has_step-clause-moves g c = over_moves c.args.op.now (name_of c.args.stage) (subst IsBeforeTarget (sym c.requires) tt) (cc) c.args.stage (g.W.World.outside c.args.world.now) (g.W.World.outside c.move_from_target.new.world) c.move_from_target.result
    (subst (λ name. MovesOn c.args.op.now name c.move_from_target.result (g.W.World.outside c.args.world.now) (g.W.World.outside c.move_from_target.new.world)) c.pass_over.ensures.name c.move_from_target.ensures.moves)

pub returns-else-has_step-clause-once : goal.returns-else-has_step-clause-once
returns-else-has_step-clause-once g c = over_once c.args.op.now (name_of c.args.stage) (subst IsBeforeTarget (sym c.requires) tt) (cc) c.args.stage (g.W.World.outside c.args.world.now) (g.W.World.outside c.move_from_target.new.world) c.move_from_target.result
    (subst (λ name. MovesOnce c.args.op.now name c.move_from_target.result (g.W.World.outside c.args.world.now) (g.W.World.outside c.move_from_target.new.world)) c.pass_over.ensures.name c.move_from_target.ensures.once)
