use Rattle.std.proofs.Common.{refl, sym, ap, ◌∙◌, subst}
use Rattle.std.specs.Prelude.{Ok}
use Rattle.op_steps.specs.Stages.{name_of, next_stage}
use Rattle.operation_laws.specs.Forward.{IsForward}
use Rattle.manager_core.proofs.MovingLaws.{done_moves, stopped_moves}
use Rattle.manager_core.proofs.MovingOnce.{commits_once, stops_once}
use Rattle.manager_core.proofs.moving.move_from_target.Goals as goal

pub returns-in-Ok-clause-moves : goal.returns-in-Ok-clause-moves
returns-in-Ok-clause-moves g c = done_moves _ _ c.args.op.now (name_of c.args.stage) (Ok c.in-Ok.next) c.in-Ok.ensures.passes (subst IsForward (sym c.requires) tt) c.requires refl c.in-Ok.next (c.in-Ok.ensures.name ∙ ap next_stage c.requires)

pub returns-in-Err-clause-moves : goal.returns-in-Err-clause-moves
returns-in-Err-clause-moves g c = stopped_moves _ _ c.args.op.now (name_of c.args.stage) (subst IsForward (sym c.requires) tt) c.in-Err.fault c.in-Err.ensures.passes c.stopped_by.result c.stopped_by.ensures

pub returns-in-Ok-clause-once : goal.returns-in-Ok-clause-once
returns-in-Ok-clause-once g c = commits_once (g.W.World.outside c.args.world.now) (g.W.World.outside c.advance.new.world) c.args.op.now (name_of c.args.stage) (Ok c.in-Ok.next) c.in-Ok.ensures.passes (subst IsForward (sym c.requires) tt) c.requires refl c.in-Ok.next

pub returns-in-Err-clause-once : goal.returns-in-Err-clause-once
returns-in-Err-clause-once g c = stops_once (g.W.World.outside c.args.world.now) (g.W.World.outside c.advance.new.world) c.args.op.now (name_of c.args.stage) (subst IsForward (sym c.requires) tt) c.in-Err.fault c.in-Err.ensures.passes c.stopped_by.result c.stopped_by.ensures
