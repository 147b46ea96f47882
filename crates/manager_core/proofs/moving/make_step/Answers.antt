use Rattle.std.proofs.Common.{refl}
use Rattle.std.specs.Prelude.{Ok}
use Rattle.op_steps.specs.Stages.{name_of}
use Rattle.manager_core.proofs.MovingLaws.{on_moves, stopped_moves}
use Rattle.manager_core.proofs.MovingOnce.{early_forward, next_forward, steps_once, stops_once}
use Rattle.manager_core.proofs.moving.make_step.Goals as goal

pub returns-in-Ok-clause-moves : goal.returns-in-Ok-clause-moves
returns-in-Ok-clause-moves g c = on_moves (g.W.World.outside c.args.world.now) (g.W.World.outside c.advance.new.world) c.args.op.now (name_of c.args.stage) (Ok c.in-Ok.next) c.in-Ok.ensures.passes
    (early_forward (name_of c.args.stage) c.requires.early) c.requires.early refl c.in-Ok.next c.in-Ok.ensures.name (next_forward (name_of c.args.stage) c.requires.early)

pub returns-in-Ok-clause-once : goal.returns-in-Ok-clause-once
returns-in-Ok-clause-once g c = steps_once (g.W.World.outside c.args.world.now) (g.W.World.outside c.advance.new.world) c.args.op.now (name_of c.args.stage) (Ok c.in-Ok.next) c.in-Ok.ensures.passes c.requires.early c.requires.step refl c.in-Ok.next

pub returns-in-Err-clause-moves : goal.returns-in-Err-clause-moves
returns-in-Err-clause-moves g c = stopped_moves (g.W.World.outside c.args.world.now) (g.W.World.outside c.advance.new.world) c.args.op.now (name_of c.args.stage) (early_forward (name_of c.args.stage) c.requires.early) c.in-Err.fault c.in-Err.ensures.passes c.stopped_by.result c.stopped_by.ensures

pub returns-in-Err-clause-once : goal.returns-in-Err-clause-once
returns-in-Err-clause-once g c = stops_once (g.W.World.outside c.args.world.now) (g.W.World.outside c.advance.new.world) c.args.op.now (name_of c.args.stage) (early_forward (name_of c.args.stage) c.requires.early) c.in-Err.fault c.in-Err.ensures.passes c.stopped_by.result c.stopped_by.ensures
