use Rattle.std.proofs.Common.{ap}
use Rattle.std.specs.Prelude.{Err}
use Rattle.op_steps.proofs.SettleLaws.{settle_failed, settle_attached, settle_away}
use Rattle.op_steps.proofs.Rises.{rose_after, rose_global}
use Rattle.op_steps.proofs.UndoCalls.{fault_is}
use Rattle.op_steps.proofs.settling.settle_at.Goals as goal

pub returns-then-attached-clause-passes : goal.returns-then-attached-clause-passes
returns-then-attached-clause-passes g c =
    settle_attached c.args.op.now c.args.location.now c.in-Ok.attached _ (g.W.World.outside c.args.world.now) (g.W.World.outside c.is_attached_now.new.world) (g.W.World.outside c.settle_attached.new.world) c.if-attached.true c.in-Ok.ensures.told c.in-Ok.ensures.later c.in-Ok.ensures.found c.settle_attached.ensures.passes

pub returns-then-attached-clause-cause : goal.returns-then-attached-clause-cause
returns-then-attached-clause-cause g c h =
    rose_after (g.W.World.outside c.args.world.now) (g.W.World.outside c.is_attached_now.new.world) (g.W.World.outside c.settle_attached.new.world) c.in-Ok.ensures.later (c.settle_attached.ensures.cause h)

pub returns-else-attached-clause-passes : goal.returns-else-attached-clause-passes
returns-else-attached-clause-passes g c =
    settle_away c.args.op.now c.args.location.now c.in-Ok.attached (g.W.World.outside c.args.world.now) (g.W.World.outside c.is_attached_now.new.world) c.if-attached.false c.in-Ok.ensures.told c.in-Ok.ensures.later c.in-Ok.ensures.found

pub returns-in-Err-clause-passes : goal.returns-in-Err-clause-passes
returns-in-Err-clause-passes g c = settle_failed c.args.op.now c.args.location.now c.in-Err.fault (g.W.World.outside c.args.world.now) (g.W.World.outside c.is_attached_now.new.world) c.in-Err.ensures.told c.in-Err.ensures.later

pub returns-in-Err-clause-cause : goal.returns-in-Err-clause-cause
returns-in-Err-clause-cause g c h =
    rose_global (g.W.World.outside c.args.world.now) (g.W.World.outside c.is_attached_now.new.world) c.in-Err.ensures.later.faults (c.in-Err.ensures.cause (ap Err (fault_is c.in-Err.fault h)))
