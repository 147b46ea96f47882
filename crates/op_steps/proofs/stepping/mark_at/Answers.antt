use Rattle.std.proofs.Common.{refl, ap}
use Rattle.std.specs.Prelude.{Err}
use Rattle.global_tables.specs.declared.faults.StepFault.TheVariants as fault
use Rattle.cell_world.specs.Images.{Shard}
use Rattle.cell_world.proofs.OutsideLaws.{later_same}
use Rattle.op_steps.proofs.MarkLaws.{mark_none, marks_nothing, marks_some}
use Rattle.op_steps.proofs.Rises.{rose_after}
use Rattle.op_steps.proofs.UndoCalls.{fault_is, site_is_some, still_site, rose_either, site_later}
use Rattle.op_steps.proofs.stepping.mark_at.Goals as goal

pub returns-in_default-clause-passes : goal.returns-in_default-clause-passes
returns-in_default-clause-passes g c = mark_none c.args.op.now c.args.location.now fault.Memory (g.W.World.outside c.args.world.now) (g.W.World.outside c.args.world.now) refl (later_same _)

pub mark_change-requires-clause-site : goal.mark_change-requires-clause-site
mark_change-requires-clause-site g c = site_is_some (g.W.World.outside c.args.world.now) c.args.location.now c.in-Some.site c.in-Some.ensures

pub returns-in-Err-clause-passes : goal.returns-in-Err-clause-passes
returns-in-Err-clause-passes g c =
    mark_none c.args.op.now c.args.location.now c.in-Err.fault (g.W.World.outside c.args.world.now) (g.W.World.outside c.mark_change.new.world) c.in-Err.ensures.told c.in-Err.ensures.later

pub returns-in-Err-clause-cause : goal.returns-in-Err-clause-cause
returns-in-Err-clause-cause g c h =
    rose_either (g.W.World.outside c.args.world.now) (g.W.World.outside c.mark_change.new.world) c.args.location.now c.in-Some.site c.in-Some.ensures c.in-Err.ensures.later (c.in-Err.ensures.cause (ap Err (fault_is c.in-Err.fault h)))

pub commit-requires : goal.commit-requires
commit-requires g c = still_site (g.W.World.outside c.args.world.now) (g.W.World.outside c.mark_change.new.world) c.args.location.now c.in-Some.site c.mark_change.ensures.later c.in-Some.ensures

pub returns-in-Ok-None-clause-passes : goal.returns-in-Ok-None-clause-passes
returns-in-Ok-None-clause-passes g c =
    marks_nothing c.args.op.now c.args.location.now c.in-Some.site (g.W.World.outside c.args.world.now) (g.W.World.outside c.mark_change.new.world) c.in-Ok-None.field-0 c.in-Ok-None.field-0-is c.in-Some.ensures c.in-Ok-None.ensures.told c.in-Ok-None.ensures.later c.in-Ok-None.ensures.change

pub returns-in-Ok-Some-clause-passes : goal.returns-in-Ok-Some-clause-passes
returns-in-Ok-Some-clause-passes g c =
    marks_some c.args.op.now c.args.location.now c.in-Some.site c.in-Ok-Some.change c.commit.result (g.W.World.outside c.args.world.now) (g.W.World.outside c.mark_change.new.world) (g.W.World.outside c.commit.new.world)
    c.in-Ok-Some.field-0 c.in-Ok-Some.field-0-is c.in-Some.ensures c.in-Ok-Some.ensures.told c.in-Ok-Some.ensures.later c.in-Ok-Some.ensures.change
    (c.commit.ensures.tried (Shard c.args.location.now) (site_later (g.W.World.outside c.args.world.now) (g.W.World.outside c.mark_change.new.world) c.args.location.now c.in-Some.site c.in-Ok-Some.ensures.later c.in-Some.ensures))

pub returns-in-Ok-Some-clause-cause : goal.returns-in-Ok-Some-clause-cause
returns-in-Ok-Some-clause-cause g c h =
    rose_after (g.W.World.outside c.args.world.now) (g.W.World.outside c.mark_change.new.world) (g.W.World.outside c.commit.new.world) c.mark_change.ensures.later (c.commit.ensures.cause h)
