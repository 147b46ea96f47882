use Rattle.std.proofs.Common.{refl, ap}
use Rattle.std.specs.Prelude.{Err}
use Rattle.global_tables.specs.declared.faults.StepFault.TheVariants as fault
use Rattle.cell_world.specs.Images.{Shard}
use Rattle.cell_world.proofs.OutsideLaws.{later_same}
use Rattle.op_steps.proofs.Rises.{rose_after}
use Rattle.op_steps.proofs.UndoCalls.{err_not_ok, fault_is, site_is_some, still_site, rose_either, none_tried, none_to_do, some_to_do, site_later}
use Rattle.op_steps.proofs.undoing.undo_at.Goals as goal

pub returns-in_default-clause-passes : goal.returns-in_default-clause-passes
returns-in_default-clause-passes g c = none_tried c.args.op.now c.args.location.now _ (g.W.World.outside c.args.world.now) (g.W.World.outside c.args.world.now) (err_not_ok fault.Memory) refl (later_same _)

pub undo_change-requires-clause-site : goal.undo_change-requires-clause-site
undo_change-requires-clause-site g c = site_is_some (g.W.World.outside c.args.world.now) c.args.location.now c.in-Some.site c.in-Some.ensures

pub returns-in-Err-clause-passes : goal.returns-in-Err-clause-passes
returns-in-Err-clause-passes g c =
    none_tried c.args.op.now c.args.location.now _ (g.W.World.outside c.args.world.now) (g.W.World.outside c.undo_change.new.world) (err_not_ok c.in-Err.fault) c.in-Err.ensures.told c.in-Err.ensures.later

pub returns-in-Err-clause-cause : goal.returns-in-Err-clause-cause
returns-in-Err-clause-cause g c h =
    rose_either (g.W.World.outside c.args.world.now) (g.W.World.outside c.undo_change.new.world) c.args.location.now c.in-Some.site c.in-Some.ensures c.in-Err.ensures.later (c.in-Err.ensures.cause (ap Err (fault_is c.in-Err.fault h)))

pub commit-requires : goal.commit-requires
commit-requires g c = still_site (g.W.World.outside c.args.world.now) (g.W.World.outside c.undo_change.new.world) c.args.location.now c.in-Some.site c.undo_change.ensures.later c.in-Some.ensures

pub returns-in-Ok-None-clause-passes : goal.returns-in-Ok-None-clause-passes
returns-in-Ok-None-clause-passes g c =
    none_to_do c.args.op.now c.args.location.now c.in-Some.site _ (g.W.World.outside c.args.world.now) (g.W.World.outside c.undo_change.new.world) c.in-Ok-None.field-0 c.in-Ok-None.field-0-is c.in-Some.ensures c.in-Ok-None.ensures.told c.in-Ok-None.ensures.later c.in-Ok-None.ensures.change

pub returns-in-Ok-Some-clause-passes : goal.returns-in-Ok-Some-clause-passes
returns-in-Ok-Some-clause-passes g c =
    some_to_do c.args.op.now c.args.location.now c.in-Some.site c.in-Ok-Some.change c.commit.result (g.W.World.outside c.args.world.now) (g.W.World.outside c.undo_change.new.world) (g.W.World.outside c.commit.new.world)
    c.in-Ok-Some.field-0 c.in-Ok-Some.field-0-is c.in-Some.ensures c.in-Ok-Some.ensures.told c.in-Ok-Some.ensures.later c.in-Ok-Some.ensures.change
    (c.commit.ensures.tried (Shard c.args.location.now) (site_later (g.W.World.outside c.args.world.now) (g.W.World.outside c.undo_change.new.world) c.args.location.now c.in-Some.site c.in-Ok-Some.ensures.later c.in-Some.ensures))

pub returns-in-Ok-Some-clause-cause : goal.returns-in-Ok-Some-clause-cause
returns-in-Ok-Some-clause-cause g c h =
    rose_after (g.W.World.outside c.args.world.now) (g.W.World.outside c.undo_change.new.world) (g.W.World.outside c.commit.new.world) c.undo_change.ensures.later (c.commit.ensures.cause h)
