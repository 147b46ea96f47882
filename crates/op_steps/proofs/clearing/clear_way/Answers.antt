use Rattle.std.proofs.Common.{ap, Option}
use Rattle.std.specs.Prelude.{Err}
use Rattle.cell_world.specs.declared.operations.Op.{Op}
use Rattle.op_steps.proofs.ClearLaws.{finds_live, clears, clears_not, clears_none}
use Rattle.op_steps.proofs.Rises.{rose_after, rose_global}
use Rattle.op_steps.proofs.UndoCalls.{fault_in}
use Rattle.op_steps.proofs.clearing.clear_way.Goals as goal

pub returns-in-Some-clause-passes : goal.returns-in-Some-clause-passes
returns-in-Some-clause-passes g c =
    finds_live c.args.live.now c.args.reach.now c.in-Ok.ops.items c.in-Some.op (g.W.World.outside c.args.world.now) (g.W.World.outside c.log_rows.new.world) c.in-Ok.ensures.told c.in-Ok.ensures.later c.in-Ok.ensures.found (rw (← c.deref.ensures.value) c.in-Some.ensures)

pub returns-in-Ok-undo_conflicting-clause-passes : goal.returns-in-Ok-undo_conflicting-clause-passes
returns-in-Ok-undo_conflicting-clause-passes g c =
    clears c.args.live.now c.args.reach.now c.in-Ok.ops.items (g.W.World.outside c.args.world.now) (g.W.World.outside c.log_rows.new.world) (g.W.World.outside c.undo_conflicting.new.world) c.in-Ok.ensures.told c.in-Ok.ensures.later c.in-Ok.ensures.found
    (rw (← c.deref.ensures.value) c.in-None.ensures) (rw (← c.deref-in-None.ensures.value) c.in-Ok-undo_conflicting.ensures.passes)

pub returns-in-Ok-clause-passes : goal.returns-in-Ok-clause-passes
returns-in-Ok-clause-passes g c =
    clears_not c.args.live.now c.args.reach.now c.in-Ok.ops.items c.in-Err-undo_conflicting.fault (g.W.World.outside c.args.world.now) (g.W.World.outside c.log_rows.new.world) (g.W.World.outside c.undo_conflicting.new.world) c.in-Ok.ensures.told c.in-Ok.ensures.later c.in-Ok.ensures.found
    (rw (← c.deref.ensures.value) c.in-None.ensures) (rw (← c.deref-in-None.ensures.value) c.in-Err-undo_conflicting.ensures.passes)

pub returns-in-Ok-clause-cause : goal.returns-in-Ok-clause-cause
returns-in-Ok-clause-cause g c h =
    rose_after (g.W.World.outside c.args.world.now) (g.W.World.outside c.log_rows.new.world) (g.W.World.outside c.undo_conflicting.new.world) c.in-Ok.ensures.later (c.in-Err-undo_conflicting.ensures.cause (ap Err (fault_in (Option Op) c.in-Err-undo_conflicting.fault h)))

pub returns-clause-passes : goal.returns-clause-passes
returns-clause-passes g c = clears_none c.args.live.now c.args.reach.now c.in-Err.fault (g.W.World.outside c.args.world.now) (g.W.World.outside c.log_rows.new.world) c.in-Err.ensures.told c.in-Err.ensures.later

pub returns-clause-cause : goal.returns-clause-cause
returns-clause-cause g c h =
    rose_global (g.W.World.outside c.args.world.now) (g.W.World.outside c.log_rows.new.world) c.in-Err.ensures.later.faults (c.in-Err.ensures.cause (ap Err (fault_in (Option Op) c.in-Err.fault h)))

pub returns-in-Some-clause-in_way : goal.returns-in-Some-clause-in_way
returns-in-Some-clause-in_way g c = c.in-Some.ensures.passes
