use Rattle.std.proofs.Common.{ap}
use Rattle.std.specs.Prelude.{Err}
use Rattle.op_steps.proofs.Rises.{rose_after, rose_global}
use Rattle.op_steps.proofs.UndoCalls.{err_not_ok, fault_is, recovers, recovers_none}
use Rattle.op_steps.proofs.undoing.recover.Goals as goal

pub returns-in-Ok-clause-passes : goal.returns-in-Ok-clause-passes
returns-in-Ok-clause-passes g c =
    recovers c.in-Ok.ops.items _ (g.W.World.outside c.args.world.now) (g.W.World.outside c.log_rows.new.world) (g.W.World.outside c.undo_all.new.world) c.in-Ok.ensures.told c.in-Ok.ensures.later c.in-Ok.ensures.found (rw (← c.deref.ensures.value) c.undo_all.ensures.passes)

pub returns-in-Ok-clause-cause : goal.returns-in-Ok-clause-cause
returns-in-Ok-clause-cause g c h =
    rose_after (g.W.World.outside c.args.world.now) (g.W.World.outside c.log_rows.new.world) (g.W.World.outside c.undo_all.new.world) c.in-Ok.ensures.later (c.undo_all.ensures.cause h)

pub returns-in-Err-clause-passes : goal.returns-in-Err-clause-passes
returns-in-Err-clause-passes g c = recovers_none _ (g.W.World.outside c.args.world.now) (g.W.World.outside c.log_rows.new.world) (err_not_ok c.in-Err.fault) c.in-Err.ensures.told c.in-Err.ensures.later

pub returns-in-Err-clause-cause : goal.returns-in-Err-clause-cause
returns-in-Err-clause-cause g c h =
    rose_global (g.W.World.outside c.args.world.now) (g.W.World.outside c.log_rows.new.world) c.in-Err.ensures.later.faults (c.in-Err.ensures.cause (ap Err (fault_is c.in-Err.fault h)))
