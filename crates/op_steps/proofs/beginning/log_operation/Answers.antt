use Rattle.std.proofs.Common.{ap, subst}
use Rattle.std.specs.Prelude.{Err}
use Rattle.op_steps.specs.Beginning.{IsOfStore}
use Rattle.op_steps.proofs.BeginLaws.{logs_found, logs_not, store_before}
use Rattle.op_steps.proofs.Rises.{rose_after, rose_global}
use Rattle.op_steps.proofs.beginning.log_operation.Goals as goal

pub returns-in-Ok-clause-passes : goal.returns-in-Ok-clause-passes
returns-in-Ok-clause-passes g c =
    logs_found c.args.op.now c.in-Ok.next _ (g.W.World.outside c.args.world.now) (g.W.World.outside c.next_numbers.new.world) (g.W.World.outside c.log_under.new.world) c.in-Ok.ensures.told c.in-Ok.ensures.later c.in-Ok.ensures.found c.log_under.ensures.passes

pub returns-in-Ok-clause-cause : goal.returns-in-Ok-clause-cause
returns-in-Ok-clause-cause g c h =
    rose_after (g.W.World.outside c.args.world.now) (g.W.World.outside c.next_numbers.new.world) (g.W.World.outside c.log_under.new.world) c.in-Ok.ensures.later (c.log_under.ensures.cause h)

pub returns-in-Err-clause-passes : goal.returns-in-Err-clause-passes
returns-in-Err-clause-passes g c =
    rw (c.fault_before.ensures) (logs_not c.args.op.now c.in-Err.fault (g.W.World.outside c.args.world.now) (g.W.World.outside c.next_numbers.new.world) c.in-Err.ensures.told c.in-Err.ensures.later)

pub returns-in-Err-clause-cause : goal.returns-in-Err-clause-cause
returns-in-Err-clause-cause g c h =
    rose_global (g.W.World.outside c.args.world.now) (g.W.World.outside c.next_numbers.new.world) c.in-Err.ensures.later.faults (c.in-Err.ensures.cause (ap Err (store_before c.in-Err.fault (subst IsOfStore c.fault_before.ensures h))))
