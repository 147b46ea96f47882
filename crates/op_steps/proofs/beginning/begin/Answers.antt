use Rattle.std.proofs.Common.{ap, subst}
use Rattle.std.specs.Prelude.{Err}
use Rattle.op_steps.specs.Beginning.{IsOfStore}
use Rattle.op_steps.proofs.BeginLaws.{pending, going, way_not_cleared, store_before}
use Rattle.op_steps.proofs.Rises.{rose_after}
use Rattle.op_steps.proofs.beginning.begin.Goals as goal

pub returns-in-Ok-Some-clause-passes : goal.returns-in-Ok-Some-clause-passes
returns-in-Ok-Some-clause-passes g c =
    pending c.args.live.now c.args.op.now c.in-Ok-Some.other (g.W.World.outside c.args.world.now) (g.W.World.outside c.clear_way.new.world) (rw (← c.in-Ok-Some.field-0-is, ← c.reach_of.ensures) c.in-Ok-Some.ensures.passes)

pub returns-in-Ok-None-clause-passes : goal.returns-in-Ok-None-clause-passes
returns-in-Ok-None-clause-passes g c =
    going c.args.live.now c.args.op.now c.go.result (g.W.World.outside c.args.world.now) (g.W.World.outside c.clear_way.new.world) (g.W.World.outside c.go.new.world) (rw (← c.in-Ok-None.field-0-is, ← c.reach_of.ensures) c.in-Ok-None.ensures.passes) c.go.ensures.passes

pub returns-in-Ok-None-clause-cause : goal.returns-in-Ok-None-clause-cause
returns-in-Ok-None-clause-cause g c h =
    rose_after (g.W.World.outside c.args.world.now) (g.W.World.outside c.clear_way.new.world) (g.W.World.outside c.go.new.world) c.clear_way.ensures.passes.later (c.go.ensures.cause h)

pub returns-in-Err-clause-passes : goal.returns-in-Err-clause-passes
returns-in-Err-clause-passes g c =
    rw (c.fault_before.ensures) (way_not_cleared c.args.live.now c.args.op.now c.in-Err.fault (g.W.World.outside c.args.world.now) (g.W.World.outside c.clear_way.new.world) (rw (← c.reach_of.ensures) c.in-Err.ensures.passes))

pub returns-in-Err-clause-cause : goal.returns-in-Err-clause-cause
returns-in-Err-clause-cause g c h = c.in-Err.ensures.cause (ap Err (store_before c.in-Err.fault (subst IsOfStore c.fault_before.ensures h)))

pub returns-in-Ok-None-clause-says : goal.returns-in-Ok-None-clause-says
returns-in-Ok-None-clause-says g c = c.go.ensures.says c.args.live.now
