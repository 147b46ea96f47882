use Rattle.cell_world.specs.declared.operations.StageName.TheVariants.{Logged, SourceDone, TargetDone, Committed, Settled}
use Rattle.op_steps.proofs.AdvanceLaws.{at_stage, source_on, target_on, commit_on, settle_on, stay_settled}
use Rattle.op_steps.proofs.advancing.step_on.Goals as goal

pub returns-in-Logged-clause-passes : goal.returns-in-Logged-clause-passes
returns-in-Logged-clause-passes g c = at_stage c.args.op.now c.args.name Logged _ _ (g.W.World.outside c.args.world.now) (g.W.World.outside c.mark_beside.new.world) c.in-Logged.is (source_on c.args.op.now _ _ (g.W.World.outside c.args.world.now) (g.W.World.outside c.mark_beside.new.world) c.mark_beside.ensures.passes)

pub returns-in-SourceDone-clause-passes : goal.returns-in-SourceDone-clause-passes
returns-in-SourceDone-clause-passes g c = at_stage c.args.op.now c.args.name SourceDone _ _ (g.W.World.outside c.args.world.now) (g.W.World.outside c.mark_beside-in-SourceDone.new.world) c.in-SourceDone.is (target_on c.args.op.now _ _ (g.W.World.outside c.args.world.now) (g.W.World.outside c.mark_beside-in-SourceDone.new.world) c.mark_beside-in-SourceDone.ensures.passes)

pub returns-in-TargetDone-clause-passes : goal.returns-in-TargetDone-clause-passes
returns-in-TargetDone-clause-passes g c = at_stage c.args.op.now c.args.name TargetDone _ _ (g.W.World.outside c.args.world.now) (g.W.World.outside c.commit_operation.new.world) c.in-TargetDone.is (commit_on c.args.op.now _ _ (g.W.World.outside c.args.world.now) (g.W.World.outside c.commit_operation.new.world) c.commit_operation.ensures.passes)

pub returns-in-Committed-clause-passes : goal.returns-in-Committed-clause-passes
returns-in-Committed-clause-passes g c = at_stage c.args.op.now c.args.name Committed _ _ (g.W.World.outside c.args.world.now) (g.W.World.outside c.settle_sites.new.world) c.in-Committed.is (settle_on c.args.op.now _ _ (g.W.World.outside c.args.world.now) (g.W.World.outside c.settle_sites.new.world) c.settle_sites.ensures.passes)

pub returns-in-Settled-clause-passes : goal.returns-in-Settled-clause-passes
returns-in-Settled-clause-passes g c = at_stage c.args.op.now c.args.name Settled _ _ (g.W.World.outside c.args.world.now) (g.W.World.outside c.args.world.now) c.in-Settled.is (stay_settled c.args.op.now (g.W.World.outside c.args.world.now))
