use Rattle.std.proofs.Common.{refl}
use Rattle.cell_world.specs.Images.{Global}
use Rattle.op_steps.proofs.CommitLaws.{commits_tried, commits_none}
use Rattle.op_steps.proofs.committing.commit_operation.Goals as goal

pub returns-in-Ok-clause-passes : goal.returns-in-Ok-clause-passes
returns-in-Ok-clause-passes g c = commits_tried c.args.op.now c.in-Ok.change c.commit.result (g.W.World.outside c.args.world.now) (g.W.World.outside c.commit.new.world) c.in-Ok.ensures (c.commit.ensures.tried Global refl)

pub returns-in-Err-clause-passes : goal.returns-in-Err-clause-passes
returns-in-Err-clause-passes g c = commits_none c.args.op.now (g.W.World.outside c.args.world.now)
