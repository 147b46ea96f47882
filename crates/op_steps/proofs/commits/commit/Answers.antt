use Rattle.op_steps.proofs.Passes.{commit_ok, commit_err}
use Rattle.op_steps.proofs.Rises.{rose_fault}
use Rattle.op_steps.proofs.commits.commit.Goals as goal

pub returns-in-Ok-clause-tried : goal.returns-in-Ok-clause-tried
returns-in-Ok-clause-tried g c place here = commit_ok (g.W.World.outside c.args.world.now) (g.W.World.outside c.commit.new.self) c.args.site place here c.args.change.now tt c.in-Ok.ensures.made

pub returns-in-Err-clause-tried : goal.returns-in-Err-clause-tried
returns-in-Err-clause-tried g c place here =
    commit_err (g.W.World.outside c.args.world.now) (g.W.World.outside c.commit.new.self) c.args.site place here c.args.change.now c.in-Err.error c.fault_of.result c.fault_of.ensures.failed c.fault_of.ensures.memory c.in-Err.ensures.made

pub returns-in-Err-clause-cause : goal.returns-in-Err-clause-cause
returns-in-Err-clause-cause g c =
    rose_fault (g.W.World.outside c.args.world.now) (g.W.World.outside c.commit.new.self) c.args.site c.args.change.now c.requires c.in-Err.error c.fault_of.result c.fault_of.ensures.memory c.in-Err.ensures.made c.in-Err.ensures.cause
