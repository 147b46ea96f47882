use Rattle.std.proofs.Common.{arith}
use Rattle.world_memory.proofs.Following.{made_more}
use Rattle.world_memory.proofs.contents.Contents.finish.Goals as goal

pub returns-in_err-make-clause-holds : goal.returns-in_err-make-clause-holds
returns-in_err-make-clause-holds c = λ stores h. c.in_err-make.ensures.err _ (c.loop-self.invariant.0 stores h)

pub loop-self-preserved : goal.loop-self-preserved
loop-self-preserved c = (
  λ stores h. made_more c.make.new.cells stores c.args.site.0 c.loop-self.self.part c.args.edits.now c.index-edits-self.result c.index-edits-self.is c.loop-self-test.true (c.in_ok-make.ensures.ok _ (c.loop-self.invariant.0 stores h)),
  omega arith,
  c.loop-self.invariant.2,
)
