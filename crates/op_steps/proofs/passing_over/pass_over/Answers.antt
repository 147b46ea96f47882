use Rattle.op_steps.specs.Stages.{name_of}
use Rattle.op_steps.proofs.PassedStages.{passed}
use Rattle.op_steps.proofs.passing_over.pass_over.Goals as goal

pub returns-clause-stays : goal.returns-clause-stays
returns-clause-stays c = λ image. passed c.args.op.now (name_of c.args.stage) image c.requires
