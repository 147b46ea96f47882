use Rattle.plain_model.proofs.RunLaws.{goes_on, owing-happened}
use Rattle.plain_model.proofs.run_laws.run_goes_on.Goals as goal

pub returns-clause-happened : goal.returns-clause-happened
returns-clause-happened c = owing-happened

pub returns-clause-whatever_is_written : goal.returns-clause-whatever_is_written
returns-clause-whatever_is_written c = goes_on
