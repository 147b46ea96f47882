use Rattle.operation_laws.proofs.Done.{done_on_trail, done_alone}
use Rattle.operation_laws.proofs.answering.commit_answers_ok.Goals as goal

pub returns-clause-on_trail : goal.returns-clause-on_trail
returns-clause-on_trail c = done_on_trail

pub returns-clause-alone : goal.returns-clause-alone
returns-clause-alone c = done_alone
