use Rattle.operation_laws.proofs.Full.{full_on_trail, full_alone}
use Rattle.operation_laws.proofs.answering.full_answers.Goals as goal

pub returns-clause-on_trail : goal.returns-clause-on_trail
returns-clause-on_trail c = full_on_trail

pub returns-clause-alone : goal.returns-clause-alone
returns-clause-alone c = full_alone
