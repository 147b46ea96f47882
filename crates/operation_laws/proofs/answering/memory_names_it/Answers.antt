use Rattle.operation_laws.proofs.Done.{memory_on_trail, memory_alone}
use Rattle.operation_laws.proofs.answering.memory_names_it.Goals as goal

pub returns-clause-on_trail : goal.returns-clause-on_trail
returns-clause-on_trail c = memory_on_trail

pub returns-clause-alone : goal.returns-clause-alone
returns-clause-alone c = memory_alone
