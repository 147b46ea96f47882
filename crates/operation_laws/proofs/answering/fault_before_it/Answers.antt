use Rattle.operation_laws.proofs.Done.{fault_before_on_trail, fault_before_alone}
use Rattle.operation_laws.proofs.answering.fault_before_it.Goals as goal

pub returns-clause-on_trail : goal.returns-clause-on_trail
returns-clause-on_trail c = fault_before_on_trail

pub returns-clause-alone : goal.returns-clause-alone
returns-clause-alone c = fault_before_alone
