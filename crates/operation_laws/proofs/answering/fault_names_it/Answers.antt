use Rattle.operation_laws.proofs.Done.{faults_on_trail, faults_alone}
use Rattle.operation_laws.proofs.answering.fault_names_it.Goals as goal

pub returns-clause-on_trail : goal.returns-clause-on_trail
returns-clause-on_trail c = faults_on_trail

pub returns-clause-alone : goal.returns-clause-alone
returns-clause-alone c = faults_alone
