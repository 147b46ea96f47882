use Rattle.operation_laws.proofs.Done.{log_faults_on_trail, log_faults_alone}
use Rattle.operation_laws.proofs.answering.fault_names_its_log_row.Goals as goal

pub returns-clause-on_trail : goal.returns-clause-on_trail
returns-clause-on_trail c = log_faults_on_trail

pub returns-clause-alone : goal.returns-clause-alone
returns-clause-alone c = log_faults_alone
