use Rattle.operation_laws.proofs.FaultedOffline.{offline_log_faults, offline_log_faults_alone}
use Rattle.operation_laws.proofs.answering.offline_fault_names_its_log_row.Goals as goal

pub returns-clause-on_trail : goal.returns-clause-on_trail
returns-clause-on_trail c = offline_log_faults

pub returns-clause-alone : goal.returns-clause-alone
returns-clause-alone c = offline_log_faults_alone
