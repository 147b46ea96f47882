use Rattle.operation_laws.proofs.FaultedOffline.{offline_faults_before, offline_faults_before_alone}
use Rattle.operation_laws.proofs.answering.offline_fault_before_it.Goals as goal

pub returns-clause-on_trail : goal.returns-clause-on_trail
returns-clause-on_trail c = offline_faults_before

pub returns-clause-alone : goal.returns-clause-alone
returns-clause-alone c = offline_faults_before_alone
