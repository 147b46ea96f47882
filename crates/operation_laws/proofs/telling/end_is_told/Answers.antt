use Rattle.operation_laws.proofs.ToldLaws.{done_leads, fault_leads, memory_leads}
use Rattle.operation_laws.proofs.telling.end_is_told.Goals as goal

pub returns-clause-done : goal.returns-clause-done
returns-clause-done c = λ mode old new before e now left next then l is result target one ok names passes. done_leads mode old new before e now left next then l is result target one ok names passes

pub returns-clause-fault : goal.returns-clause-fault
returns-clause-fault c = λ mode old new before e now left next then l is result forward none names passes. fault_leads mode old new before e now left next then l is result forward none names passes

pub returns-clause-memory : goal.returns-clause-memory
returns-clause-memory c = λ mode old new before e now left next then l is result forward one fails names passes. memory_leads mode old new before e now left next then l is result forward one fails names passes
