use Rattle.operation_laws.proofs.ToldLaws.{log_fault_leads}
use Rattle.operation_laws.proofs.telling.refused_log_row_is_told.Goals as goal

pub returns : goal.returns
returns c = λ mode old new before e now left next then no_job rests live are op none is passes. log_fault_leads mode old new before e now left next then no_job rests live are op none is passes
