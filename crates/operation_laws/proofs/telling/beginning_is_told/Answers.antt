use Rattle.operation_laws.proofs.ToldLaws.{begin_leads}
use Rattle.operation_laws.proofs.telling.beginning_is_told.Goals as goal

pub returns : goal.returns
returns c = λ mode old new before session command left no_job rests live are op made stage passes next then. begin_leads before session command no_job left rests mode old new live are op made stage passes next then
