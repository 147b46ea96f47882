use Rattle.operation_laws.proofs.ToldLaws.{advance_leads}
use Rattle.operation_laws.proofs.telling.stage_is_told.Goals as goal

pub returns : goal.returns
returns c = λ mode old new before session l is result early ok passes next then. advance_leads mode old new before session l is result early ok passes next then
