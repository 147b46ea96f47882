use Rattle.operation_laws.proofs.Reaches.{reach_is}
use Rattle.operation_laws.proofs.answering.command_reaches_its_operation.Goals as goal

pub returns : goal.returns
returns c = reach_is
