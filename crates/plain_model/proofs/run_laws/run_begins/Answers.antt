use Rattle.plain_model.proofs.RunLaws.{begins}
use Rattle.plain_model.proofs.run_laws.run_begins.Goals as goal

pub returns : goal.returns
returns c = begins
