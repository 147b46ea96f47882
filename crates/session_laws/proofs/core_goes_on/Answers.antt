use Rattle.session_laws.specs.Needs.{Needs}
use Rattle.session_laws.proofs.CoreLaws.{core_happens}
use Rattle.session_laws.proofs.core_goes_on.Goals as goal

pub returns : goal.returns
returns c = core_happens Needs
