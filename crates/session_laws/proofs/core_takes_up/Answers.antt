use Rattle.session_laws.specs.Needs.{Needs}
use Rattle.session_laws.proofs.CoreLaws.{core_takes}
use Rattle.session_laws.proofs.core_takes_up.Goals as goal

pub returns : goal.returns
returns c = core_takes Needs
