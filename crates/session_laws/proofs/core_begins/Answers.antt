use Rattle.session_laws.specs.Needs.{Needs}
use Rattle.session_laws.proofs.CoreLaws.{core_begins}
use Rattle.session_laws.proofs.core_begins.Goals as goal

pub returns : goal.returns
returns c = core_begins Needs
