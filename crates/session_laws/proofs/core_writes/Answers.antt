use Rattle.session_laws.specs.Needs.{Needs}
use Rattle.session_laws.proofs.CoreLaws.{core_writes}
use Rattle.session_laws.proofs.core_writes.Goals as goal

pub returns : goal.returns
returns c = core_writes Needs
