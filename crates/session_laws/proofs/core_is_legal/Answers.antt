use Rattle.session_laws.specs.Needs.{Needs}
use Rattle.session_laws.proofs.CoreLaws.{core_is_legal}
use Rattle.session_laws.proofs.core_is_legal.Goals as goal

pub returns : goal.returns
returns c = core_is_legal Needs
