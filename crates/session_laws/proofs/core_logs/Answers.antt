use Rattle.session_laws.specs.Needs.{Needs}
use Rattle.session_laws.proofs.CoreLaws.{core_logs}
use Rattle.session_laws.proofs.core_logs.Goals as goal

pub returns : goal.returns
returns c = core_logs Needs
