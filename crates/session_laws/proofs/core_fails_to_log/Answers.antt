use Rattle.session_laws.specs.Needs.{Needs}
use Rattle.session_laws.proofs.CoreLaws.{log_fails}
use Rattle.session_laws.proofs.core_fails_to_log.Goals as goal

pub returns : goal.returns
returns c = log_fails Needs
