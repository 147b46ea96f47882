use Rattle.session_laws.specs.Needs.{Needs}
use Rattle.session_laws.proofs.CoreLaws.{answers_alone}
use Rattle.session_laws.proofs.core_answers.Goals as goal

pub returns : goal.returns
returns c = answers_alone Needs
