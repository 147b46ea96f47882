use Rattle.session_laws.specs.Needs.{Needs}
use Rattle.session_laws.proofs.CoreLaws.{answers_with, steps_with}
use Rattle.session_laws.proofs.core_commits.Goals as goal

pub returns-clause-answered : goal.returns-clause-answered
returns-clause-answered c = answers_with Needs

pub returns-clause-job_step : goal.returns-clause-job_step
returns-clause-job_step c = steps_with Needs
