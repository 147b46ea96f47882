use Rattle.operation_laws.proofs.OwnSteps.{ends_on_trail, job_step_on_trail, ends_alone}
use Rattle.operation_laws.proofs.advancing.operation_ends.Goals as goal

pub returns-clause-answered : goal.returns-clause-answered
returns-clause-answered c = ends_on_trail

pub returns-clause-job_step : goal.returns-clause-job_step
returns-clause-job_step c = job_step_on_trail

pub returns-clause-alone : goal.returns-clause-alone
returns-clause-alone c = ends_alone
