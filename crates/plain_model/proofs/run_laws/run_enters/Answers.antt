use Rattle.plain_model.proofs.RunLaws.{owing-entered, owing-silent, owing-committed, owing-stepped}
use Rattle.plain_model.proofs.run_laws.run_enters.Goals as goal

pub returns-clause-answered : goal.returns-clause-answered
returns-clause-answered c = owing-entered

pub returns-clause-unanswered : goal.returns-clause-unanswered
returns-clause-unanswered c = owing-silent

pub returns-clause-committed : goal.returns-clause-committed
returns-clause-committed c = owing-committed

pub returns-clause-job_step : goal.returns-clause-job_step
returns-clause-job_step c = owing-stepped
