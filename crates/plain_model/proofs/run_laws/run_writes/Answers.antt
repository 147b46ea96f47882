use Rattle.plain_model.proofs.RunLaws.{owing-wrote, owing-wrote_all, owing-wrote_front, summary-wrote, summary-wrote_front}
use Rattle.plain_model.proofs.run_laws.run_writes.Goals as goal

pub returns-clause-all : goal.returns-clause-all
returns-clause-all c = owing-wrote_all

pub returns-clause-part : goal.returns-clause-part
returns-clause-part c = owing-wrote

pub returns-clause-front : goal.returns-clause-front
returns-clause-front c = owing-wrote_front

pub returns-clause-summary : goal.returns-clause-summary
returns-clause-summary c = summary-wrote

pub returns-clause-summary_front : goal.returns-clause-summary_front
returns-clause-summary_front c = summary-wrote_front
