use Rattle.plain_model.proofs.RunLaws.{recovers, recovering-happened, recovering-entered, recovering-committed}
use Rattle.plain_model.proofs.run_laws.run_recovers.Goals as goal

pub returns-clause-from : goal.returns-clause-from
returns-clause-from c = recovers

pub returns-clause-happened : goal.returns-clause-happened
returns-clause-happened c = recovering-happened

pub returns-clause-answered : goal.returns-clause-answered
returns-clause-answered c = recovering-entered

pub returns-clause-committed : goal.returns-clause-committed
returns-clause-committed c = recovering-committed
