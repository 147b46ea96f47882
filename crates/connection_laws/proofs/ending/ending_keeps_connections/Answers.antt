use Rattle.connection_laws.proofs.EndedLaws.{ended_owned, under_owned, at_owned}
use Rattle.connection_laws.proofs.ending.ending_keeps_connections.Goals as goal

pub returns-clause-by_test : goal.returns-clause-by_test
returns-clause-by_test c = ended_owned

pub returns-clause-under : goal.returns-clause-under
returns-clause-under c = under_owned

pub returns-clause-at_site : goal.returns-clause-at_site
returns-clause-at_site c = at_owned
