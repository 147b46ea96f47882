use Rattle.connection_laws.proofs.EndedLaws.{opened_owned, closed_owned}
use Rattle.connection_laws.proofs.ending.opening_and_closing_keep_connections.Goals as goal

pub returns-clause-opened : goal.returns-clause-opened
returns-clause-opened c = opened_owned

pub returns-clause-closed : goal.returns-clause-closed
returns-clause-closed c = closed_owned
