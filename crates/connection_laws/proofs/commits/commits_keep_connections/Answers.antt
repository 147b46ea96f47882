use Rattle.connection_laws.proofs.ExchangedOwners.{committed_owned, all_committed}
use Rattle.connection_laws.proofs.commits.commits_keep_connections.Goals as goal

pub returns-clause-one : goal.returns-clause-one
returns-clause-one c = committed_owned

pub returns-clause-all : goal.returns-clause-all
returns-clause-all c = all_committed
