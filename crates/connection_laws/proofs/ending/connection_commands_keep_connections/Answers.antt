use Rattle.connection_laws.proofs.ByConnections.{connected_owned, by_connection_owned}
use Rattle.connection_laws.proofs.ending.connection_commands_keep_connections.Goals as goal

pub returns-clause-opened : goal.returns-clause-opened
returns-clause-opened c = connected_owned

pub returns-clause-kept : goal.returns-clause-kept
returns-clause-kept c = by_connection_owned
