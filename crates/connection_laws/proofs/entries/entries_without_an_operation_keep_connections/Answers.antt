use Rattle.connection_laws.proofs.OperationEntries.{not_done_owned, still_owned}
use Rattle.connection_laws.proofs.entries.entries_without_an_operation_keep_connections.Goals as goal

pub returns-clause-not_done : goal.returns-clause-not_done
returns-clause-not_done c = not_done_owned

pub returns-clause-still : goal.returns-clause-still
returns-clause-still c = still_owned
