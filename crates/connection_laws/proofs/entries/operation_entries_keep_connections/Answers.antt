use Rattle.session_laws.specs.Needs.{Needs}
use Rattle.connection_laws.proofs.OperationEntries.{operation_entry_owned, operation_entry_connects, standing_entry_owned, planned_entry_owned}
use Rattle.connection_laws.proofs.entries.operation_entries_keep_connections.Goals as goal

pub returns-clause-own : goal.returns-clause-own
returns-clause-own c = operation_entry_owned

pub returns-clause-connected : goal.returns-clause-connected
returns-clause-connected c = operation_entry_connects

pub returns-clause-standing : goal.returns-clause-standing
returns-clause-standing c = standing_entry_owned Needs

pub returns-clause-planned : goal.returns-clause-planned
returns-clause-planned c = planned_entry_owned
