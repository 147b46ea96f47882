use Rattle.connection_laws.proofs.EntryLaws.{connection_entry_owned}
use Rattle.connection_laws.proofs.entries.connection_entries_keep_connections.Goals as goal

pub returns : goal.returns
returns c = connection_entry_owned
