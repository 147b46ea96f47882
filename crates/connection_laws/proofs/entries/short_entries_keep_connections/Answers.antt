use Rattle.connection_laws.proofs.EntryLaws.{short_entry_owned, short_entry_connects}
use Rattle.connection_laws.proofs.entries.short_entries_keep_connections.Goals as goal

pub returns-clause-kept : goal.returns-clause-kept
returns-clause-kept c = short_entry_owned

pub returns-clause-connects : goal.returns-clause-connects
returns-clause-connects c = short_entry_connects
