use Rattle.connection_laws.proofs.OperationEntries.{first_old, ends_are_left}
use Rattle.connection_laws.proofs.entries.offline_takes_the_first_old.Goals as goal

pub returns-clause-first : goal.returns-clause-first
returns-clause-first c = first_old

pub returns-clause-left : goal.returns-clause-left
returns-clause-left c = ends_are_left
