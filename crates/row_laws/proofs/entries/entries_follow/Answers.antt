use Rattle.row_laws.proofs.EntryLaws.{refused_follows, done_follows, unmade_follows, made_follows, memory_follows}
use Rattle.row_laws.proofs.entries.entries_follow.Goals as goal

pub returns-clause-refused : goal.returns-clause-refused
returns-clause-refused c = refused_follows

pub returns-clause-done : goal.returns-clause-done
returns-clause-done c = done_follows

pub returns-clause-unmade : goal.returns-clause-unmade
returns-clause-unmade c = unmade_follows

pub returns-clause-made : goal.returns-clause-made
returns-clause-made c = made_follows

pub returns-clause-memory : goal.returns-clause-memory
returns-clause-memory c = memory_follows
