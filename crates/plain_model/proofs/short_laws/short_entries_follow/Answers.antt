use Rattle.plain_model.proofs.ShortCommands.{short_done, short_refused, short_unmade, short_made, short_memory}
use Rattle.plain_model.proofs.short_laws.short_entries_follow.Goals as goal

pub returns-clause-done : goal.returns-clause-done
returns-clause-done c = short_done

pub returns-clause-refused : goal.returns-clause-refused
returns-clause-refused c = short_refused

pub returns-clause-unmade : goal.returns-clause-unmade
returns-clause-unmade c = short_unmade

pub returns-clause-made : goal.returns-clause-made
returns-clause-made c = short_made

pub returns-clause-memory : goal.returns-clause-memory
returns-clause-memory c = short_memory
