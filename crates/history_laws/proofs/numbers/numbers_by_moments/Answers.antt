use Rattle.history_laws.proofs.NumbersByMoments.{tried_at_moment, named_by_entry}
use Rattle.history_laws.proofs.numbers.numbers_by_moments.Goals as goal

pub returns-clause-tried : goal.returns-clause-tried
returns-clause-tried c = tried_at_moment

pub returns-clause-named : goal.returns-clause-named
returns-clause-named c = named_by_entry
