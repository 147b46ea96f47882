use Rattle.history_laws.proofs.NumberLaws.{counter_from_start, counter_later}
use Rattle.history_laws.proofs.numbers.counter_never_falls.Goals as goal

pub returns-clause-from_start : goal.returns-clause-from_start
returns-clause-from_start c = counter_from_start

pub returns-clause-later : goal.returns-clause-later
returns-clause-later c = counter_later
