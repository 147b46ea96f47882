use Rattle.history_laws.proofs.CacheLaws.{before_now, was_learnt}
use Rattle.history_laws.proofs.learning.cached_spans_were_learnt.Goals as goal

pub returns-clause-learnt : goal.returns-clause-learnt
returns-clause-learnt c = was_learnt

pub returns-clause-before_now : goal.returns-clause-before_now
returns-clause-before_now c = before_now
