use Rattle.std.proofs.Common.{inl, inr, ⊎_elim}
use Rattle.history_laws.proofs.NumberLaws.{sound_start, of_run, number_of_run, open_was_tried, named_was_tried}
use Rattle.history_laws.proofs.numbers.numbers_are_of_the_run.Goals as goal

pub returns-clause-sound_start : goal.returns-clause-sound_start
returns-clause-sound_start c = sound_start

pub returns-clause-tried : goal.returns-clause-tried
returns-clause-tried c = of_run

pub returns-clause-is_open : goal.returns-clause-is_open
returns-clause-is_open c = λ since start past cs u sound number is. number_of_run since start past cs u sound number (open_was_tried number past is)

pub returns-clause-live : goal.returns-clause-live
returns-clause-live c = λ since start past cs u sound op live. number_of_run since start past cs u sound op.number (open_was_tried op.number past live.unnamed)

pub returns-clause-named : goal.returns-clause-named
returns-clause-named c = λ since start past cs u sound e one. ⊎_elim (λ none. inl none) (λ t. inr (number_of_run since start past cs u sound e.operation t)) (named_was_tried since start past cs u e one)
