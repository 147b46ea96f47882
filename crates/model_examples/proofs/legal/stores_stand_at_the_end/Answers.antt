use Rattle.std.proofs.Common.{arith, [], ◌∷◌}
use Rattle.plain_model.proofs.LegalAtMoments.{legal_by_moments}
use Rattle.model_examples.specs.Values.{nothing_going}
use Rattle.model_examples.specs.Runs.{suspect_trail, cut_commit, clearing}
use Rattle.model_examples.proofs.SuspectRun.{cut_near, cut_unfolds, cleared_run, not_exact}
use Rattle.model_examples.proofs.legal.stores_stand_at_the_end.Goals as goal

pub returns-clause-with_its_entry : goal.returns-clause-with_its_entry
returns-clause-with_its_entry c = legal_by_moments (suspect_trail (cut_commit ∷ [])) 0 nothing_going (clearing 1 ∷ []) (omega arith) cleared_run

pub returns-clause-with_its_entry_in_order : goal.returns-clause-with_its_entry_in_order
returns-clause-with_its_entry_in_order c = cleared_run

pub returns-clause-near_without_an_entry : goal.returns-clause-near_without_an_entry
returns-clause-near_without_an_entry c = (cut_unfolds, cut_near)

pub returns-clause-never_without_an_entry : goal.returns-clause-never_without_an_entry
returns-clause-never_without_an_entry c legal = not_exact _ _ legal.stands

pub returns-clause-never_without_an_entry_in_order : goal.returns-clause-never_without_an_entry_in_order
returns-clause-never_without_an_entry_in_order c legal = not_exact _ _ (legal_by_moments (suspect_trail (cut_commit ∷ [])) 0 nothing_going [] (omega arith) legal).stands

pub returns-clause-never_after_the_last : goal.returns-clause-never_after_the_last
returns-clause-never_after_the_last c legal = not_exact _ _ legal.stands

pub returns-clause-never_after_the_last_in_order : goal.returns-clause-never_after_the_last_in_order
returns-clause-never_after_the_last_in_order c legal = not_exact _ _ (legal_by_moments (suspect_trail (cut_commit ∷ [])) 0 nothing_going (clearing 0 ∷ []) (omega arith) legal).stands
