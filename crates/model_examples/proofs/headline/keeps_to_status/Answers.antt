use Rattle.std.proofs.Common.{◌≡◌, ◌≤◌, arith, true≢false, refl, sym, inr}
use Rattle.cell_world.specs.Outside.{TellsNothing, TellsContents}
use Rattle.model_examples.specs.Values.{two_sites}
use Rattle.model_examples.proofs.FaultCounts.{one_rise, not_two}
use Rattle.model_examples.proofs.headline.keeps_to_status.Goals as goal

pub returns-clause-done : goal.returns-clause-done
returns-clause-done c = let none : 0 ≤ 0 = omega arith in record { few_faults = inr none; ends_with_memory = (refl, tt); nothing = λ did. absurd (true≢false (sym did)); unchanged = λ did. refl }

pub returns-clause-one_fault : goal.returns-clause-one_fault
returns-clause-one_fault c = record { few_faults = one_rise; ends_with_memory = tt; nothing = λ did. absurd (true≢false (sym did)); unchanged = λ did. refl }

pub returns-clause-more_than_faults : goal.returns-clause-more_than_faults
returns-clause-more_than_faults c = let none : 0 ≤ 5 = omega arith in record { few_faults = inr none; ends_with_memory = tt; nothing = λ did. absurd (true≢false (sym did)); unchanged = λ did. refl }

pub returns-clause-nothing_done : goal.returns-clause-nothing_done
returns-clause-nothing_done c = let none : 0 ≤ 0 = omega arith in record { few_faults = inr none; ends_with_memory = tt; nothing = λ did. refl; unchanged = λ did. refl }

pub returns-clause-never_more_faults_than_the_rise : goal.returns-clause-never_more_faults_than_the_rise
returns-clause-never_more_faults_than_the_rise c h = not_two h.few_faults

pub returns-clause-never_after_memory : goal.returns-clause-never_after_memory
returns-clause-never_after_memory c h = true≢false h.ends_with_memory.0

pub returns-clause-never_an_entry_by_wrong_words : goal.returns-clause-never_an_entry_by_wrong_words
returns-clause-never_an_entry_by_wrong_words c h = let e = h.nothing refl in cc

pub returns-clause-never_a_change_by_a_read_fault : goal.returns-clause-never_a_change_by_a_read_fault
returns-clause-never_a_change_by_a_read_fault c h = let e : TellsContents two_sites ≡ TellsNothing = h.unchanged refl in cc
