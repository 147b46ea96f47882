use Rattle.std.proofs.Common.{ℕ, ◌≡◌, ◌≤◌, ◌<◌, arith, true≢false, refl, sym, [], ◌∷◌, inl, inr, ⊎_elim}
use Rattle.model_examples.specs.Values.{map_entry}
use Rattle.model_examples.proofs.FaultCounts.{no_rise, one_rise}
use Rattle.model_examples.proofs.headline.caused_by_faults.Goals as goal

pub returns-clause-writing : goal.returns-clause-writing
returns-clause-writing c = let rose : 1 ≤ 1 = omega arith in (rose, refl)

pub returns-clause-never_writing_without_a_rise : goal.returns-clause-never_writing_without_a_rise
returns-clause-never_writing_without_a_rise c h = let e : 1 ≤ 0 = h.0 in omega arith

pub returns-clause-never_writing_of_no_line : goal.returns-clause-never_writing_of_no_line
returns-clause-never_writing_of_no_line c h = true≢false (sym h.1)

pub returns-clause-never_writing_of_nothing : goal.returns-clause-never_writing_of_nothing
returns-clause-never_writing_of_nothing c h = h.1

pub returns-clause-a_store : goal.returns-clause-a_store
returns-clause-a_store c = let some : 0 < 1 = omega arith in (one_rise, inl some, refl)

pub returns-clause-the_opening : goal.returns-clause-the_opening
returns-clause-the_opening c = (one_rise, inr refl, refl)

pub returns-clause-never_a_store_without_a_rise : goal.returns-clause-never_a_store_without_a_rise
returns-clause-never_a_store_without_a_rise c h = no_rise h.0

pub returns-clause-never_a_store_without_a_fault : goal.returns-clause-never_a_store_without_a_fault
returns-clause-never_a_store_without_a_fault c h = ⊎_elim (λ some. let e : 0 < 0 = some in omega arith) (λ none. let e : map_entry ∷ [] ≡ [] = none in cc) h.1

pub returns-clause-never_a_store_without_memory : goal.returns-clause-never_a_store_without_memory
returns-clause-never_a_store_without_memory c h = let e : ◌≡◌ {A = ℕ} 1 0 = h.2 in omega arith

pub returns-clause-memory : goal.returns-clause-memory
returns-clause-memory c = tt
