use Rattle.std.proofs.Common.{ℕ, ◌≡◌, ◌<◌, arith, refl}
use Rattle.model_examples.proofs.headline.done_or_refused.Goals as goal

pub returns-clause-done : goal.returns-clause-done
returns-clause-done c = (refl, refl, refl)

pub returns-clause-never_done_with_a_refusal : goal.returns-clause-never_done_with_a_refusal
returns-clause-never_done_with_a_refusal c h = let e : ◌≡◌ {A = ℕ} 1 0 = h.0 in omega arith

pub returns-clause-never_done_with_a_pending : goal.returns-clause-never_done_with_a_pending
returns-clause-never_done_with_a_pending c h = let e : ◌≡◌ {A = ℕ} 1 0 = h.0 in omega arith

pub returns-clause-never_done_with_a_fault : goal.returns-clause-never_done_with_a_fault
returns-clause-never_done_with_a_fault c h = let e : ◌≡◌ {A = ℕ} 1 0 = h.1 in omega arith

pub returns-clause-never_done_without_memory : goal.returns-clause-never_done_without_memory
returns-clause-never_done_without_memory c h = let e : ◌≡◌ {A = ℕ} 1 0 = h.2 in omega arith

pub returns-clause-refused : goal.returns-clause-refused
returns-clause-refused c = let some : 0 < 1 = omega arith in (some, refl, refl)

pub returns-clause-refused_by_pending : goal.returns-clause-refused_by_pending
returns-clause-refused_by_pending c = let some : 0 < 1 = omega arith in (some, refl, refl)

pub returns-clause-never_refused_where_all_is_done : goal.returns-clause-never_refused_where_all_is_done
returns-clause-never_refused_where_all_is_done c h = let e : 0 < 0 = h.0 in omega arith

pub returns-clause-never_refused_with_a_fault : goal.returns-clause-never_refused_with_a_fault
returns-clause-never_refused_with_a_fault c h = let e : ◌≡◌ {A = ℕ} 1 0 = h.1 in omega arith
