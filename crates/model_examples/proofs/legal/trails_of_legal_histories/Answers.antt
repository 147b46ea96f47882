use Rattle.std.proofs.Common.{◌≡◌, ℕ, arith, refl}
use Rattle.model_examples.proofs.legal.trails_of_legal_histories.Goals as goal

not_one : ◌≡◌ {A = ℕ} 2 1 → ⊥
not_one e = omega arith

pub returns-clause-never_a_counter_without_a_log : goal.returns-clause-never_a_counter_without_a_log
returns-clause-never_a_counter_without_a_log c legal = not_one (legal.happens 0 _ (omega arith) refl)

pub returns-clause-never_the_global_store_again : goal.returns-clause-never_the_global_store_again
returns-clause-never_the_global_store_again c legal = legal.happens 0 _ (omega arith) refl
