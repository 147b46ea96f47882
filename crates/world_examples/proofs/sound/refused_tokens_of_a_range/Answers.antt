use Rattle.std.proofs.Common.{◌≡◌, ℕ, true≢false, refl, sym, ap, Some, None, Option, [], ◌∷◌, arith, is_some}
use Rattle.cell_world.specs.declared.cells.Status.TheVariants.{Online}
use Rattle.world_examples.specs.Examples.{int_key, site_a, free_piece, job_piece}
use Rattle.world_examples.proofs.ShortTables.{no_owner, key_of_job}
use Rattle.world_examples.proofs.sound.refused_tokens_of_a_range.Goals as goal
use Rattle.cell_world.specs.declared.cells.Token.{Token}

abbrev number_in : Option Token → ℕ
number_in None = 0
number_in (Some token) = token.0

pub returns-clause-nobody : goal.returns-clause-nobody
returns-clause-nobody c = λ h.
    let token = h.tokens (int_key 7) (key_of_job h.type h.range_map (int_key 7) refl) refl in
    no_owner (job_piece 0 5 site_a Online ∷ []) tt (int_key 7) (λ p. p.token ≡ Some (record { 0 = 1 })) ((λ holds e. true≢false (sym holds)), tt) token.0 token.1 token.2

pub returns-clause-no_token : goal.returns-clause-no_token
returns-clause-no_token c = λ h.
    let token = h.tokens (int_key 7) (key_of_job h.type h.range_map (int_key 7) refl) refl in
    no_owner (free_piece 0 10 site_a Online ∷ []) tt (int_key 7) (λ p. p.token ≡ Some (record { 0 = 1 })) ((λ holds e. true≢false (sym (ap is_some e))), tt) token.0 token.1 token.2

pub returns-clause-of_another_job : goal.returns-clause-of_another_job
returns-clause-of_another_job c = λ h.
    let token = h.tokens (int_key 7) (key_of_job h.type h.range_map (int_key 7) refl) refl in
    no_owner (job_piece 0 10 site_a Online ∷ []) tt (int_key 7) (λ p. p.token ≡ Some (record { 0 = 2 })) ((λ holds e. let number : ◌≡◌ {A = ℕ} 1 2 = ap number_in e in omega arith), tt) token.0 token.1 token.2
