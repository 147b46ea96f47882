use Rattle.std.proofs.Common.{◌≡◌, ℕ, arith, refl, sym, ap, ◌∙◌, inl, inr, ⊎_elim, [], ◌∷◌}
use Rattle.cell_world.specs.declared.cells.Status.TheVariants.{Online}
use Rattle.cell_world.specs.declared.operations.Piece.{Piece}
use Rattle.plain_model.specs.Steps.{Exchange}
use Rattle.plain_model.specs.Worked.{small_key, small_range, mapping_over}
use Rattle.std.specs.List.{list_any}
use Rattle.cell_world.specs.Keys.{contains}
use Rattle.model_examples.proofs.Lookups.{differ}
use Rattle.model_examples.specs.Values.{two_sites}
use Rattle.model_examples.proofs.Operations.{exchanges, adds}
use Rattle.model_examples.proofs.Planned.{plans_the_move}
use Rattle.model_examples.proofs.legal.entries_name_their_own.Goals as goal

not_none : ◌≡◌ {A = ℕ} 1 0 → ⊥
not_none e = omega arith

another : mapping_over (small_range 5 15) Online ∷ [] ≡ mapping_over (small_range 0 10) Online ∷ [] → ⊥
another e = differ (list_any (λ (p : Piece). contains p.span (small_key 3))) _ _ (sym e) refl refl

pub returns-clause-its_own : goal.returns-clause-its_own
returns-clause-its_own c = inr (inl (inl (refl, adds two_sites 1)))

pub returns-clause-its_own_not_made : goal.returns-clause-its_own_not_made
returns-clause-its_own_not_made c = inr (inl (inl (refl, adds two_sites 1)))

pub returns-clause-after_another_session : goal.returns-clause-after_another_session
returns-clause-after_another_session c = inr (inl (inl (refl, adds two_sites 1)))

pub returns-clause-of_a_job : goal.returns-clause-of_a_job
returns-clause-of_a_job c = inr (inl (inl (refl, plans_the_move)))

pub returns-clause-never_anothers : goal.returns-clause-never_anothers
returns-clause-never_anothers c f = ⊎_elim (λ zero. not_none zero) (λ was. ⊎_elim (λ some. ⊎_elim (λ h. another (h.1.1 ∙ ap (λ (e : Exchange). e.1) exchanges)) (λ none. none) some) (λ none. none) was) f
