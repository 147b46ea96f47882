use Rattle.std.proofs.Common.{◌≡◌, ℕ, arith, true≢false, refl, sym, ap, subst, inl, inr, ⊎_elim}
use Rattle.std.specs.Prelude.{codes}
use Rattle.cell_world.specs.Lists.{IsOneOf}
use Rattle.plain_model.specs.Caches.{Cache, Learnt}
use Rattle.plain_model.specs.declared.commands.Command.TheVariants as command
use Rattle.model_examples.specs.Values.{learnt}
use Rattle.world_examples.specs.Examples.{map_m}
use Rattle.model_examples.proofs.Learning.{opens, only_known, drops_lost, drops_replaced}
use Rattle.model_examples.proofs.caches.drops.Goals as goal

-- the known span isn't of a later place
not_later : (j : Learnt) → learnt 0 10 0 ≡ j → j.place ≡ 1 → ⊥
not_later j is later = let e : ◌≡◌ {A = ℕ} 0 j.place = ap (λ (k : Learnt). k.place) is in omega (arith, e, later)

pub returns-clause-with_its_map : goal.returns-clause-with_its_map
returns-clause-with_its_map c = inr (inr (refl, refl))

pub returns-clause-with_its_owner : goal.returns-clause-with_its_owner
returns-clause-with_its_owner c = drops_lost

pub returns-clause-for_another : goal.returns-clause-for_another
returns-clause-for_another c = drops_replaced

pub returns-clause-for_another_where_it_was_forgotten : goal.returns-clause-for_another_where_it_was_forgotten
returns-clause-for_another_where_it_was_forgotten c = inr (inl (learnt 0 10 0, subst (λ (cache : Cache). IsOneOf cache (learnt 0 10 0)) (sym (opens 0)) (inl refl), refl, refl, refl))

pub returns-clause-never_by_a_refused_unmap : goal.returns-clause-never_by_a_refused_unmap
returns-clause-never_by_a_refused_unmap c = ⊎_elim (λ gone. gone.1 gone.0) (⊎_elim (λ j. not_later j.0 (only_known j.0 j.1) j.2) (λ unmap. true≢false unmap.1))

pub returns-clause-never_by_another_command : goal.returns-clause-never_by_another_command
returns-clause-never_by_another_command c = ⊎_elim (λ gone. gone.1 gone.0) (⊎_elim (λ j. not_later j.0 (only_known j.0 j.1) j.2) (λ unmap. let e : command.Find map_m (codes "5") ≡ command.Unmap map_m = unmap.0 in cc))
