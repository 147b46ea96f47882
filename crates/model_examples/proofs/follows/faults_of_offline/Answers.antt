use Rattle.std.proofs.Common.{◌≡◌, true, refl, sym, ap, ◌∙◌, is_some, None, inl, inr, ⊎_elim}
use Rattle.std.specs.Prelude.{codes}
use Rattle.cell_world.specs.ByteOrder.{byte_cmp}
use Rattle.cell_world.specs.Plain.{PlainState, holds_nothing}
use Rattle.plain_model.specs.declared.commands.Command.TheVariants as command
use Rattle.plain_model.specs.JobSteps.{with_ended}
use Rattle.model_examples.specs.Values.{with_map, connected_state}
use Rattle.world_examples.specs.Examples.{map_m, map_n, entries_m}
use Rattle.model_examples.proofs.Lookups.{get_of, differ}
use Rattle.model_examples.proofs.Maps.{has_map, has_it}
use Rattle.model_examples.proofs.Faults.{keeps, is_live, owner_of_5, ends_it}
use Rattle.model_examples.proofs.follows.faults_of_offline.Goals as goal

-- no map n comes
no_n : (B : PlainState) → with_map (connected_state true) map_n ≡ B → has_map map_n B ≡ has_map map_n (connected_state true) → ⊥
no_n B e same = differ (has_map map_n) _ _ e (has_it (connected_state true) map_n) (same ∙ ap is_some (get_of byte_cmp entries_m tt map_n))

pub returns-clause-not_done : goal.returns-clause-not_done
returns-clause-not_done c = inr (inl refl)

pub returns-clause-done : goal.returns-clause-done
returns-clause-done c = inl (holds_nothing, refl)

pub returns-clause-connections_ended : goal.returns-clause-connections_ended
returns-clause-connections_ended c = inr (inr (sym (ap (with_ended (connected_state true)) (owner_of_5 true) ∙ ends_it)))

pub returns-clause-never_another_change : goal.returns-clause-never_another_change
returns-clause-never_another_change c = ⊎_elim
    (λ f. no_n _ f.1 (keeps (has_map map_n) f.0 (connected_state true) 1 (command.Offline map_m (codes "5") None) refl))
    (⊎_elim (λ e. no_n _ e refl) (λ e. no_n _ e refl))

pub returns-clause-others_end_none : goal.returns-clause-others_end_none
returns-clause-others_end_none c = ⊎_elim
    (λ e. differ is_live _ _ (sym e) refl refl)
    (λ f. differ is_live _ _ (sym f.1) (keeps is_live f.0 (connected_state true) 1 (command.Find map_m (codes "5")) refl) refl)
