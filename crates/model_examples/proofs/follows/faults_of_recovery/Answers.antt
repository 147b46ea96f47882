use Rattle.std.proofs.Common.{◌≡◌, true, false, refl, sym, ◌∙◌, inl, inr, ⊎_elim}
use Rattle.cell_world.specs.Plain.{PlainState}
use Rattle.cell_world.specs.declared.cells.Away.TheVariants.{Detached, Suspect}
use Rattle.plain_model.specs.declared.commands.Command.TheVariants as command
use Rattle.plain_model.specs.Near.{Near}
use Rattle.plain_model.proofs.NearLaws.{near_itself}
use Rattle.model_examples.specs.Values.{empty_state, away_state, with_map, one_row}
use Rattle.world_examples.specs.Examples.{map_n, site_a}
use Rattle.model_examples.proofs.Maps.{has_map, has_it, has_none}
use Rattle.model_examples.proofs.NearStates.{near_maps, detached_holds}
use Rattle.model_examples.proofs.Faults.{keeps}
use Rattle.model_examples.proofs.follows.faults_of_recovery.Goals as goal

-- a map that wasn't there isn't there in what is near
no_map_comes : (s B : PlainState) → has_map map_n s ≡ false → Near (with_map s map_n) B → has_map map_n B ≡ has_map map_n s → ⊥
no_map_comes s B none near same = let e : true ≡ false = sym (has_it s map_n) ∙ near_maps map_n (with_map s map_n) B near ∙ same ∙ none in cc

pub returns-clause-attach_not_done : goal.returns-clause-attach_not_done
returns-clause-attach_not_done c = inl (near_itself (away_state Detached))

pub returns-clause-attach_holds_other : goal.returns-clause-attach_holds_other
returns-clause-attach_holds_other c = inl (detached_holds one_row)

pub returns-clause-attach_never_a_map : goal.returns-clause-attach_never_a_map
returns-clause-attach_never_a_map c = ⊎_elim
    (λ near. no_map_comes (away_state Detached) (away_state Detached) (has_none map_n) near refl)
    (λ f. no_map_comes (away_state Detached) _ (has_none map_n) f.1 (keeps (has_map map_n) f.0 (away_state Detached) 1 (command.Attach site_a) refl))

pub returns-clause-clear_not_done : goal.returns-clause-clear_not_done
returns-clause-clear_not_done c = inl (near_itself (away_state Suspect))

pub returns-clause-clear_never_a_map : goal.returns-clause-clear_never_a_map
returns-clause-clear_never_a_map c = ⊎_elim
    (λ near. no_map_comes (away_state Suspect) (away_state Suspect) (has_none map_n) near refl)
    (λ f. no_map_comes (away_state Suspect) _ (has_none map_n) f.1 (keeps (has_map map_n) f.0 (away_state Suspect) 1 (command.Clear site_a) refl))

pub returns-clause-detach_not_done : goal.returns-clause-detach_not_done
returns-clause-detach_not_done c = inl (near_itself empty_state)

pub returns-clause-detach_done : goal.returns-clause-detach_done
returns-clause-detach_done c = inr (one_row, near_itself _)

pub returns-clause-detach_never_a_map : goal.returns-clause-detach_never_a_map
returns-clause-detach_never_a_map c = ⊎_elim
    (λ near. no_map_comes empty_state empty_state (has_none map_n) near refl)
    (λ f. no_map_comes empty_state _ (has_none map_n) f.1 (keeps (has_map map_n) f.0 empty_state 1 (command.Detach site_a) refl))
