use Rattle.std.proofs.Common.{◌≡◌, Bool, true, false, refl, sym, ap, ◌∙◌, is_some, inl, inr, ⊎_elim}
use Rattle.std.proofs.lemmas.Cmp.{nat_cmp_total}
use Rattle.std.specs.FinMap as fin
use Rattle.cell_world.specs.ByteOrder.{byte_cmp}
use Rattle.cell_world.specs.Keys.{same_end}
use Rattle.cell_world.specs.Plain.{PlainState}
use Rattle.cell_world.specs.declared.operations.JobRow.{JobRow}
use Rattle.cell_world.specs.declared.operations.Phase.TheVariants.{Idle, Copying, Moved}
use Rattle.cell_world.specs.declared.spans.High.TheVariants.{At}
use Rattle.plain_model.specs.Refusing.{if_there}
use Rattle.plain_model.specs.Worked.{small_key}
use Rattle.model_examples.specs.Values.{one_connection, with_map, copying_state, after_move, between_state}
use Rattle.world_examples.specs.Examples.{site_a, job_piece, map_n, entries_m, job_at}
use Rattle.model_examples.proofs.Lookups.{get_of, differ}
use Rattle.model_examples.proofs.Maps.{has_map, has_it}
use Rattle.cell_world.specs.declared.cells.Status.TheVariants.{Online}
use Rattle.model_examples.proofs.Faults.{ends_in_the_job}
use Rattle.model_examples.proofs.JobStates.{takes_offline, job_stands, moves, only_moves}
use Rattle.model_examples.proofs.follows.faults_in_a_job.Goals as goal

-- the job's cursor is at 5
abbrev is_at_5 : PlainState → Bool
is_at_5 s = if_there (λ (job : JobRow). same_end job.cursor (At (small_key 5))) (fin.get s.jobs 1)

ahead : is_at_5 between_state ≡ true
ahead = ap (if_there (λ (job : JobRow). same_end job.cursor (At (small_key 5)))) (job_stands 5 Idle)

behind : is_at_5 copying_state ≡ false
behind = ap (if_there (λ (job : JobRow). same_end job.cursor (At (small_key 5)))) (job_stands 0 (Copying (At (small_key 5))))

moved_behind : is_at_5 after_move ≡ false
moved_behind = ap (if_there (λ (job : JobRow). same_end job.cursor (At (small_key 5)))) (fin.get-insert nat_cmp_total copying_state.jobs 1 (job_at 0 (Moved (At (small_key 5)))) 1)

no_n : (B : PlainState) → with_map copying_state map_n ≡ B → has_map map_n B ≡ has_map map_n copying_state → ⊥
no_n B e same = differ (has_map map_n) _ _ e (has_it copying_state map_n) (same ∙ ap is_some (get_of byte_cmp entries_m tt map_n))

pub returns-clause-not_done : goal.returns-clause-not_done
returns-clause-not_done c = rw (job_stands 0 (Copying (At (small_key 5)))) (inl refl)

pub returns-clause-done : goal.returns-clause-done
returns-clause-done c = rw (job_stands 0 (Copying (At (small_key 5)))) (inr (inl moves))

pub returns-clause-never_two_steps : goal.returns-clause-never_two_steps
returns-clause-never_two_steps c = rw (job_stands 0 (Copying (At (small_key 5)))) (⊎_elim
    (λ e. differ is_at_5 _ _ e ahead behind)
    (⊎_elim
    (λ step. differ is_at_5 _ _ (sym (only_moves between_state _ (job_stands 0 (Copying (At (small_key 5)))) step)) ahead moved_behind)
    (λ f. differ is_at_5 _ _ f.2 ahead behind)))

pub returns-clause-never_another_change : goal.returns-clause-never_another_change
returns-clause-never_another_change c = rw (job_stands 0 (Copying (At (small_key 5)))) (⊎_elim
    (λ e. no_n _ e refl)
    (⊎_elim
    (λ step. no_n _ (sym (only_moves (with_map copying_state map_n) _ (job_stands 0 (Copying (At (small_key 5)))) step)) refl)
    (λ f. no_n _ f.2 refl)))

pub returns-clause-offline_ends_connections : goal.returns-clause-offline_ends_connections
returns-clause-offline_ends_connections c = rw (job_stands 0 Idle) (inr (inr (job_piece 0 10 site_a Online, takes_offline (one_connection true), sym ends_in_the_job)))
