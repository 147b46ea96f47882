use Rattle.std.proofs.Common.{◌≡◌, refl, sym, ap, ◌∙◌, Some, None, is_some, ◌∷◌, [], inl, inr, ⊎_elim}
use Rattle.std.proofs.lemmas.Cmp.{nat_cmp_total}
use Rattle.std.specs.FinMap as fin
use Rattle.std.specs.Ordering.{nat_cmp}
use Rattle.cell_world.specs.ByteOrder.{byte_cmp}
use Rattle.cell_world.specs.Jobs.{Replace, Finish, job_step}
use Rattle.cell_world.specs.Meaning.{meaning}
use Rattle.cell_world.specs.Orders.{pair_cmp}
use Rattle.cell_world.specs.Stores.{Mappings}
use Rattle.cell_world.specs.declared.cells.Status.TheVariants.{Online, Offline}
use Rattle.cell_world.specs.declared.operations.JobRow.{JobRow}
use Rattle.cell_world.specs.declared.operations.Op.{Op}
use Rattle.cell_world.specs.declared.operations.Extra.TheVariants as extra
use Rattle.cell_world.specs.declared.operations.Phase.TheVariants.{Idle, Copying}
use Rattle.cell_world.specs.declared.spans.High.TheVariants.{At}
use Rattle.cell_world.proofs.OrderLaws.{pairs_total}
use Rattle.cell_world.proofs.StoreLaws.{get-insert_same, get-remove_same}
use Rattle.plain_model.specs.JobSteps.{stepped}
use Rattle.plain_model.specs.Legal.{IsPlannedIn}
use Rattle.plain_model.specs.Refusing.{if_there}
use Rattle.plain_model.specs.Worked.{small_key}
use Rattle.model_examples.specs.Values.{fresh_state, after_split, fresh_image, move_op, split_op}
use Rattle.world_examples.specs.Examples.{map_m, site_a, site_b, keyed_pieces, job_at, job_piece}
use Rattle.model_examples.proofs.Lookups.{get_of, differ}
use Rattle.model_examples.proofs.JobStates.{job_stands, is_job, finishes}
use Rattle.model_examples.proofs.Operations.{in_log}
use Rattle.model_examples.proofs.Planned.{has_job, fresh_step, plans_the_move, move_changes_jobs, move_is_no_finish}
use Rattle.model_examples.proofs.legal.planned_steps.Goals as goal

abbrev copying : JobRow
copying = job_at 0 (Copying (At (small_key 5)))

pub returns-clause-the_finish : goal.returns-clause-the_finish
returns-clause-the_finish c = inr (inl (record { step = ap Some finishes; accepted = rw (job_stands 10 Idle, fin.get-empty byte_cmp site_a, fin.get-empty byte_cmp site_b) refl }))

pub returns-clause-made : goal.returns-clause-made
returns-clause-made c = inr (inr (move_op, record { logged = in_log move_op; planned = inr (inl (inl (refl, plans_the_move))); step = refl }))

pub returns-clause-never_made_by_nothing : goal.returns-clause-never_made_by_nothing
returns-clause-never_made_by_nothing c = ⊎_elim (λ same. move_changes_jobs same.1) (⊎_elim (λ f. move_is_no_finish _ _ refl f.step) (λ made. made.1.planned))

pub returns-clause-never_not_logged : goal.returns-clause-never_not_logged
returns-clause-never_not_logged c = ⊎_elim (λ same. move_changes_jobs same.1) (⊎_elim (λ f. move_is_no_finish _ _ refl f.step) (λ made. let e : None ≡ Some made.0 = sym (fin.get-empty nat_cmp made.0.number) ∙ made.1.logged in cc))

-- ---- a split at another key than the batch end

splits : after_split.mappings ≡ fresh_state.mappings → ⊥
splits e = differ (λ (mappings : Mappings). is_some (fin.get mappings (map_m, small_key 3))) _ _ e
    (ap is_some (get-insert_same pairs_total _ (map_m, small_key 3) (job_piece 3 10 site_a Online)))
    (ap is_some (get_of pair_cmp (keyed_pieces (job_piece 0 10 site_a Online ∷ [])) tt (map_m, small_key 3)))

keeps_the_job : stepped fresh_state (job_at 0 Idle) Finish ≡ Some after_split → ⊥
keeps_the_job e = differ (if_there has_job) _ _ (sym e) (ap is_some (job_stands 0 Idle)) (ap is_some (get-remove_same nat_cmp_total fresh_state.jobs 1))

not_planned : (op : Op) → split_op ≡ op → IsPlannedIn fresh_image 1 split_op → ⊥
not_planned op is planned =
    let e : Replace (job_piece 0 10 site_a Online ∷ []) (job_piece 0 10 site_a Offline ∷ []) (extra.JobPut (job_at 0 (Copying (At (small_key 10)))))
    ≡ Replace (job_piece 0 10 site_a Online ∷ []) (job_piece 0 3 site_a Online ∷ job_piece 3 10 site_a Online ∷ []) extra.None
    = sym fresh_step ∙ ap (job_step (meaning fresh_image)) (is_job 0 Idle planned.job planned.stands) ∙ planned.row in cc

pub returns-clause-never_to_another_end : goal.returns-clause-never_to_another_end
returns-clause-never_to_another_end c = ⊎_elim (λ same. splits same.0) (⊎_elim (λ f. keeps_the_job f.step) (λ made. ⊎_elim (λ none. absurd none) (⊎_elim (⊎_elim (λ p. not_planned made.0 p.0 p.1) (λ none. absurd none)) (λ none. absurd none)) made.1.planned))

pub returns-clause-never_tried_only : goal.returns-clause-never_tried_only
returns-clause-never_tried_only c = ⊎_elim (λ same. move_changes_jobs same.1) (⊎_elim (λ f. move_is_no_finish _ _ refl f.step) (λ made. ⊎_elim (λ none. absurd none) (λ none. absurd none) made.1.planned))
