use Rattle.std.proofs.Common.{◌≡◌, ℕ, arith, true, false, refl, ap, ◌∙◌, Some, None, ◌∷◌, []}
use Rattle.cell_world.specs.Keys.{end_below, same_end}
use Rattle.cell_world.specs.Jobs.{merge_due}
use Rattle.cell_world.specs.Orders.{pair_cmp}
use Rattle.cell_world.specs.declared.cells.KeyType.TheVariants as type
use Rattle.cell_world.specs.declared.cells.Status.TheVariants.{Online}
use Rattle.cell_world.specs.declared.operations.JobRow.{JobRow}
use Rattle.cell_world.specs.declared.operations.Phase.TheVariants.{Idle, Copying, Moved}
use Rattle.cell_world.specs.declared.spans.High.TheVariants.{At}
use Rattle.plain_model.specs.Refusing.{type_of_map}
use Rattle.plain_model.specs.Worked.{small_key}
use Rattle.model_examples.specs.Values.{between_state, merging_state}
use Rattle.world_examples.specs.Examples.{site_a, site_b, job_at, job_piece, keyed_pieces}
use Rattle.model_examples.proofs.Lookups.{entries_of, differ}
use Rattle.model_examples.proofs.JobStates.{m_stands, job_stands, asked_for, n_is_more}
use Rattle.model_examples.proofs.follows.cursors.Goals as goal

pub returns-clause-after_the_online : goal.returns-clause-after_the_online
returns-clause-after_the_online c = record {
  number = 1;
  asked = refl;
  same = refl;
  just_before = (refl, refl, refl, rw (job_stands 0 (Moved (At (small_key 5)))) refl);
  one_online = rw (job_stands 0 (Moved (At (small_key 5)))) refl;
  job = job_at 5 Idle;
  stands = job_stands 5 Idle;
  idle = refl;
  cursor = refl;
  below_high = refl;
  no_merge = rw (entries_of pair_cmp (keyed_pieces (job_piece 0 5 site_b Online ∷ job_piece 5 10 site_a Online ∷ [])) tt) refl;
  typed = rw m_stands refl;
}

pub returns-clause-never_in_another_type : goal.returns-clause-never_in_another_type
returns-clause-never_in_another_type c f =
    let typed : type_of_map between_state (job_at 5 Idle).map ≡ Some type.Long = ap (λ (job : JobRow). type_of_map between_state job.map) (asked_for 5 Idle f.number f.job f.asked f.stands) ∙ f.typed in
    let e : Some type.Int ≡ Some type.Long = rw m_stands at typed in cc

pub returns-clause-never_another_key : goal.returns-clause-never_another_key
returns-clause-never_another_key c f = differ (same_end (At (small_key 5))) _ _ (ap (λ (job : JobRow). job.cursor) (asked_for 5 Idle f.number f.job f.asked f.stands) ∙ f.cursor) refl refl

pub returns-clause-never_after_two_onlines : goal.returns-clause-never_after_two_onlines
returns-clause-never_after_two_onlines c f = let e : ◌≡◌ {A = ℕ} 2 1 = rw (job_stands 0 (Moved (At (small_key 5)))) at f.one_online in absurd (omega arith)

pub returns-clause-never_after_another_step : goal.returns-clause-never_after_another_step
returns-clause-never_after_another_step c f = let e : false ≡ true = rw (job_stands 0 (Copying (At (small_key 5)))) at f.just_before.3 in cc

pub returns-clause-never_where_a_merge_is_due : goal.returns-clause-never_where_a_merge_is_due
returns-clause-never_where_a_merge_is_due c f =
    let none : merge_due merging_state.mappings (job_at 5 Idle) ≡ None = ap (merge_due merging_state.mappings) (asked_for 5 Idle f.number f.job f.asked f.stands) ∙ f.no_merge in
    let e = rw (entries_of pair_cmp (keyed_pieces (job_piece 0 3 site_b Online ∷ job_piece 3 5 site_b Online ∷ job_piece 5 10 site_a Online ∷ [])) tt) at none in cc

pub returns-clause-never_at_the_end : goal.returns-clause-never_at_the_end
returns-clause-never_at_the_end c f = let e : false ≡ true = ap (λ (job : JobRow). end_below job.cursor job.high) (asked_for 10 Idle f.number f.job f.asked f.stands) ∙ f.below_high in cc

pub returns-clause-never_in_a_batch : goal.returns-clause-never_in_a_batch
returns-clause-never_in_a_batch c f = let e : Copying (At (small_key 5)) ≡ Idle = ap (λ (job : JobRow). job.phase) (asked_for 0 (Copying (At (small_key 5))) f.number f.job f.asked f.stands) ∙ f.idle in cc

pub returns-clause-never_with_a_change : goal.returns-clause-never_with_a_change
returns-clause-never_with_a_change c f = n_is_more (job_piece 0 5 site_b Online ∷ job_piece 5 10 site_a Online ∷ []) (job_at 5 Idle ∷ []) f.same
