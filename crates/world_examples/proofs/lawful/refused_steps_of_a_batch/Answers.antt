use Rattle.std.proofs.Common.{◌≡◌, refl, sym, ap, ◌∙◌, true, true≢false, [], ◌∷◌, not, Some, subst}
use Rattle.std.specs.Ordering.{nat_cmp}
use Rattle.cell_world.specs.ByteOrder.{byte_cmp}
use Rattle.cell_world.specs.Keys.{end_below}
use Rattle.cell_world.specs.Jobs.{IsBatchEnd, batch_limit}
use Rattle.cell_world.specs.Orders.{pair_cmp}
use Rattle.cell_world.specs.declared.cells.Status.TheVariants.{Online, Offline}
use Rattle.cell_world.specs.declared.operations.Phase.TheVariants.{Idle, Copying, Moved}
use Rattle.cell_world.specs.declared.spans.High.{High}
use Rattle.cell_world.specs.declared.spans.High.TheVariants.{At}
use Rattle.world_examples.specs.Examples.{int_key, range, map_m, site_a, site_b, job_piece, job_at, row_of, entries_m, keyed_pieces, keyed_jobs, numbered_rows, owner_with}
use Rattle.world_examples.proofs.Tables.{get_of, entries_of}
use Rattle.world_examples.proofs.Refusing.{differ, some_under, news_of, put_of, is_empty, puts_idle_at, puts_job, split_end, offline_end, some_is}
use Rattle.world_examples.proofs.lawful.refused_steps_of_a_batch.Goals as goal

-- no batch ends past the job's range
short : (end : High) → IsBatchEnd (owner_with (job_piece 0 20 site_a Online ∷ [])) (job_at 0 Idle) end → not (end_below (At (int_key 10)) end) ≡ true
short end may =
    let owned : Some (job_piece 0 20 site_a Online) ≡ Some may.piece = rw (get_of byte_cmp entries_m tt map_m, entries_of pair_cmp (keyed_pieces (job_piece 0 20 site_a Online ∷ [])) tt) at may.owned in
    subst (λ p. not (end_below (batch_limit (job_at 0 Idle) p) end) ≡ true) (sym (some_is _ _ owned)) may.within

pub returns-clause-deleted : goal.returns-clause-deleted
returns-clause-deleted c h =
    let is_step = rw (get_of nat_cmp (keyed_jobs (job_at 0 (Copying (At (int_key 5))) ∷ [])) tt 1) at h.job in
    let step = rw (get_of byte_cmp entries_m tt map_m, entries_of pair_cmp (keyed_pieces (job_piece 0 5 site_a Offline ∷ [])) tt) at is_step.row in
    differ is_empty _ _ (sym (ap news_of step)) refl refl

pub returns-clause-split_past_the_range : goal.returns-clause-split_past_the_range
returns-clause-split_past_the_range c h =
    let is_step = rw (get_of nat_cmp (keyed_jobs (job_at 0 Idle ∷ [])) tt 1) at h.job in
    let step = rw (entries_of pair_cmp (keyed_pieces (job_piece 0 20 site_a Online ∷ [])) tt, entries_of pair_cmp (keyed_pieces (job_piece 0 20 site_a Online ∷ [])) tt, get_of byte_cmp entries_m tt map_m) at is_step.row in
    true≢false (sym (short step.0 step.1) ∙ ap (λ end. not (end_below (At (int_key 10)) end)) (split_end (job_at 0 Idle) 0 20 site_a Online step.0 (int_key 12) step.2))

pub returns-clause-offline_below_its_end : goal.returns-clause-offline_below_its_end
returns-clause-offline_below_its_end c h =
    let is_step = rw (get_of nat_cmp (keyed_jobs (job_at 0 Idle ∷ [])) tt 1) at h.job in
    let step = rw (entries_of pair_cmp (keyed_pieces (job_piece 0 10 site_a Online ∷ [])) tt, entries_of pair_cmp (keyed_pieces (job_piece 0 10 site_a Online ∷ [])) tt, get_of byte_cmp entries_m tt map_m) at is_step.row in
    true≢false (offline_end (job_at 0 Idle) 0 10 site_a Online step.0 (int_key 3) step.2)

pub returns-clause-moved_without_the_job : goal.returns-clause-moved_without_the_job
returns-clause-moved_without_the_job c h =
    let is_step = rw (get_of nat_cmp (keyed_jobs (job_at 0 (Copying (At (int_key 5))) ∷ [])) tt 1) at h.job in
    let step = rw (get_of byte_cmp entries_m tt map_m, entries_of pair_cmp (keyed_pieces (job_piece 0 5 site_a Offline ∷ [])) tt) at is_step.row in
    differ puts_job _ _ (ap put_of step) refl refl

pub returns-clause-online_before_the_move : goal.returns-clause-online_before_the_move
returns-clause-online_before_the_move c h =
    let is_step = rw (get_of nat_cmp (keyed_jobs (job_at 0 (Copying (At (int_key 5))) ∷ [])) tt 1) at h.job in
    let step = rw (get_of byte_cmp entries_m tt map_m, entries_of pair_cmp (keyed_pieces (job_piece 0 5 site_a Offline ∷ [])) tt) at is_step.row in
    differ (puts_idle_at (At (int_key 5))) _ _ (sym (ap put_of step)) refl refl

pub returns-clause-online_short_of_the_end : goal.returns-clause-online_short_of_the_end
returns-clause-online_short_of_the_end c h =
    let is_step = rw (get_of nat_cmp (keyed_jobs (job_at 0 (Moved (At (int_key 5))) ∷ [])) tt 1) at h.job in
    let step = rw (get_of byte_cmp entries_m tt map_m, entries_of pair_cmp (keyed_pieces (job_piece 0 5 site_b Offline ∷ [])) tt) at is_step.row in
    differ (puts_idle_at (At (int_key 5))) _ _ (ap put_of step) refl refl

pub returns-clause-source_not_emptied : goal.returns-clause-source_not_emptied
returns-clause-source_not_emptied c h =
    let is_step = rw (get_of nat_cmp (keyed_jobs (job_at 0 (Moved (At (int_key 5))) ∷ [])) tt 1) at h.job in
    some_under map_m (range 0 5) (numbered_rows 1 (1 ∷ [])) tt (row_of 1 1) refl is_step.emptied.0
