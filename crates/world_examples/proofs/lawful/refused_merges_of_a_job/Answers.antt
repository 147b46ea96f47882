use Rattle.std.proofs.Common.{refl, sym, ap, [], ◌∷◌}
use Rattle.std.specs.Ordering.{nat_cmp}
use Rattle.cell_world.specs.ByteOrder.{byte_cmp}
use Rattle.cell_world.specs.Orders.{pair_cmp}
use Rattle.cell_world.specs.declared.cells.Status.TheVariants.{Online, Offline}
use Rattle.cell_world.specs.declared.operations.Phase.TheVariants.{Idle, Copying}
use Rattle.cell_world.specs.declared.spans.High.TheVariants.{At}
use Rattle.world_examples.specs.Examples.{int_key, map_m, site_a, job_piece, job_at, entries_m, keyed_pieces, keyed_jobs}
use Rattle.world_examples.proofs.Tables.{get_of, entries_of}
use Rattle.world_examples.proofs.Refusing.{differ, olds_of, has_two, one_old}
use Rattle.world_examples.proofs.lawful.refused_merges_of_a_job.Goals as goal

pub returns-clause-not_due : goal.returns-clause-not_due
returns-clause-not_due c h =
    let is_step = rw (get_of nat_cmp (keyed_jobs (job_at 0 Idle ∷ [])) tt 1) at h.job in
    let step = rw (entries_of pair_cmp (keyed_pieces (job_piece 0 5 site_a Online ∷ job_piece 5 10 site_a Online ∷ [])) tt, entries_of pair_cmp (keyed_pieces (job_piece 0 5 site_a Online ∷ job_piece 5 10 site_a Online ∷ [])) tt, get_of byte_cmp entries_m tt map_m) at is_step.row in
    differ has_two _ _ (sym (ap olds_of step.2)) refl (one_old (job_at 0 Idle) 0 5 site_a Online step.0)

pub returns-clause-during_a_batch : goal.returns-clause-during_a_batch
returns-clause-during_a_batch c h =
    let is_step = rw (get_of nat_cmp (keyed_jobs (job_at 0 (Copying (At (int_key 5))) ∷ [])) tt 1) at h.job in
    let step = rw (get_of byte_cmp entries_m tt map_m, entries_of pair_cmp (keyed_pieces (job_piece 0 5 site_a Offline ∷ job_piece 5 10 site_a Offline ∷ [])) tt) at is_step.row in
    differ has_two _ _ (sym (ap olds_of step)) refl refl
