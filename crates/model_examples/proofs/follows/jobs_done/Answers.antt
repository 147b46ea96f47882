use Rattle.std.proofs.Common.{◌≡◌, ◌≤◌, true, false, refl, arith, ◌∷◌, []}
use Rattle.cell_world.specs.Orders.{pair_cmp}
use Rattle.cell_world.specs.declared.cells.Status.TheVariants.{Online, Offline}
use Rattle.cell_world.specs.declared.operations.Phase.TheVariants.{Idle, Moved}
use Rattle.cell_world.specs.declared.spans.High.TheVariants.{At}
use Rattle.plain_model.specs.Worked.{small_key, small_range, mapping_over}
use Rattle.world_examples.specs.Examples.{site_a, site_b, job_piece, keyed_pieces}
use Rattle.model_examples.proofs.Lookups.{entries_of}
use Rattle.model_examples.proofs.JobStates.{m_stands, job_stands, n_is_more}
use Rattle.model_examples.proofs.follows.jobs_done.Goals as goal

pub returns-clause-after_the_finish : goal.returns-clause-after_the_finish
returns-clause-after_the_finish c = record {
  asked = refl;
  same = refl;
  just_before = (refl, refl, refl, rw (job_stands 10 Idle, entries_of pair_cmp (keyed_pieces (job_piece 0 10 site_b Online ∷ [])) tt) refl);
  one_batch = rw (job_stands 10 Idle, job_stands 0 (Moved (At (small_key 5)))) (omega arith);
}

pub returns-clause-run_of_two_batches : goal.returns-clause-run_of_two_batches
returns-clause-run_of_two_batches c = record {
  asked = refl;
  same = refl;
  just_before = (refl, refl, refl, rw (job_stands 10 Idle, entries_of pair_cmp (keyed_pieces (job_piece 0 10 site_b Online ∷ [])) tt) refl);
  one_batch = tt;
}

pub returns-clause-never_step_of_two_batches : goal.returns-clause-never_step_of_two_batches
returns-clause-never_step_of_two_batches c f = let e : 2 ≤ 1 = rw (job_stands 10 Idle, job_stands 0 (Moved (At (small_key 5)))) at f.one_batch in omega arith

pub returns-clause-never_where_the_job_stands : goal.returns-clause-never_where_the_job_stands
returns-clause-never_where_the_job_stands c f = let e : false ≡ true = rw (job_stands 0 (Moved (At (small_key 5))), m_stands, entries_of pair_cmp (keyed_pieces (job_piece 0 5 site_b Offline ∷ job_piece 5 10 site_a Online ∷ [])) tt) at f.just_before.3 in cc

pub returns-clause-never_with_a_change : goal.returns-clause-never_with_a_change
returns-clause-never_with_a_change c f = n_is_more (record (mapping_over (small_range 0 10) Online) { location = site_b } ∷ []) [] f.same
