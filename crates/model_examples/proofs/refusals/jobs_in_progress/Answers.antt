use Rattle.std.proofs.Common.{refl, [], ◌∷◌}
use Rattle.std.specs.FinMap as fin
use Rattle.std.specs.Ordering.{nat_cmp}
use Rattle.cell_world.specs.ByteOrder.{byte_cmp}
use Rattle.cell_world.specs.declared.operations.Phase.TheVariants.{Copying, Moved, Idle}
use Rattle.cell_world.specs.declared.spans.High.TheVariants.{At}
use Rattle.plain_model.specs.Refusing.{refusal}
use Rattle.plain_model.specs.Worked.{small_key}
use Rattle.model_examples.specs.Values.{numbered_jobs}
use Rattle.world_examples.specs.Examples.{site_a, site_b, job_at}
use Rattle.model_examples.proofs.Lookups.{entries_of}
use Rattle.model_examples.proofs.refusals.jobs_in_progress.Goals as goal

pub returns-clause-source_of_a_copy : goal.returns-clause-source_of_a_copy
unfolding refusal
returns-clause-source_of_a_copy c = rw (fin.get-empty byte_cmp site_a, entries_of nat_cmp (numbered_jobs (job_at 0 (Copying (At (small_key 5))) ∷ [])) tt) refl

pub returns-clause-target_of_a_copy : goal.returns-clause-target_of_a_copy
unfolding refusal
returns-clause-target_of_a_copy c = rw (fin.get-empty byte_cmp site_b, entries_of nat_cmp (numbered_jobs (job_at 0 (Copying (At (small_key 5))) ∷ [])) tt) refl

pub returns-clause-source_after_the_move : goal.returns-clause-source_after_the_move
unfolding refusal
returns-clause-source_after_the_move c = rw (fin.get-empty byte_cmp site_a, entries_of nat_cmp (numbered_jobs (job_at 0 (Moved (At (small_key 5))) ∷ [])) tt) refl

pub returns-clause-target_after_the_move : goal.returns-clause-target_after_the_move
unfolding refusal
returns-clause-target_after_the_move c = rw (fin.get-empty byte_cmp site_b, entries_of nat_cmp (numbered_jobs (job_at 0 (Moved (At (small_key 5))) ∷ [])) tt) refl

pub returns-clause-not_the_source_while_idle : goal.returns-clause-not_the_source_while_idle
unfolding refusal
returns-clause-not_the_source_while_idle c = rw (fin.get-empty byte_cmp site_a, entries_of nat_cmp (numbered_jobs (job_at 0 Idle ∷ [])) tt) refl

pub returns-clause-not_the_target_while_idle : goal.returns-clause-not_the_target_while_idle
unfolding refusal
returns-clause-not_the_target_while_idle c = rw (fin.get-empty byte_cmp site_b, entries_of nat_cmp (numbered_jobs (job_at 0 Idle ∷ [])) tt) refl
