use Rattle.std.proofs.Common.{refl, [], ◌∷◌}
use Rattle.cell_world.specs.declared.cells.Status.TheVariants.{Online}
use Rattle.cell_world.specs.declared.operations.Phase.TheVariants.{Idle}
use Rattle.plain_model.specs.Refusing.{refusal}
use Rattle.world_examples.specs.Examples.{map_n, site_a, site_b, free_piece, job_piece, job_at}
use Rattle.model_examples.proofs.JobStates.{m_stands}
use Rattle.model_examples.proofs.RefusedStates.{attached, a_shard, b_shard, pieces_are, jobs_are}
use Rattle.model_examples.proofs.refusals.shards_in_use.Goals as goal

pub returns-clause-by_a_mapping : goal.returns-clause-by_a_mapping
unfolding refusal
returns-clause-by_a_mapping c = rw (m_stands, a_shard, attached site_a, pieces_are (free_piece 0 10 site_a Online ∷ []) tt) refl

pub returns-clause-by_a_target : goal.returns-clause-by_a_target
unfolding refusal
returns-clause-by_a_target c = rw (m_stands, b_shard, attached site_b, pieces_are (job_piece 0 10 site_a Online ∷ []) tt, jobs_are (job_at 0 Idle ∷ []) tt) refl

pub returns-clause-not_without_the_job : goal.returns-clause-not_without_the_job
unfolding refusal
returns-clause-not_without_the_job c = rw (m_stands, b_shard, attached site_b, pieces_are (job_piece 0 10 site_a Online ∷ []) tt, jobs_are [] tt) refl

pub returns-clause-not_by_a_source : goal.returns-clause-not_by_a_source
unfolding refusal
returns-clause-not_by_a_source c = rw (m_stands, a_shard, attached site_a, pieces_are (job_piece 0 10 site_b Online ∷ []) tt, jobs_are (job_at 10 Idle ∷ []) tt) refl

pub returns-clause-not_by_a_job_of_another_map : goal.returns-clause-not_by_a_job_of_another_map
unfolding refusal
returns-clause-not_by_a_job_of_another_map c = rw (m_stands, b_shard, attached site_b, pieces_are [] tt, jobs_are (record (job_at 0 Idle) { map = map_n } ∷ []) tt) refl
