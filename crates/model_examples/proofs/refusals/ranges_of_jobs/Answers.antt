use Rattle.std.proofs.Common.{refl, [], ◌∷◌}
use Rattle.cell_world.specs.KeyForms.{normal_of}
use Rattle.cell_world.specs.declared.cells.Status.TheVariants.{Online}
use Rattle.plain_model.specs.Refusing.{refusal}
use Rattle.world_examples.specs.Examples.{site_a, site_b, free_piece}
use Rattle.model_examples.proofs.JobStates.{m_stands}
use Rattle.model_examples.proofs.RefusedStates.{attached, b_shard, pieces_are, no_jobs}
use Rattle.model_examples.proofs.refusals.ranges_of_jobs.Goals as goal

pub returns-clause-whole : goal.returns-clause-whole
unfolding refusal normal_of
returns-clause-whole c = rw (m_stands, m_stands, pieces_are (free_piece 0 10 site_a Online ∷ free_piece 10 20 site_a Online ∷ []) tt, attached site_a, b_shard, attached site_b, no_jobs) refl

pub returns-clause-inside : goal.returns-clause-inside
unfolding refusal normal_of
returns-clause-inside c = rw (m_stands, m_stands, pieces_are (free_piece 0 10 site_a Online ∷ free_piece 10 20 site_a Online ∷ []) tt, attached site_a, b_shard, attached site_b, no_jobs) refl

pub returns-clause-past_the_mapping : goal.returns-clause-past_the_mapping
unfolding refusal normal_of
returns-clause-past_the_mapping c = rw (m_stands, m_stands, pieces_are (free_piece 0 10 site_a Online ∷ free_piece 10 20 site_a Online ∷ []) tt) refl

pub returns-clause-past_the_last : goal.returns-clause-past_the_last
unfolding refusal normal_of
returns-clause-past_the_last c = rw (m_stands, m_stands, pieces_are (free_piece 0 10 site_a Online ∷ free_piece 10 20 site_a Online ∷ []) tt) refl

pub returns-clause-without_an_end : goal.returns-clause-without_an_end
unfolding refusal normal_of
returns-clause-without_an_end c = rw (m_stands, m_stands, pieces_are (free_piece 0 10 site_a Online ∷ free_piece 10 20 site_a Online ∷ []) tt) refl

pub returns-clause-past_all : goal.returns-clause-past_all
unfolding refusal normal_of
returns-clause-past_all c = rw (m_stands, m_stands, pieces_are (free_piece 0 10 site_a Online ∷ free_piece 10 20 site_a Online ∷ []) tt) refl
