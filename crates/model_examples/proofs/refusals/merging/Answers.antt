use Rattle.std.proofs.Common.{refl, Some, [], ◌∷◌}
use Rattle.cell_world.specs.KeyForms.{normal_of}
use Rattle.cell_world.specs.declared.cells.Status.TheVariants.{Online, Offline}
use Rattle.plain_model.specs.Refusing.{refusal}
use Rattle.world_examples.specs.Examples.{site_a, site_b, free_piece, job_piece}
use Rattle.model_examples.proofs.JobStates.{m_stands}
use Rattle.model_examples.proofs.RefusedStates.{attached, pieces_are}
use Rattle.model_examples.proofs.refusals.merging.Goals as goal

pub returns-clause-mergeable : goal.returns-clause-mergeable
unfolding refusal normal_of
returns-clause-mergeable c = rw (m_stands, m_stands, pieces_are (free_piece 0 10 site_a Online ∷ free_piece 10 20 site_a Online ∷ []) tt, attached site_a) refl

pub returns-clause-mergeable_with_a_token : goal.returns-clause-mergeable_with_a_token
unfolding refusal normal_of
returns-clause-mergeable_with_a_token c = rw (m_stands, m_stands, pieces_are (job_piece 0 10 site_a Online ∷ job_piece 10 20 site_a Online ∷ []) tt, attached site_a) refl

pub returns-clause-none_there : goal.returns-clause-none_there
unfolding refusal normal_of
returns-clause-none_there c = rw (m_stands, m_stands, pieces_are (free_piece 0 10 site_a Online ∷ []) tt, attached site_a) refl

pub returns-clause-a_gap : goal.returns-clause-a_gap
unfolding refusal normal_of
returns-clause-a_gap c = rw (m_stands, m_stands, pieces_are (free_piece 0 10 site_a Online ∷ free_piece 11 20 site_a Online ∷ []) tt, attached site_a) refl

pub returns-clause-another_location : goal.returns-clause-another_location
unfolding refusal normal_of
returns-clause-another_location c = rw (m_stands, m_stands, pieces_are (free_piece 0 10 site_a Online ∷ free_piece 10 20 site_b Online ∷ []) tt, attached site_a) refl

pub returns-clause-another_status : goal.returns-clause-another_status
unfolding refusal normal_of
returns-clause-another_status c = rw (m_stands, m_stands, pieces_are (free_piece 0 10 site_a Online ∷ free_piece 10 20 site_a Offline ∷ []) tt, attached site_a) refl

pub returns-clause-a_token : goal.returns-clause-a_token
unfolding refusal normal_of
returns-clause-a_token c = rw (m_stands, m_stands, pieces_are (free_piece 0 10 site_a Online ∷ job_piece 10 20 site_a Online ∷ []) tt, attached site_a) refl

pub returns-clause-no_token : goal.returns-clause-no_token
unfolding refusal normal_of
returns-clause-no_token c = rw (m_stands, m_stands, pieces_are (job_piece 0 10 site_a Online ∷ free_piece 10 20 site_a Online ∷ []) tt, attached site_a) refl

pub returns-clause-another_token : goal.returns-clause-another_token
unfolding refusal normal_of
returns-clause-another_token c = rw (m_stands, m_stands, pieces_are (job_piece 0 10 site_a Online ∷ record (job_piece 10 20 site_a Online) { token = Some (record { 0 = 2 }) } ∷ []) tt, attached site_a) refl
