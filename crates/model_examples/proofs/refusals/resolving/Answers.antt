use Rattle.std.proofs.Common.{refl, [], ◌∷◌}
use Rattle.cell_world.specs.declared.cells.Status.TheVariants.{Online, Offline}
use Rattle.plain_model.specs.Refusing.{refusal}
use Rattle.world_examples.specs.Examples.{site_a, site_b, free_piece, job_piece}
use Rattle.model_examples.proofs.JobStates.{m_stands}
use Rattle.cell_world.specs.ByteOrder.{byte_cmp}
use Rattle.cell_world.specs.Orders.{local_cmp}
use Rattle.cell_world.specs.declared.cells.Away.TheVariants.{Suspect}
use Rattle.plain_model.specs.Worked.{small_range, local_row_over}
use Rattle.model_examples.specs.Values.{keyed_locals}
use Rattle.model_examples.proofs.Lookups.{get_of, entries_of}
use Rattle.model_examples.proofs.RefusedStates.{a_shard, pieces_are}
use Rattle.model_examples.proofs.refusals.resolving.Goals as goal

pub returns-clause-locked : goal.returns-clause-locked
unfolding refusal
returns-clause-locked c = rw (m_stands, a_shard, get_of byte_cmp ((site_a, Suspect) ∷ []) tt site_a, pieces_are (job_piece 0 10 site_a Offline ∷ []) tt, entries_of local_cmp (keyed_locals (local_row_over (small_range 0 10) Online ∷ [])) tt) refl

pub returns-clause-locked_by_the_word_of_the_shard_alone : goal.returns-clause-locked_by_the_word_of_the_shard_alone
unfolding refusal
returns-clause-locked_by_the_word_of_the_shard_alone c = rw (m_stands, a_shard, get_of byte_cmp ((site_a, Suspect) ∷ []) tt site_a, pieces_are (job_piece 0 10 site_a Offline ∷ []) tt, entries_of local_cmp (keyed_locals (local_row_over (small_range 0 10) Online ∷ [])) tt) refl

pub returns-clause-free : goal.returns-clause-free
unfolding refusal
returns-clause-free c = rw (m_stands, a_shard, get_of byte_cmp ((site_a, Suspect) ∷ []) tt site_a, pieces_are (free_piece 0 10 site_a Offline ∷ []) tt, entries_of local_cmp (keyed_locals (local_row_over (small_range 0 10) Online ∷ [])) tt) refl

pub returns-clause-overlap : goal.returns-clause-overlap
unfolding refusal
returns-clause-overlap c = rw (m_stands, a_shard, get_of byte_cmp ((site_a, Suspect) ∷ []) tt site_a, pieces_are (free_piece 0 10 site_b Offline ∷ []) tt, entries_of local_cmp (keyed_locals (local_row_over (small_range 0 10) Online ∷ [])) tt) refl

pub returns-clause-overlap_whatever_the_token : goal.returns-clause-overlap_whatever_the_token
unfolding refusal
returns-clause-overlap_whatever_the_token c = rw (m_stands, a_shard, get_of byte_cmp ((site_a, Suspect) ∷ []) tt site_a, pieces_are (job_piece 0 10 site_b Offline ∷ []) tt, entries_of local_cmp (keyed_locals (local_row_over (small_range 0 10) Online ∷ [])) tt) refl

pub returns-clause-overlap_of_one_key : goal.returns-clause-overlap_of_one_key
unfolding refusal
returns-clause-overlap_of_one_key c = rw (m_stands, a_shard, get_of byte_cmp ((site_a, Suspect) ∷ []) tt site_a, pieces_are (free_piece 9 20 site_b Online ∷ []) tt, entries_of local_cmp (keyed_locals (local_row_over (small_range 0 10) Online ∷ [])) tt) refl

pub returns-clause-no_overlap_beside : goal.returns-clause-no_overlap_beside
unfolding refusal
returns-clause-no_overlap_beside c = rw (m_stands, a_shard, get_of byte_cmp ((site_a, Suspect) ∷ []) tt site_a, pieces_are (free_piece 10 20 site_b Online ∷ []) tt, entries_of local_cmp (keyed_locals (local_row_over (small_range 0 10) Online ∷ [])) tt) refl

pub returns-clause-overlap_by_the_word_of_the_shard_alone : goal.returns-clause-overlap_by_the_word_of_the_shard_alone
unfolding refusal
returns-clause-overlap_by_the_word_of_the_shard_alone c = rw (m_stands, a_shard, get_of byte_cmp ((site_a, Suspect) ∷ []) tt site_a, pieces_are (free_piece 0 10 site_b Offline ∷ []) tt, entries_of local_cmp (keyed_locals (local_row_over (small_range 0 10) Online ∷ [])) tt) refl

pub returns-clause-without_a_second_difference : goal.returns-clause-without_a_second_difference
unfolding refusal
returns-clause-without_a_second_difference c = rw (m_stands, a_shard, get_of byte_cmp ((site_a, Suspect) ∷ []) tt site_a, pieces_are (job_piece 0 10 site_a Offline ∷ []) tt, entries_of local_cmp (keyed_locals (local_row_over (small_range 0 10) Online ∷ [])) tt) refl
