use Rattle.std.proofs.Common.{refl, [], ◌∷◌}
use Rattle.cell_world.specs.declared.cells.Status.TheVariants.{Online, Offline}
use Rattle.world_examples.specs.Examples.{int_key, site_a, site_b, job_piece}
use Rattle.world_examples.proofs.ImageParts.{a_attached, b_attached}
use Rattle.world_examples.proofs.ShortTables.{piece_in}
use Rattle.world_examples.proofs.sound.batches_in_progress.Goals as goal

pub returns-clause-copied : goal.returns-clause-copied
returns-clause-copied c = (record { above = refl; within = refl; low = int_key 3; at_cursor = refl; piece = job_piece 3 6 site_a Offline; stands = piece_in (job_piece 3 6 site_a Offline ∷ job_piece 6 10 site_a Online ∷ []) tt (job_piece 3 6 site_a Offline) refl; of_map = refl; span = refl; offline = refl; at_site = refl }, a_attached, b_attached)

pub returns-clause-last : goal.returns-clause-last
returns-clause-last c = (record { above = refl; within = refl; low = int_key 3; at_cursor = refl; piece = job_piece 3 10 site_a Offline; stands = piece_in (job_piece 3 10 site_a Offline ∷ []) tt (job_piece 3 10 site_a Offline) refl; of_map = refl; span = refl; offline = refl; at_site = refl }, a_attached, b_attached)

pub returns-clause-moved : goal.returns-clause-moved
returns-clause-moved c = (record { above = refl; within = refl; low = int_key 3; at_cursor = refl; piece = job_piece 3 6 site_b Offline; stands = piece_in (job_piece 3 6 site_b Offline ∷ job_piece 6 10 site_a Online ∷ []) tt (job_piece 3 6 site_b Offline) refl; of_map = refl; span = refl; offline = refl; at_site = refl }, a_attached, b_attached)
