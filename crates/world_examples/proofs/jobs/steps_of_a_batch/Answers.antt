use Rattle.std.proofs.Common.{[], ◌∷◌}
use Rattle.cell_world.specs.ByteOrder.{byte_cmp}
use Rattle.cell_world.specs.Orders.{pair_cmp}
use Rattle.cell_world.specs.declared.cells.Status.TheVariants.{Online, Offline}
use Rattle.world_examples.specs.Examples.{map_m, site_a, site_b, job_piece, entries_m, keyed_pieces}
use Rattle.world_examples.proofs.Tables.{get_of, entries_of}
use Rattle.world_examples.proofs.jobs.steps_of_a_batch.Goals as goal

pub returns-clause-move_there : goal.returns-clause-move_there
returns-clause-move_there c = rw (get_of byte_cmp entries_m tt map_m, entries_of pair_cmp (keyed_pieces (job_piece 0 3 site_a Offline ∷ job_piece 3 10 site_a Online ∷ [])) tt)

pub returns-clause-online : goal.returns-clause-online
returns-clause-online c = rw (get_of byte_cmp entries_m tt map_m, entries_of pair_cmp (keyed_pieces (job_piece 0 3 site_b Offline ∷ job_piece 3 10 site_a Online ∷ [])) tt)

pub returns-clause-nobody : goal.returns-clause-nobody
returns-clause-nobody c = rw (get_of byte_cmp entries_m tt map_m, entries_of pair_cmp (keyed_pieces []) tt)
