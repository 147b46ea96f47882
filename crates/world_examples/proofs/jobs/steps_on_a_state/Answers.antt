use Rattle.std.proofs.Common.{[], ◌∷◌}
use Rattle.cell_world.specs.ByteOrder.{byte_cmp}
use Rattle.cell_world.specs.Orders.{pair_cmp, row_cmp}
use Rattle.cell_world.specs.declared.cells.Status.TheVariants.{Online}
use Rattle.world_examples.specs.Examples.{map_m, site_a, site_b, job_piece, entries_m, keyed_pieces, numbered_rows}
use Rattle.world_examples.proofs.Tables.{get_of, entries_of}
use Rattle.world_examples.proofs.jobs.steps_on_a_state.Goals as goal

pub returns-clause-split : goal.returns-clause-split
returns-clause-split c = rw (entries_of pair_cmp (keyed_pieces (job_piece 0 10 site_a Online ∷ [])) tt, entries_of pair_cmp (keyed_pieces (job_piece 0 10 site_a Online ∷ [])) tt, get_of byte_cmp entries_m tt map_m, entries_of row_cmp (numbered_rows 1 (1 ∷ 2 ∷ 3 ∷ [])) tt)

pub returns-clause-offline : goal.returns-clause-offline
returns-clause-offline c = rw (entries_of pair_cmp (keyed_pieces (job_piece 0 3 site_a Online ∷ job_piece 3 10 site_a Online ∷ [])) tt, entries_of pair_cmp (keyed_pieces (job_piece 0 3 site_a Online ∷ job_piece 3 10 site_a Online ∷ [])) tt, get_of byte_cmp entries_m tt map_m, entries_of row_cmp (numbered_rows 1 (1 ∷ 2 ∷ 3 ∷ [])) tt)

pub returns-clause-last_batch : goal.returns-clause-last_batch
returns-clause-last_batch c = rw (entries_of pair_cmp (keyed_pieces (job_piece 0 3 site_b Online ∷ job_piece 3 10 site_a Online ∷ [])) tt, entries_of pair_cmp (keyed_pieces (job_piece 0 3 site_b Online ∷ job_piece 3 10 site_a Online ∷ [])) tt, get_of byte_cmp entries_m tt map_m, entries_of row_cmp (numbered_rows 1 (1 ∷ 2 ∷ 3 ∷ [])) tt)
