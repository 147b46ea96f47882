use Rattle.std.proofs.Common.{[], ◌∷◌}
use Rattle.cell_world.specs.ByteOrder.{byte_cmp}
use Rattle.cell_world.specs.Orders.{pair_cmp, row_cmp}
use Rattle.cell_world.specs.declared.cells.Status.TheVariants.{Online}
use Rattle.world_examples.specs.Examples.{map_m, site_a, site_b, job_piece, entries_m, keyed_pieces, numbered_rows}
use Rattle.world_examples.proofs.Tables.{get_of, entries_of}
use Rattle.world_examples.proofs.jobs.batch_ends_of_a_job.Goals as goal

pub returns-clause-no_row : goal.returns-clause-no_row
returns-clause-no_row c = rw (get_of byte_cmp entries_m tt map_m, entries_of pair_cmp (keyed_pieces (job_piece 0 10 site_a Online ∷ [])) tt, entries_of row_cmp (numbered_rows 1 []) tt)

pub returns-clause-full : goal.returns-clause-full
returns-clause-full c = rw (get_of byte_cmp entries_m tt map_m, entries_of pair_cmp (keyed_pieces (job_piece 0 10 site_a Online ∷ [])) tt, entries_of row_cmp (numbered_rows 1 (1 ∷ 2 ∷ [])) tt)

pub returns-clause-one_more : goal.returns-clause-one_more
returns-clause-one_more c = rw (get_of byte_cmp entries_m tt map_m, entries_of pair_cmp (keyed_pieces (job_piece 0 10 site_a Online ∷ [])) tt, entries_of row_cmp (numbered_rows 1 (1 ∷ 2 ∷ 3 ∷ [])) tt)

pub returns-clause-below_cursor : goal.returns-clause-below_cursor
returns-clause-below_cursor c = rw (get_of byte_cmp entries_m tt map_m, entries_of pair_cmp (keyed_pieces (job_piece 0 2 site_b Online ∷ job_piece 2 10 site_a Online ∷ [])) tt, entries_of row_cmp (numbered_rows 1 (1 ∷ 2 ∷ 3 ∷ [])) tt)

pub returns-clause-mapping_first : goal.returns-clause-mapping_first
returns-clause-mapping_first c = rw (get_of byte_cmp entries_m tt map_m, entries_of pair_cmp (keyed_pieces (job_piece 0 5 site_a Online ∷ job_piece 5 10 site_a Online ∷ [])) tt, entries_of row_cmp (numbered_rows 1 (1 ∷ 6 ∷ 7 ∷ [])) tt)

pub returns-clause-job_first : goal.returns-clause-job_first
returns-clause-job_first c = rw (get_of byte_cmp entries_m tt map_m, entries_of pair_cmp (keyed_pieces (job_piece 0 12 site_a Online ∷ [])) tt, entries_of row_cmp (numbered_rows 1 (1 ∷ 11 ∷ 12 ∷ [])) tt)

pub returns-clause-end_of_range : goal.returns-clause-end_of_range
returns-clause-end_of_range c = rw (get_of byte_cmp entries_m tt map_m, entries_of pair_cmp (keyed_pieces (job_piece 0 10 site_b Online ∷ [])) tt)
