use Rattle.std.proofs.Common.{[], ◌∷◌}
use Rattle.cell_world.specs.ByteOrder.{byte_cmp}
use Rattle.cell_world.specs.Orders.{pair_cmp}
use Rattle.cell_world.specs.declared.cells.Status.TheVariants.{Online}
use Rattle.world_examples.specs.Examples.{map_m, site_a, site_b, job_piece, entries_m, keyed_pieces}
use Rattle.world_examples.proofs.Tables.{get_of, entries_of}
use Rattle.world_examples.proofs.jobs.steps_without_a_batch.Goals as goal

pub returns-clause-merge : goal.returns-clause-merge
returns-clause-merge c = rw (entries_of pair_cmp (keyed_pieces (job_piece 0 3 site_b Online ∷ job_piece 3 5 site_b Online ∷ job_piece 5 10 site_a Online ∷ [])) tt)

pub returns-clause-last_merge : goal.returns-clause-last_merge
returns-clause-last_merge c = rw (entries_of pair_cmp (keyed_pieces (job_piece 0 5 site_b Online ∷ job_piece 5 10 site_b Online ∷ [])) tt)

pub returns-clause-finish : goal.returns-clause-finish
returns-clause-finish c = rw (entries_of pair_cmp (keyed_pieces (job_piece 0 10 site_b Online ∷ [])) tt)

pub returns-clause-split_at_cursor : goal.returns-clause-split_at_cursor
returns-clause-split_at_cursor c = rw (entries_of pair_cmp (keyed_pieces (job_piece 0 10 site_a Online ∷ [])) tt, entries_of pair_cmp (keyed_pieces (job_piece 0 10 site_a Online ∷ [])) tt, get_of byte_cmp entries_m tt map_m)

pub returns-clause-split_at_end : goal.returns-clause-split_at_end
returns-clause-split_at_end c = rw (entries_of pair_cmp (keyed_pieces (job_piece 0 10 site_a Online ∷ [])) tt, entries_of pair_cmp (keyed_pieces (job_piece 0 10 site_a Online ∷ [])) tt, get_of byte_cmp entries_m tt map_m)

pub returns-clause-offline : goal.returns-clause-offline
returns-clause-offline c = rw (entries_of pair_cmp (keyed_pieces (job_piece 0 3 site_a Online ∷ job_piece 3 10 site_a Online ∷ [])) tt, entries_of pair_cmp (keyed_pieces (job_piece 0 3 site_a Online ∷ job_piece 3 10 site_a Online ∷ [])) tt, get_of byte_cmp entries_m tt map_m)

pub returns-clause-nobody : goal.returns-clause-nobody
returns-clause-nobody c = rw (entries_of pair_cmp (keyed_pieces []) tt, entries_of pair_cmp (keyed_pieces []) tt, get_of byte_cmp entries_m tt map_m)
