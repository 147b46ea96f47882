-- What a refusal reads of the small states: the map and its shards, that both sites are attached, and the mappings.
use Rattle.std.proofs.Common.{◌≡◌, true, List, [], T, None, length, ap, ◌∙◌}
use Rattle.std.specs.FinMap as fin
use Rattle.std.specs.FinMap.{is_sorted}
use Rattle.std.specs.FinSet as set
use Rattle.std.specs.Ordering.{nat_cmp}
use Rattle.cell_world.specs.Texts.{Text}
use Rattle.cell_world.specs.ByteOrder.{byte_cmp}
use Rattle.cell_world.specs.Orders.{pair_cmp}
use Rattle.cell_world.specs.declared.operations.Piece.{Piece}
use Rattle.cell_world.specs.declared.operations.JobRow.{JobRow}
use Rattle.cell_world.proofs.OrderLaws.{pairs_total}
use Rattle.world_examples.specs.Examples.{map_m, site_a, site_b, shards_ab, pairs_ab, away_of, mappings_of, keyed_pieces, jobs_of, keyed_jobs}
use Rattle.model_examples.proofs.Lookups.{get_of, entries_of}

-- both sites are attached
pub attached : (location : Text) → fin.get (away_of []) location ≡ None
attached location = get_of byte_cmp [] tt location

-- and are shards of the map
pub a_shard : set.contains shards_ab (map_m, site_a) ≡ true
a_shard = set.contains-from_list pairs_total pairs_ab (map_m, site_a)

pub b_shard : set.contains shards_ab (map_m, site_b) ≡ true
b_shard = set.contains-from_list pairs_total pairs_ab (map_m, site_b)

-- the mappings that stand, given in the order of their keys
pub pieces_are : (pieces : List Piece) → T (is_sorted pair_cmp (keyed_pieces pieces)) → fin.entries (mappings_of pieces) ≡ keyed_pieces pieces
pieces_are pieces sorted = entries_of pair_cmp (keyed_pieces pieces) sorted

-- the jobs that stand
pub jobs_are : (jobs : List JobRow) → T (is_sorted nat_cmp (keyed_jobs jobs)) → fin.entries (jobs_of jobs) ≡ keyed_jobs jobs
jobs_are jobs sorted = entries_of nat_cmp (keyed_jobs jobs) sorted

-- no job stands
pub no_jobs : fin.len (jobs_of []) ≡ 0
no_jobs = fin.len-entries (jobs_of []) ∙ ap length (jobs_are [] tt)
