use Rattle.std.proofs.Common.{sym, true≢false}
use Rattle.cell_world.specs.ByteOrder.{byte_cmp}
use Rattle.world_examples.specs.Examples.{list_entries_m, map_m, entries_m}
use Rattle.world_examples.proofs.Tables.{get_of}
use Rattle.world_examples.proofs.lawful.refused_spans.Goals as goal

pub returns-clause-point : goal.returns-clause-point
returns-clause-point c h = let spans = rw (get_of byte_cmp entries_m tt map_m) at h.spans in true≢false (sym spans.0)

pub returns-clause-short_key : goal.returns-clause-short_key
returns-clause-short_key c h = let spans = rw (get_of byte_cmp entries_m tt map_m) at h.spans in true≢false (sym spans.0)

pub returns-clause-range_of_a_list_map : goal.returns-clause-range_of_a_list_map
returns-clause-range_of_a_list_map c h = let spans = rw (get_of byte_cmp list_entries_m tt map_m) at h.spans in true≢false (sym spans.0)
