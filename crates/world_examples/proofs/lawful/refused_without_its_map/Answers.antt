use Rattle.std.proofs.Common.{sym, ap, ◌∙◌, true≢false, [], is_some}
use Rattle.cell_world.specs.ByteOrder.{byte_cmp}
use Rattle.world_examples.specs.Examples.{map_m}
use Rattle.world_examples.proofs.Tables.{get_of}
use Rattle.world_examples.proofs.lawful.refused_without_its_map.Goals as goal

pub returns : goal.returns
returns c h = true≢false (sym h.map_stands ∙ ap is_some (get_of byte_cmp [] tt map_m))
