use Rattle.std.proofs.Common.{sym, ◌∙◌, true≢false, [], ◌∷◌}
use Rattle.std.specs.FinSet as set
use Rattle.cell_world.proofs.OrderLaws.{pairs_total}
use Rattle.world_examples.specs.Examples.{map_m, map_n, site_a, site_b}
use Rattle.world_examples.proofs.lawful.refused_off_the_shards.Goals as goal

pub returns-clause-no_shard : goal.returns-clause-no_shard
returns-clause-no_shard c h = true≢false (sym h.on_shards.0 ∙ set.contains-from_list pairs_total ((map_m, site_b) ∷ []) (map_m, site_a))

pub returns-clause-of_another_map : goal.returns-clause-of_another_map
returns-clause-of_another_map c h = true≢false (sym h.on_shards.0 ∙ set.contains-from_list pairs_total ((map_n, site_a) ∷ []) (map_m, site_a))
