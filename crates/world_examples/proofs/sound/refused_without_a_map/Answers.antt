use Rattle.std.proofs.Common.{true, refl, ap, [], ◌∷◌, is_some}
use Rattle.cell_world.specs.ByteOrder.{byte_cmp}
use Rattle.world_examples.specs.Examples.{map_m, map_n, table_t, site_a, site_b, entries_m}
use Rattle.world_examples.proofs.Tables.{get_of}
use Rattle.world_examples.proofs.Standing.{not_both}
use Rattle.world_examples.proofs.ShortTables.{set_has}
use Rattle.world_examples.proofs.sound.refused_without_a_map.Goals as goal

pub returns-clause-shards : goal.returns-clause-shards
returns-clause-shards c = λ h. not_both _ (ap is_some (get_of byte_cmp entries_m tt map_n)) (h.shards map_n site_a (set_has ((map_m, site_a) ∷ (map_m, site_b) ∷ (map_n, site_a) ∷ []) (map_n, site_a) true refl))

pub returns-clause-tables : goal.returns-clause-tables
returns-clause-tables c = λ h. not_both _ (ap is_some (get_of byte_cmp entries_m tt map_n)) (h.tables map_n table_t (set_has ((map_m, table_t) ∷ (map_n, table_t) ∷ []) (map_n, table_t) true refl))
