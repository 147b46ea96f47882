use Rattle.std.proofs.Common.{refl}
use Rattle.std.specs.FinMap as fin
use Rattle.cell_world.specs.ByteOrder.{byte_cmp}
use Rattle.cell_world.specs.declared.cells.KeyType.{KeyType}
use Rattle.cell_world.specs.declared.cells.MapKind.{MapKind}
use Rattle.world_examples.specs.Examples.{map_m}
use Rattle.model_examples.proofs.Learning.{opens_by_no_key, opens, opens_offline}
use Rattle.model_examples.proofs.caches.cache_after_entries.Goals as goal

pub returns-clause-opened : goal.returns-clause-opened
returns-clause-opened c = opens 3

pub returns-clause-offline_is_learnt_too : goal.returns-clause-offline_is_learnt_too
returns-clause-offline_is_learnt_too c = opens_offline 3

pub returns-clause-open_in_no_map : goal.returns-clause-open_in_no_map
returns-clause-open_in_no_map c = rw (fin.get-empty {X = MapKind × KeyType} byte_cmp map_m) refl

pub returns-clause-open_by_no_key : goal.returns-clause-open_by_no_key
returns-clause-open_by_no_key c = opens_by_no_key
