-- What a world in memory is, told by its fields.
use Rattle.std.proofs.Common.{◌≡◌, IsSome}
use Rattle.cell_world.specs.Stores.{IsStore, empty_store}
use Rattle.cell_world.specs.Images.{image_at, end_of_trail}
use Rattle.cell_world.specs.Outside.{IsWorld, place_at, store_at}
use Rattle.cell_world.specs.declared.cells.Site.{Site}
use Rattle.world_memory.specs.declared.world.MemoryWorld.{MemoryWorld}
use Rattle.world_memory.specs.Kept.{store_after}
use Rattle.world_memory.specs.Told.{trail_from}
use Rattle.world_memory.specs.Laws.{is_world}
use Rattle.world_memory.specs.Memory.{outside_of}
use Rattle.world_memory.proofs.Now.{now_is, now_store}

-- it keeps the laws of worlds
pub law_of : (w : MemoryWorld) → IsWorld (outside_of w)
law_of w = is_world w.locations.items w.happened.items w.failed.items w.start w.sink w.reads w.spelled w.distinct w.few w.kept w.sunk w.counted

-- the store of a site is what is kept for it
pub store_is : (w : MemoryWorld) (site : Site) → IsSome (place_at w.locations.items site.0) → store_at (outside_of w) site (image_at (trail_from w.locations.items w.happened.items w.start) (end_of_trail (trail_from w.locations.items w.happened.items w.start))) ≡ store_after site.0 empty_store w.happened.items
store_is w site known = now_is w.locations.items w.happened.items w.failed.items w.start w.sink w.reads w.within site known w.distinct

pub is_store : (w : MemoryWorld) (site : Site) → IsSome (place_at w.locations.items site.0) → IsStore (store_after site.0 empty_store w.happened.items)
is_store w site known = now_store w.locations.items w.happened.items w.failed.items w.start w.sink w.reads w.within site known w.distinct w.kept
