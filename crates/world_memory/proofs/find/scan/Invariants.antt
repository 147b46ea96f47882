use Rattle.std.proofs.Common.{ℕ, length, ◌-◌}
use Rattle.cell_world.specs.Stores.{Store, IsKeyed}
use Rattle.world_memory.specs.Kept.{Holds}
use Rattle.world_memory.proofs.Scanned.{IsScanning}
use Rattle.world_memory.proofs.find.scan.Given as goal

abbrev pub invariant-loop-alloc : goal.invariant-loop-alloc
invariant-loop-alloc l = (stores : ℕ → Store) → Holds l.cells stores → IsKeyed (stores l.site.0) → IsScanning (stores l.site.0) l.from l.limit l.at l.past l.found.items

abbrev pub decreases-loop-alloc : goal.decreases-loop-alloc
decreases-loop-alloc l = l.limit - length l.found.items
