use Rattle.std.proofs.Common.{◌≡◌, take}
use Rattle.world_memory.specs.Told.{wrote}
use Rattle.world_memory.proofs.world.MemoryWorld.output.Given as goal

abbrev pub invariant-loop-entry : goal.invariant-loop-entry
invariant-loop-entry l = l.bytes.items ≡ wrote (take l.entry-index l.entry-items)
