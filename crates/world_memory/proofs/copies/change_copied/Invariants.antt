use Rattle.std.proofs.Common.{◌≡◌, take}
use Rattle.world_memory.proofs.copies.change_copied.Given as goal

abbrev pub invariant-loop-edit : goal.invariant-loop-edit
invariant-loop-edit l = l.copy ≡ take l.edit-index l.edits
