use Rattle.std.proofs.Common.{take}
use Rattle.sqlite_site.specs.Held.{AreOpsOf}
use Rattle.sqlite_site.proofs.stored.ops_of.Given as goal

abbrev pub invariant-loop-edit : goal.invariant-loop-edit
invariant-loop-edit l = AreOpsOf l.ops.items (take l.edit-index l.edits)
