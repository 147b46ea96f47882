use Rattle.std.proofs.Common.{take}
use Rattle.global_tables.proofs.CopyEdits.{Follows}
use Rattle.global_tables.proofs.known.KnownTables.changed.Given as goal

abbrev pub invariant-loop-edit : goal.invariant-loop-edit
invariant-loop-edit l = Follows l.fn.self l.next (take l.edit-index l.edit-items)
