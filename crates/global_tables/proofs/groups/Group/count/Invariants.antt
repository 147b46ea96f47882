use Rattle.std.proofs.Common.{◌≡◌, length, ◌+◌, drop}
use Rattle.global_tables.specs.Groups.{inside}
use Rattle.global_tables.proofs.groups.Group.count.Given as goal

abbrev pub invariant-loop-count : goal.invariant-loop-count
invariant-loop-count l = length (inside l.self l.cells) ≡ l.count + length (inside l.self (drop l.count l.cells))
