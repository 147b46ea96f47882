use Rattle.std.proofs.Common.{◌≡◌, map, take}
use Rattle.global_tables.proofs.lists.locations.Given as goal

abbrev pub invariant-loop-row : goal.invariant-loop-row
invariant-loop-row l = l.locations.items ≡ map (λ row. row.location) (take l.row-index l.rows)
