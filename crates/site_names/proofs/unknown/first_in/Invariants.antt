use Rattle.std.proofs.Common.{◌≡◌, map, drop}
use Rattle.site_names.specs.Named.{first_named}
use Rattle.site_names.proofs.unknown.first_in.Given as goal

abbrev pub invariant-loop-row : goal.invariant-loop-row
invariant-loop-row g l =
    first_named (g.W.World.outside l.world).locations (map g.T.Row.cell_of l.rows) ≡ first_named (g.W.World.outside l.world).locations (map g.T.Row.cell_of (drop l.row-index l.rows))
