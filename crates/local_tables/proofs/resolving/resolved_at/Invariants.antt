use Rattle.std.proofs.Common.{◌≡◌}
use Rattle.cell_world.specs.Outside.{IfContents}
use Rattle.cell_world.specs.Outside.{IsLater}
use Rattle.local_tables.proofs.SearchTells.{At, None_above, Spent}
use Rattle.local_tables.proofs.resolving.resolved_at.Given as goal

abbrev pub invariant-loop : goal.invariant-loop
invariant-loop g l = record {
  at : IfContents (g.W.World.outside l.fn.world).told (At l.map l.key l.from);
  none : IfContents (g.W.World.outside l.fn.world).told (None_above (g.W.World.outside l.fn.world) l.site l.map l.key l.from);
  spent : IfContents (g.W.World.outside l.fn.world).told (Spent (g.W.World.outside l.fn.world) l.site l.map l.key (g.W.World.outside l.world).global_reads l.from);
  told : (g.W.World.outside l.world).told ≡ (g.W.World.outside l.fn.world).told;
  later : IsLater (g.W.World.outside l.fn.world) (g.W.World.outside l.world);
}
