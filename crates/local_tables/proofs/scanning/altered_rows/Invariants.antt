use Rattle.std.proofs.Common.{◌≡◌}
use Rattle.cell_world.specs.Outside.{IfContents, IsLater}
use Rattle.local_tables.proofs.ScanLaws.{Up}
use Rattle.local_tables.proofs.scanning.altered_rows.Given as goal

abbrev pub invariant-loop : goal.invariant-loop
invariant-loop g l = record {
  listed : IfContents (g.W.World.outside l.fn.world).told (Up (g.W.World.outside l.fn.world) l.site l.work l.op l.from l.rows.items);
  reads : (g.W.World.outside l.world).global_reads ≡ (g.W.World.outside l.fn.world).global_reads;
  told : (g.W.World.outside l.world).told ≡ (g.W.World.outside l.fn.world).told;
  later : IsLater (g.W.World.outside l.fn.world) (g.W.World.outside l.world);
}
