use Rattle.std.proofs.Common.{◌≡◌, map}
use Rattle.cell_world.specs.Images.{global}
use Rattle.cell_world.specs.Outside.{IfContents}
use Rattle.cell_world.specs.Outside.{IsLater}
use Rattle.global_tables.specs.Listing.{IsUpTo}
use Rattle.global_tables.proofs.pieces.rows_of.Given as goal

abbrev pub invariant-loop : goal.invariant-loop
invariant-loop g l = record {
  listed : IfContents (g.W.World.outside l.fn.world).told (λ image. IsUpTo (global image) l.group l.from (map g.T.Row.cell_of l.rows.items));
  told : (g.W.World.outside l.world).told ≡ (g.W.World.outside l.fn.world).told;
  later : IsLater (g.W.World.outside l.fn.world) (g.W.World.outside l.world);
}
