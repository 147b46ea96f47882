use Rattle.std.proofs.Common.{map, refl, ap, arith}
use Rattle.global_tables.proofs.ListingLaws.{begins_told}
use Rattle.global_tables.proofs.pieces.rows_of.Goals as goal

pub loop-init : goal.loop-init
loop-init g c = record {
  listed = begins_told (g.W.World.outside c.args.world.now).told c.args.group.now c.least-from.result (map g.T.Row.cell_of c.new-rows.result.items) (g.W.World.laws c.args.world.now).cells c.least-from.ensures (ap (map g.T.Row.cell_of) c.new-rows.ensures.items);
  told = refl;
  later = record { locations = refl; faults = λ site. omega arith; sink = omega arith; reads = omega arith };
}
