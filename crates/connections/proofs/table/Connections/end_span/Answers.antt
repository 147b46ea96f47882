use Rattle.std.proofs.Common.{ap, length, arith, length-set}
use Rattle.connections.specs.Links.{is_under}
use Rattle.connections.proofs.TableLaws.{all_places, one_more_place}
use Rattle.connections.proofs.table.Connections.end_span.Goals as goal

pub loop-place-preserved : goal.loop-place-preserved
loop-place-preserved c = record {
  many = simp length-set c.loop-place.invariant.many;
  before = one_more_place (is_under c.args.map.now c.args.span.now) c.loop-place.place-index c.args.self.now c.loop-place.place-items c.place-item.result _ (omega arith) c.place-item.is c.ended_under.ensures c.loop-place.invariant.before;
}

pub returns : goal.returns
returns c = all_places (is_under c.args.map.now c.args.span.now) c.loop-place.place-index c.args.self.now c.loop-place.place-items (omega (arith, c.self.invariant, ap length c.self.view_is)) c.loop-place.invariant.before
