use Rattle.map_ops.proofs.OverlapLaws.{overlap_below, overlap_first}
use Rattle.map_ops.proofs.overlapping.has_overlap.Goals as goal

pub returns-then-is_overlapping-clause-found : goal.returns-then-is_overlapping-clause-found
returns-then-is_overlapping-clause-found g c =
    overlap_below _ _ c.in_ok-below.ensures.same c.args.name.now c.args.span.now c.low.result.now c.low.ensures c.in_ok-below.below c.in_ok-first.first c.in_ok-below.ensures.found c.in_ok-first.ensures.found
    c.is_overlapping.result c.is_overlapping.ensures c.if-is_overlapping.true

pub returns-else-is_overlapping-clause-found : goal.returns-else-is_overlapping-clause-found
returns-else-is_overlapping-clause-found g c =
    overlap_first _ _ c.in_ok-below.ensures.same c.args.name.now c.args.span.now c.low.result.now c.low.ensures c.in_ok-below.below c.in_ok-first.first c.in_ok-below.ensures.found c.in_ok-first.ensures.found
    c.is_overlapping.result c.is_overlapping.ensures c.if-is_overlapping.false c.is_overlapping-else-is_overlapping.result c.is_overlapping-else-is_overlapping.ensures
