use Rattle.cell_world.specs.declared.spans.Span.TheVariants.{Range}
use Rattle.cell_world.proofs.SpanLaws.{overlaps_point, point_overlaps, points_overlap}
use Rattle.image_laws.proofs.stores.overlap_at_points.Goals as goal

pub returns-clause-range_and_point : goal.returns-clause-range_and_point
returns-clause-range_and_point c low high = overlaps_point (Range low high)

pub returns-clause-point_and_range : goal.returns-clause-point_and_range
returns-clause-point_and_range c low high = point_overlaps (Range low high)

pub returns-clause-points : goal.returns-clause-points
returns-clause-points c = points_overlap
