-- Long operations: their hull and their sites, and which of them conflict with what a command reaches.
use Rattle.std.specs.Prelude.{Bool, false, ◌&&◌, List, [], ◌∷◌, ◌++◌, Option, Some, None, option_map, if◌then◌else◌}
use Rattle.cell_world.specs.Texts.{Text}
use Rattle.cell_world.specs.Keys.{same, below, overlaps, is_among, end_below}
use Rattle.cell_world.specs.Spelled.{listed}
use Rattle.cell_world.specs.declared.spans.Span.{Span}
use Rattle.cell_world.specs.declared.spans.Span.TheVariants.{Range, Point}
use Rattle.cell_world.specs.declared.operations.Piece.{Piece}
use Rattle.cell_world.specs.declared.operations.Op.{Op}
use Rattle.cell_world.specs.declared.operations.Extra.{Extra}
use Rattle.cell_world.specs.declared.operations.Extra.TheVariants as extra
use Rattle.cell_world.specs.declared.operations.Reach.{Reach}
use Rattle.cell_world.specs.declared.operations.Reach.TheVariants as reach

-- ---- hulls

-- The least span over two of one map. Two ranges give a range. In a list map a point is joined with itself alone: the old and the new mappings of a lawful operation there are at one key.
abbrev pub joined : Span → Span → Span
joined (Range low high) (Range from to) = Range (if below low from then low else from) (if end_below high to then to else high)
joined (Range low high) (Point at) = Range low high
joined (Point at) (Range low high) = Range low high
joined (Point a) (Point b) = Point a

-- the least span over the pieces; for points it is that where all of them are one
abbrev pub hull_of : List Piece → Option Span
hull_of [] = None
hull_of (p ∷ []) = Some p.span
hull_of (p ∷ q ∷ ps) = option_map (joined p.span) (hull_of (q ∷ ps))

-- ---- sites

abbrev pub locations_of : List Piece → List Text
locations_of [] = []
locations_of (p ∷ ps) = p.location ∷ locations_of ps

-- where the operation puts a job cell: the source and the target of that job
abbrev pub sites_of_extra : Extra → List Text
sites_of_extra extra.None = []
sites_of_extra (extra.JobPut job) = job.source ∷ job.target ∷ []
sites_of_extra (extra.JobDrop number) = []

-- The sites of an operation: those of its mappings, and of the job that it puts. One may stand here twice.
abbrev pub sites_of : Op → List Text
sites_of op = locations_of (listed op.olds) ++ locations_of (listed op.news) ++ sites_of_extra op.extra

-- ---- conflicts

-- What a command reaches conflicts with a logged operation: a span of its map that overlaps its hull, a shard of its map or a site that is one of its sites.
abbrev pub conflicts : Reach → Op → Bool
conflicts reach.Nothing op = false
conflicts (reach.Part name span) op = same name op.map && overlaps span op.hull
conflicts (reach.Shard name location) op = same name op.map && is_among (sites_of op) location
conflicts (reach.Whole location) op = is_among (sites_of op) location

-- an operation reaches its hull
abbrev pub reach_of : Op → Reach
reach_of op = reach.Part op.map op.hull
