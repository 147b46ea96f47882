-- The operations that exchange one mapping or two, and what is planned of them.
use Rattle.std.specs.Prelude.{◌≡◌, Option, Some, None, Result, Ok, Err, IsTrue}
use Rattle.cell_world.specs.Texts.{Text}
use Rattle.cell_world.specs.Images.{Image}
use Rattle.cell_world.specs.Keys.{low_of}
use Rattle.cell_world.specs.Meaning.{meaning}
use Rattle.cell_world.specs.Jobs.{part_of}
use Rattle.cell_world.specs.Plain.{is_location_of}
use Rattle.cell_world.specs.declared.cells.Status.{Status}
use Rattle.cell_world.specs.declared.operations.Extra.TheVariants as extra
use Rattle.cell_world.specs.declared.operations.Op.{Op}
use Rattle.cell_world.specs.declared.operations.Piece.{Piece}
use Rattle.cell_world.specs.declared.operations.Pieces.{Pieces}
use Rattle.cell_world.specs.declared.spans.High.{High}
use Rattle.cell_world.specs.declared.spans.High.TheVariants.{At}
use Rattle.cell_world.specs.declared.spans.Span.{Span}
use Rattle.cell_world.specs.declared.spans.Span.TheVariants.{Range, Point}
use Rattle.op_log.specs.ShortChanges.{IsFreeToken}
use Rattle.plain_model.specs.declared.plans.Plan.{Plan}
use Rattle.plain_model.specs.declared.plans.Plan.TheVariants as plan
use Rattle.plain_model.specs.declared.plans.PlanStop.{PlanStop}
use Rattle.plain_model.specs.declared.plans.PlanStop.TheVariants as stop
use Rattle.plain_model.specs.Steps.{with_status, with_location}

-- ---- operations, without a number yet

abbrev pub no_piece : Pieces
no_piece = record { one = None; two = None }

abbrev pub one_piece : Piece → Pieces
one_piece p = record { one = Some p; two = None }

abbrev pub two_pieces : Piece → Piece → Pieces
two_pieces p q = record { one = Some p; two = Some q }

-- mappings of a map become others, within this hull
abbrev pub exchange_op : Text → Span → Pieces → Pieces → Op
exchange_op name hull olds news = record { number = 0; map = name; hull = hull; olds = olds; news = news; extra = extra.None }

-- the mapping goes
abbrev pub delete_op : Piece → Op
delete_op p = exchange_op p.map p.span (one_piece p) no_piece

-- the mapping gets this status
abbrev pub status_op : Status → Piece → Op
status_op status p = exchange_op p.map p.span (one_piece p) (one_piece (with_status status p))

-- the mapping is at this location
abbrev pub move_op : Text → Piece → Op
move_op location p = exchange_op p.map p.span (one_piece p) (one_piece (with_location location p))

-- the mapping is cut at the key, where it is a range, from `low` up to `end`
abbrev pub split_range : Piece → Text → Text → High → Op
split_range p low key end = exchange_op p.map p.span (one_piece p) (two_pieces (part_of p low (At key)) (part_of p key end))

abbrev pub split_within : Piece → Text → Span → Option Op
split_within p key (Range low end) = Some (split_range p low key end)
split_within p key (Point at) = None

abbrev pub split_op : Piece → Text → Option Op
split_op p key = split_within p key p.span

-- the mapping and the next one, where that is a range up to `end`, are one
abbrev pub merge_range : Piece → Piece → High → Op
merge_range p next end = exchange_op p.map (part_of p (low_of p.span) end).span (two_pieces p next) (one_piece (part_of p (low_of p.span) end))

abbrev pub merge_within : Piece → Piece → Span → Option Op
merge_within p next (Range low end) = Some (merge_range p next end)
merge_within p next (Point at) = None

abbrev pub merge_op : Piece → Piece → Option Op
merge_op p next = merge_within p next next.span

-- ---- what is planned

-- The operation is planned, the world knows the location of the mapping, and the mapping's token is no job's; or not both are so, and there is no plan.
abbrev pub PlansOp : Piece → Op → Result Plan PlanStop → Image → Type 0
PlansOp piece op (Ok p) image = (p ≡ plan.Long op) × IsTrue (is_location_of (meaning image) piece.location) × IsFreeToken piece.token
PlansOp piece op (Err e) image = (e ≡ stop.Memory) × (IsTrue (is_location_of (meaning image) piece.location) → IsFreeToken piece.token → ⊥)

-- so where there is an operation; else there is no plan
abbrev pub PlansSome : Piece → Option Op → Result Plan PlanStop → Image → Type 0
PlansSome piece (Some op) result image = PlansOp piece op result image
PlansSome piece None (Ok p) image = ⊥
PlansSome piece None (Err e) image = e ≡ stop.Memory
