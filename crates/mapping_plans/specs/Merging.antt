-- The mapping that follows another one, as a read of the key at its end finds it, and what is planned of the two.
use Rattle.std.specs.Prelude.{◌≡◌, ◌&&◌, Option, Some, None, Result, Err, if◌then◌else◌}
use Rattle.cell_world.specs.Texts.{Text}
use Rattle.cell_world.specs.Images.{Image}
use Rattle.cell_world.specs.Keys.{same}
use Rattle.cell_world.specs.Meaning.{meaning}
use Rattle.cell_world.specs.Sound.{Sound}
use Rattle.cell_world.specs.declared.operations.Piece.{Piece}
use Rattle.cell_world.specs.declared.spans.High.TheVariants.{At, Max}
use Rattle.cell_world.specs.declared.spans.Span.{Span}
use Rattle.cell_world.specs.declared.spans.Span.TheVariants.{Range, Point}
use Rattle.plain_model.specs.declared.plans.Plan.{Plan}
use Rattle.plain_model.specs.declared.plans.PlanStop.{PlanStop}
use Rattle.plain_model.specs.declared.plans.PlanStop.TheVariants as stop
use Rattle.plain_model.specs.declared.replies.Refusal.TheVariants.{NotMergeable}
use Rattle.plain_model.specs.Refusing.{next_mapping, same_status, same_token}
use Rattle.mapping_plans.specs.Exchanges.{merge_op, PlansSome}

-- the key at which a range ends
abbrev pub end_key : Span → Option Text
end_key (Range low (At end)) = Some end
end_key (Range low Max) = None
end_key (Point at) = None

-- the other mapping, if there is one, and it is of the same map and agrees with the mapping in location, status and token
abbrev pub if_agrees : Piece → Option Piece → Option Piece
if_agrees p None = None
if_agrees p (Some q) = if same p.map q.map && (same p.location q.location && (same_status p.status q.status && same_token p.token q.token)) then Some q else None

-- There is a next mapping, and the two are planned to be one; or there is none, and that is refused.
abbrev pub PlansNext : Piece → Option Piece → Result Plan PlanStop → Image → Type 0
PlansNext p (Some next) result image = PlansSome p (merge_op p next) result image
PlansNext p None result image = result ≡ Err (stop.Refused NotMergeable)

abbrev pub PlansMerge : Piece → Result Plan PlanStop → Image → Type 0
PlansMerge p (Err stop.Store) image = Unit {0}
PlansMerge p (Err stop.Memory) image = Unit {0}
PlansMerge p result image = Sound image → PlansNext p (next_mapping (meaning image) p) result image
