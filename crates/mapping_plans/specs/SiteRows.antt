-- The rows under the keys of a mapping, as a read of its site finds them.
use Rattle.std.specs.Prelude.{◌≡◌, Bool, true, false, Option, Some, Result, Ok, Err, IsTrue}
use Rattle.cell_world.specs.Texts.{Text}
use Rattle.cell_world.specs.Images.{Image, global}
use Rattle.cell_world.specs.Keys.{contains}
use Rattle.cell_world.specs.Meaning.{meaning}
use Rattle.cell_world.specs.Plain.{is_location_of}
use Rattle.cell_world.specs.Sound.{Sound, HasPiece, IsAttachedIn}
use Rattle.cell_world.specs.declared.operations.Op.{Op}
use Rattle.cell_world.specs.declared.operations.Piece.{Piece}
use Rattle.cell_world.specs.declared.spans.Span.{Span}
use Rattle.plain_model.specs.declared.plans.Plan.{Plan}
use Rattle.plain_model.specs.declared.plans.PlanStop.{PlanStop}
use Rattle.plain_model.specs.declared.plans.PlanStop.TheVariants as stop
use Rattle.plain_model.specs.declared.replies.Refusal.TheVariants.{RowsPresent}
use Rattle.plain_model.specs.Refusing.{if_there, rows_present}
use Rattle.mapping_plans.specs.Exchanges.{PlansOp}

-- there is a key, and the span contains it
abbrev pub is_over : Span → Option Text → Bool
is_over span key = if_there (contains span) key

-- The world knows the location; and where the image is sound, the mapping stands, and its site is attached, that is whether a row stands under a key of the mapping.
pub record HasRowsUnder (piece : Piece) (has : Bool) (image : Image) : Type 0 where
  pub known : IsTrue (is_location_of (meaning image) piece.location)
  pub present : Sound image → HasPiece (global image).mappings piece → IsAttachedIn image piece.location → has ≡ (rows_present (meaning image) (Some piece)).0

-- there is no plan, and no refusal
abbrev pub IsFault : PlanStop → Type 0
IsFault (stop.Refused r) = ⊥
IsFault stop.Store = Unit {0}
IsFault stop.Memory = Unit {0}

-- What is planned where nothing but rows may keep the operation from the mapping.
abbrev pub PlansIfEmpty : Piece → Op → Result Plan PlanStop → Image → Type 0
PlansIfEmpty piece op (Ok p) image = HasRowsUnder piece false image × PlansOp piece op (Ok p) image
PlansIfEmpty piece op (Err (stop.Refused r)) image = (r ≡ RowsPresent) × HasRowsUnder piece true image
PlansIfEmpty piece op (Err stop.Store) image = Unit {0}
PlansIfEmpty piece op (Err stop.Memory) image = Unit {0}
