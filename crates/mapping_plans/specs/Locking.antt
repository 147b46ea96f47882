-- What is planned of another token for a mapping.
use Rattle.std.specs.Prelude.{◌≡◌, [], ◌∷◌, Option, Result, Ok, Err}
use Rattle.cell_world.specs.declared.cells.Cell.TheVariants as cell
use Rattle.cell_world.specs.declared.cells.Token.{Token}
use Rattle.cell_world.specs.declared.changes.Edit.TheVariants.{Put}
use Rattle.cell_world.specs.declared.operations.Piece.{Piece}
use Rattle.cell_world.specs.declared.operations.Reach.TheVariants as reach
use Rattle.op_log.specs.ShortChanges.{IsFreeToken}
use Rattle.plain_model.specs.declared.plans.Plan.{Plan}
use Rattle.plain_model.specs.declared.plans.Plan.TheVariants as plan
use Rattle.plain_model.specs.declared.plans.PlanStop.{PlanStop}
use Rattle.plain_model.specs.declared.plans.PlanStop.TheVariants as stop
use Rattle.plain_model.specs.declared.replies.Reply.TheVariants as reply
use Rattle.plain_model.specs.Steps.{with_token}

-- the mapping is put with its new token, or with none
abbrev pub token_plan : Piece → Option Token → Plan
token_plan p token = plan.Short (reach.Part p.map p.span) (Put (cell.Piece (with_token token p)) ∷ []) reply.Ok

-- It is planned, and neither token is a job's; or there is no plan.
abbrev pub PlansToken : Piece → Option Token → Result Plan PlanStop → Type 0
PlansToken piece token (Ok p) = (p ≡ token_plan piece token) × IsFreeToken piece.token × IsFreeToken token
PlansToken piece token (Err e) = e ≡ stop.Memory
