-- What is planned where no refusal holds.
use Rattle.std.proofs.Common.{◌≡◌, Option, None, sym, subst}
use Rattle.std.specs.Prelude.{Result, Ok, Err, IfOk, IfErr, List}
use Rattle.cell_world.specs.Images.{Image}
use Rattle.cell_world.specs.Outside.{Told, IfContents}
use Rattle.cell_world.specs.Sound.{Sound}
use Rattle.cell_world.specs.declared.changes.Edit.{Edit}
use Rattle.cell_world.specs.declared.operations.Reach.{Reach}
use Rattle.cell_world.proofs.ContentsLaws.{contents_all, contents_weaker}
use Rattle.global_tables.specs.Known.{Known}
use Rattle.plain_model.specs.declared.commands.Command.{Command}
use Rattle.plain_model.specs.declared.plans.Plan.{Plan}
use Rattle.plain_model.specs.declared.plans.Plan.TheVariants as plan
use Rattle.plain_model.specs.declared.plans.PlanStop.{PlanStop}
use Rattle.plain_model.specs.declared.plans.PlanStop.TheVariants as stop
use Rattle.plain_model.specs.declared.replies.Reply.TheVariants as reply
use Rattle.plain_model.specs.declared.replies.Refusal.{Refusal}
use Rattle.map_ops.specs.Planning.{Refuses, RefusesWith, RefusesOf, PlansChange, Plans, PlansWith, PlansOf}

-- A change that makes what the plain step makes wherever that doesn't refuse is planned where it doesn't; or there was no memory for it.
module _ (known : Known) (c : Command) (reached : Reach) (change : List Edit)
    (law : (image : Image) → Sound image → Refuses c None image → PlansChange c reached change reply.Ok image)
    (refused : Option Refusal) (none : refused ≡ None) (result : Result Plan PlanStop)
    (made : IfOk result (λ (p : Plan). p ≡ plan.Short reached change reply.Ok)) (unmade : IfErr result (λ (e : PlanStop). e ≡ stop.Memory)) where
  planned : (image : Image) → RefusesWith known c refused image → PlansWith known c result image
  planned image refuses sound copy = by result made unmade
    where
      by : (r : Result Plan PlanStop) → IfOk r (λ (p : Plan). p ≡ plan.Short reached change reply.Ok) → IfErr r (λ (e : PlanStop). e ≡ stop.Memory) → Plans c r image
      by (Ok p) m u = subst (λ (p : Plan). Plans c (Ok p) image) (sym m) (law image sound (subst (λ (r : Option Refusal). Refuses c r image) none (refuses copy)))
      by (Err e) m u = subst (λ (e : PlanStop). Plans c (Err e) image) (sym u) tt

  pub planned_always : RefusesOf known c refused → PlansOf known c result
  planned_always refuses image = planned image (refuses image)

  pub planned_told : (told : Told) → IfContents told (RefusesWith known c refused) → IfContents told (PlansWith known c result)
  planned_told told = contents_weaker told (RefusesWith known c refused) (PlansWith known c result) planned

-- what is so on whatever image is so of what is told
pub told_always : (told : Told) (known : Known) (c asked : Command) (result : Result Plan PlanStop) → asked ≡ c → PlansOf known c result → IfContents told (PlansWith known asked result)
told_always told known c asked result is plans = subst (λ (d : Command). IfContents told (PlansWith known d result)) (sym is) (contents_all told (PlansWith known c result) plans)
