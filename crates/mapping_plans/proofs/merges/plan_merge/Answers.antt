use Rattle.mapping_plans.proofs.MergePlans.{merge_stopped, merge_locked, merge_told}
use Rattle.cell_world.specs.Outside.{Told, IfContents}
use Rattle.std.proofs.Common.{subst}
use Rattle.mapping_plans.specs.Merging.{PlansMerge}
use Rattle.mapping_plans.proofs.merges.plan_merge.Goals as goal

pub returns-then-is_locked-clause-plans : goal.returns-then-is_locked-clause-plans
returns-then-is_locked-clause-plans g c =
    merge_locked _ c.args.known.now c.args.name.now c.args.text.now c.args.token.now c.named_mapping.result c.named_mapping.ensures.finds
    c.in-Ok.owned c.in-Ok.is c.is_locked.result c.is_locked.ensures c.if-is_locked.true

pub returns-else-is_locked-clause-plans : goal.returns-else-is_locked-clause-plans
returns-else-is_locked-clause-plans g c =
    merge_told _ c.args.known.now c.args.name.now c.args.text.now c.args.token.now c.named_mapping.result c.named_mapping.ensures.finds
    c.in-Ok.owned c.in-Ok.is c.is_locked.result c.is_locked.ensures c.if-is_locked.false (g.W.World.laws c.args.world.now).cells
    c.plan_with_next.result (subst (λ (t : Told). IfContents t (PlansMerge c.in-Ok.owned.piece c.plan_with_next.result)) c.named_mapping.ensures.told c.plan_with_next.ensures.plans)

pub returns-in-Err-clause-plans : goal.returns-in-Err-clause-plans
returns-in-Err-clause-plans g c =
    merge_stopped _ c.args.known.now c.args.name.now c.args.text.now c.args.token.now c.named_mapping.result c.named_mapping.ensures.finds c.in-Err.stop c.in-Err.is
