use Rattle.mapping_plans.proofs.LockPlans.{unlock_gives, unlock_checks, unlock_asks, token_stopped, token_refused, token_told}
use Rattle.mapping_plans.proofs.locks.plan_unlock.Goals as goal

pub returns-in-Some-clause-plans : goal.returns-in-Some-clause-plans
returns-in-Some-clause-plans g c =
    token_refused _ c.args.known.now _ c.args.name.now c.args.text.now _ (unlock_gives c.args.name.now c.args.text.now c.args.token) (unlock_checks c.args.token) (unlock_asks c.args.name.now c.args.text.now c.args.token)
    c.named_mapping.result c.named_mapping.ensures.finds c.in-Ok.owned c.in-Ok.is c.unlock_refusal.result c.unlock_refusal.ensures.first c.in-Some.refusal c.in-Some.is

pub returns-in-None-clause-plans : goal.returns-in-None-clause-plans
returns-in-None-clause-plans g c =
    token_told _ c.args.known.now _ c.args.name.now c.args.text.now _ (unlock_gives c.args.name.now c.args.text.now c.args.token) (unlock_checks c.args.token) (unlock_asks c.args.name.now c.args.text.now c.args.token)
    c.named_mapping.result c.named_mapping.ensures.finds c.in-Ok.owned c.in-Ok.is c.unlock_refusal.result c.unlock_refusal.ensures.first c.in-None.is (g.W.World.laws c.args.world.now).cells
    c.plan_token.result c.plan_token.ensures.plans

pub returns-in-Err-clause-plans : goal.returns-in-Err-clause-plans
returns-in-Err-clause-plans g c =
    token_stopped _ c.args.known.now _ c.args.name.now c.args.text.now _ (unlock_gives c.args.name.now c.args.text.now c.args.token) (unlock_checks c.args.token) (unlock_asks c.args.name.now c.args.text.now c.args.token)
    c.named_mapping.result c.named_mapping.ensures.finds c.in-Err.stop c.in-Err.is
