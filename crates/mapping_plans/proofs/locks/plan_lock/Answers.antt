use Rattle.mapping_plans.proofs.LockPlans.{lock_gives, lock_checks, lock_asks, token_stopped, token_refused, token_told}
use Rattle.mapping_plans.proofs.locks.plan_lock.Goals as goal

pub returns-in-Some-clause-plans : goal.returns-in-Some-clause-plans
returns-in-Some-clause-plans g c =
    token_refused _ c.args.known.now _ c.args.name.now c.args.text.now _ (lock_gives c.args.name.now c.args.text.now c.args.token) lock_checks (lock_asks c.args.name.now c.args.text.now c.args.token)
    c.named_mapping.result c.named_mapping.ensures.finds c.in-Ok.owned c.in-Ok.is c.lock_refusal.result c.lock_refusal.ensures.first c.in-Some.refusal c.in-Some.is

pub returns-in-None-clause-plans : goal.returns-in-None-clause-plans
returns-in-None-clause-plans g c =
    token_told _ c.args.known.now _ c.args.name.now c.args.text.now _ (lock_gives c.args.name.now c.args.text.now c.args.token) lock_checks (lock_asks c.args.name.now c.args.text.now c.args.token)
    c.named_mapping.result c.named_mapping.ensures.finds c.in-Ok.owned c.in-Ok.is c.lock_refusal.result c.lock_refusal.ensures.first c.in-None.is (g.W.World.laws c.args.world.now).cells
    c.plan_token.result c.plan_token.ensures.plans

pub returns-in-Err-clause-plans : goal.returns-in-Err-clause-plans
returns-in-Err-clause-plans g c =
    token_stopped _ c.args.known.now _ c.args.name.now c.args.text.now _ (lock_gives c.args.name.now c.args.text.now c.args.token) lock_checks (lock_asks c.args.name.now c.args.text.now c.args.token)
    c.named_mapping.result c.named_mapping.ensures.finds c.in-Err.stop c.in-Err.is
