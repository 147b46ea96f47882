use Rattle.std.proofs.Common.{sym, subst}
use Rattle.std.specs.Prelude.{IsTrue}
use Rattle.cell_world.specs.Spelled.{is_spelled}
use Rattle.cell_world.specs.declared.cells.Cell.TheVariants as cell
use Rattle.cell_world.specs.declared.operations.Op.{Op}
use Rattle.mapping_plans.proofs.AfterChecks.{op_is_long}
use Rattle.mapping_plans.proofs.StatusPlans.{status_stopped, status_refused, status_told, status_spelled}
use Rattle.mapping_plans.proofs.statuses.plan_status.Goals as goal

pub returns-in-Some-clause-plans : goal.returns-in-Some-clause-plans
returns-in-Some-clause-plans g c =
    status_refused _ c.args.known.now c.args.status c.args.name.now c.args.text.now c.args.token.now c.named_mapping.result c.named_mapping.ensures.finds
    c.in-Ok.owned c.in-Ok.is c.status_refusal.result c.status_refusal.ensures.first c.in-Some.refusal c.in-Some.is

pub returns-in-None-clause-plans : goal.returns-in-None-clause-plans
returns-in-None-clause-plans g c =
    status_told _ c.args.known.now c.args.status c.args.name.now c.args.text.now c.args.token.now c.named_mapping.result c.named_mapping.ensures.finds
    c.in-Ok.owned c.in-Ok.is c.status_refusal.result c.status_refusal.ensures.first c.in-None.is _ c.named_mapping.ensures.told (g.W.World.laws c.args.world.now).cells
    c.status_op.result c.status_op.ensures c.plan_op.result c.plan_op.ensures.plans

pub returns-in-None-clause-long : goal.returns-in-None-clause-long
returns-in-None-clause-long g c =
    op_is_long c.status_op.result (subst (λ (op : Op). IsTrue (is_spelled (cell.Log op))) (sym c.status_op.ensures) (status_spelled c.args.status c.in-Ok.owned.piece))
    c.plan_op.result c.plan_op.ensures.plan c.plan_op.ensures.memory

pub returns-in-Err-clause-plans : goal.returns-in-Err-clause-plans
returns-in-Err-clause-plans g c =
    status_stopped _ c.args.known.now c.args.status c.args.name.now c.args.text.now c.args.token.now c.named_mapping.result c.named_mapping.ensures.finds c.in-Err.stop c.in-Err.is
