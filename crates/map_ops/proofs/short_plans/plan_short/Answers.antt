use Rattle.map_ops.proofs.PlanLaws.{told_always}
use Rattle.map_ops.proofs.short_plans.plan_short.Goals as goal

pub returns-in-Map-clause-plans : goal.returns-in-Map-clause-plans
returns-in-Map-clause-plans g c = told_always _ c.args.known.now _ c.args.command.now c.plan_map.result c.in-Map.is c.plan_map.ensures.plans

pub returns-in-Unmap-clause-plans : goal.returns-in-Unmap-clause-plans
returns-in-Unmap-clause-plans g c = told_always _ c.args.known.now _ c.args.command.now c.plan_unmap.result c.in-Unmap.is c.plan_unmap.ensures.plans

pub returns-in-Table-clause-plans : goal.returns-in-Table-clause-plans
returns-in-Table-clause-plans g c = told_always _ c.args.known.now _ c.args.command.now c.plan_table.result c.in-Table.is c.plan_table.ensures.plans
