use Rattle.map_ops.proofs.PlanLaws.{planned_always}
use Rattle.map_ops.proofs.ShortChanges.{table_planned}
use Rattle.map_ops.proofs.tables.plan_table.Goals as goal

pub returns-in-None-clause-plans : goal.returns-in-None-clause-plans
returns-in-None-clause-plans c =
    planned_always c.args.known.now _ _ _ (λ image sound accepts. table_planned image c.args.name c.args.table accepts)
    c.table_refusal.result c.in-None.is c.put_cell.result c.put_cell.ensures.plan c.put_cell.ensures.memory c.table_refusal.ensures.refuses
