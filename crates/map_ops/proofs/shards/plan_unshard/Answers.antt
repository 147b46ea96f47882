use Rattle.map_ops.proofs.PlanLaws.{planned_told}
use Rattle.map_ops.proofs.ShortChanges.{unshard_planned}
use Rattle.map_ops.proofs.shards.plan_unshard.Goals as goal

pub returns-in-Ok-None-clause-plans : goal.returns-in-Ok-None-clause-plans
returns-in-Ok-None-clause-plans g c =
    planned_told c.args.known.now _ _ _ (λ image sound accepts. unshard_planned image c.args.name c.args.at accepts)
    c.in-Ok-None.field-0 c.in-Ok-None.field-0-is c.delete_cell.result c.delete_cell.ensures.plan c.delete_cell.ensures.memory _ c.in-Ok-None.ensures.refuses
