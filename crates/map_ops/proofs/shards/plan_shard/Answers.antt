use Rattle.map_ops.proofs.PlanLaws.{planned_told}
use Rattle.map_ops.proofs.ShortChanges.{shard_planned}
use Rattle.map_ops.proofs.shards.plan_shard.Goals as goal

pub returns-in-None-clause-plans : goal.returns-in-None-clause-plans
returns-in-None-clause-plans g c =
    planned_told c.args.known.now _ _ _ (λ image sound accepts. shard_planned image c.args.name c.args.at accepts)
    c.shard_refusal.result c.in-None.is c.put_cell.result c.put_cell.ensures.plan c.put_cell.ensures.memory _ c.shard_refusal.ensures.refuses
