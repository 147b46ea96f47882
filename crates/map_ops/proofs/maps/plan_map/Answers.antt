use Rattle.map_ops.proofs.PlanLaws.{planned_always}
use Rattle.map_ops.proofs.ShortChanges.{map_planned}
use Rattle.map_ops.proofs.maps.plan_map.Goals as goal

pub returns-in-None-clause-plans : goal.returns-in-None-clause-plans
returns-in-None-clause-plans c =
    planned_always c.args.known.now _ _ _ (λ image sound accepts. map_planned image c.args.name c.args.kind c.args.key_type accepts)
    c.map_refusal.result c.in-None.is c.put_cell.result c.put_cell.ensures.plan c.put_cell.ensures.memory (c.map_refusal.ensures.refuses c.args.kind c.args.key_type)
