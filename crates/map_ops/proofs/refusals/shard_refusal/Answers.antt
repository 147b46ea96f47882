use Rattle.map_ops.proofs.RefusalLaws.{shard_refuses}
use Rattle.map_ops.proofs.refusals.shard_refusal.Goals as goal

pub returns-clause-refuses : goal.returns-clause-refuses
returns-clause-refuses g c =
    shard_refuses _ c.args.known.now c.args.name.now c.args.at.now c.has_map.result c.is_location.result c.is_detached.result c.is_suspect.result c.is_shard.result c.first_of.result
    c.first_of.ensures.first c.has_map.ensures c.is_location.ensures c.is_detached.ensures c.is_suspect.ensures c.is_shard.ensures
