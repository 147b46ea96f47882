use Rattle.map_ops.proofs.RefusalLaws.{unshard_first}
use Rattle.map_ops.proofs.unshard_refusals.unshard_refusal_but_use.Goals as goal

pub returns-clause-first : goal.returns-clause-first
returns-clause-first g c =
    unshard_first _ c.args.known.now c.args.name.now c.args.at.now c.has_map.result c.is_location.result c.is_shard.result c.is_detached.result c.is_suspect.result c.first_of.result
    c.first_of.ensures.first c.has_map.ensures c.is_location.ensures c.is_shard.ensures c.is_detached.ensures c.is_suspect.ensures
