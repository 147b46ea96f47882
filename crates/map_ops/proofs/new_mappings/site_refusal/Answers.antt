use Rattle.map_ops.proofs.RefusalLaws.{site_first}
use Rattle.map_ops.proofs.new_mappings.site_refusal.Goals as goal

pub returns-clause-first : goal.returns-clause-first
returns-clause-first g c =
    site_first _ c.args.known.now c.args.name.now c.args.at.now c.is_location.result c.is_shard.result c.is_detached.result c.is_suspect.result c.first_of.result
    c.first_of.ensures.first c.is_location.ensures c.is_shard.ensures c.is_detached.ensures c.is_suspect.ensures
