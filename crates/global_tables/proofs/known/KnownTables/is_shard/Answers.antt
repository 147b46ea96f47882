use Rattle.std.proofs.Common.{ap, ◌∙◌}
use Rattle.global_tables.specs.Known.{Known}
use Rattle.global_tables.proofs.CopyLaws.{shard_found}
use Rattle.global_tables.proofs.known.KnownTables.is_shard.Goals as goal

pub returns : goal.returns
returns c = λ s is.
    c.is_some.ensures ∙ shard_found c.args.self.now s is c.deref.result.now c.args.map.now c.args.location.now c.find_row.result (c.deref.ensures.value ∙ ap (λ (k : Known). k.shards) c.self.view_is) c.find_row.ensures
