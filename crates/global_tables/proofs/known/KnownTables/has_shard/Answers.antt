use Rattle.std.proofs.Common.{ap, ◌∙◌, rules, tests}
use Rattle.std.proofs.lemmas.Iterator.{YieldsList-from_slice}
use Rattle.std.proofs.lemmas.Iterator.Search.{any_from_yields_List}
use Rattle.cell_world.specs.Keys.{same}
use Rattle.global_tables.specs.Known.{Known}
use Rattle.global_tables.proofs.CopyLaws.{any_found}
use Rattle.global_tables.proofs.known.KnownTables.has_shard.Goals as goal

pub returns : goal.returns
returns c = λ s is.
    any_from_yields_List (λ row. same c.args.map.now row.map) _ _ c.any.result c.any.ensures.ran (YieldsList-from_slice c.deref.result.now cc) (λ x b q k. search (rules, tests))
    ∙ any_found c.args.self.now s is c.deref.result.now c.args.map.now (c.deref.ensures.value ∙ ap (λ (k : Known). k.shards) c.self.view_is)
