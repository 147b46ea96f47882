use Rattle.std.proofs.Common.{ap, ◌∙◌, rules, tests}
use Rattle.std.proofs.lemmas.Iterator.{YieldsList-from_slice}
use Rattle.std.proofs.lemmas.Iterator.Consumers.{YieldsList-from_filter, YieldsList-at, count_from_yields_List}
use Rattle.cell_world.specs.Keys.{same}
use Rattle.global_tables.specs.Known.{Known}
use Rattle.global_tables.proofs.CopyLaws.{tables_counted}
use Rattle.global_tables.proofs.known.KnownTables.table_count.Goals as goal

pub returns : goal.returns
returns c = λ s is.
    count_from_yields_List c.filter.result c.count.result c.count.ensures.ran
    (YieldsList-from_filter _ (λ row. same c.args.map.now row.map) (YieldsList-at c.filter.ensures.source (YieldsList-from_slice c.deref.result.now cc)) c.filter.ensures.closure (λ x b q k. search (rules, tests)))
    ∙ tables_counted c.args.self.now s is c.deref.result.now c.args.map.now (c.deref.ensures.value ∙ ap (λ (k : Known). k.tables) c.self.view_is)
