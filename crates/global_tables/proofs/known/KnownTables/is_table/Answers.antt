use Rattle.std.proofs.Common.{ap, ◌∙◌}
use Rattle.global_tables.specs.Known.{Known}
use Rattle.global_tables.proofs.CopyLaws.{table_found}
use Rattle.global_tables.proofs.known.KnownTables.is_table.Goals as goal

pub returns : goal.returns
returns c = λ s is.
    c.is_some.ensures ∙ table_found c.args.self.now s is c.deref.result.now c.args.map.now c.args.table.now c.find_row.result (c.deref.ensures.value ∙ ap (λ (k : Known). k.tables) c.self.view_is) c.find_row.ensures
