use Rattle.std.proofs.Common.{◌∙◌, rules, tests}
use Rattle.std.proofs.lemmas.Iterator.Search.{find_from_yields_List}
use Rattle.std.proofs.lemmas.Iterator.Consumers.{YieldsList-from_rest}
use Rattle.cell_world.specs.Plain.{covers}
use Rattle.plain_tables.proofs.state.PlainTables.covering.Goals as goal

pub returns : goal.returns
returns c = c.copied.ensures ∙ find_from_yields_List (covers c.args.name.now c.args.key.now) _ _ c.find.result c.find.ensures.ran (YieldsList-from_rest _ c.pieces.ensures.rest) (λ x b q k. search (rules, tests))
