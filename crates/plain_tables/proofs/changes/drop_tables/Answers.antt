use Rattle.std.proofs.Common.{rules, tests, not}
use Rattle.std.proofs.lemmas.Fn.{filter_same}
use Rattle.cell_world.specs.Texts.{Text}
use Rattle.cell_world.specs.Keys.{same}
use Rattle.cell_world.proofs.OrderLaws.{pairs_total, exact_text_pairs}
use Rattle.plain_tables.proofs.SetLaws.{retain-keys_in}
use Rattle.plain_tables.proofs.changes.drop_tables.Goals as goal

pub returns : goal.returns
returns c =
    let stays = λ (table : Text × Text). not (same c.args.name.now table.0) in
    retain-keys_in pairs_total exact_text_pairs c.args.tables.now c.retain.new.self stays (filter_same _ stays _ (λ x b f' t. search (rules, tests)) c.args.tables.now.keys c.retain.new.self.keys c.retain.ensures.filtered)
