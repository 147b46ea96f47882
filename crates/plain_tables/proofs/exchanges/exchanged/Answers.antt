use Rattle.std.proofs.Common.{◌≡◌, ap, ◌∙◌, rules, BTreeMap}
use Rattle.cell_world.specs.Orders.{pair_cmp}
use Rattle.cell_world.specs.Stores.{Mappings, with_all, without}
use Rattle.cell_world.specs.Spelled.{listed}
use Rattle.cell_world.specs.Texts.{Text}
use Rattle.cell_world.specs.declared.operations.Piece.{Piece}
use Rattle.plain_tables.specs.Tables.{table}
use Rattle.plain_tables.proofs.ExchangeLaws.{table-clone, if_ok}
use Rattle.plain_tables.proofs.exchanges.exchanged.Goals as goal

pub returns : goal.returns
returns c =
    let news = listed c.args.exchange.now.news in
    let olds = listed c.args.exchange.now.olds in
    let copied = c.take_all.ensures ∙ ap (λ (t : Mappings). without t olds) (table-clone pair_cmp _ _ (λ x y h. search rules) (λ x y h. search rules) c.args.mappings.now c.in-Ok.after c.in-Ok.ensures.cases) in
    if_ok (λ (m : BTreeMap (Text × Text) Piece). table pair_cmp m ≡ with_all (table pair_cmp c.take_all.new.mappings) news) (λ m. table pair_cmp m ≡ with_all (without (table pair_cmp c.args.mappings.now) olds) news)
    (λ m h. h ∙ ap (λ (t : Mappings). with_all t news) copied) c.put_all.result c.put_all.ensures
