use Rattle.std.proofs.Common.{◌≡◌, ◌↔◌, Bool, true, false, not, IsTrue, sym, ap, ◌∙◌, subst, rules}
use Rattle.std.specs.Option.{option_copied}
use Rattle.cell_world.specs.Texts.{Text}
use Rattle.cell_world.specs.ByteOrder.{byte_eq}
use Rattle.cell_world.specs.declared.cells.CellKey.TheVariants as at
use Rattle.cell_world.specs.declared.cells.RowName.{RowName}
use Rattle.world_memory.specs.First.{IsFirst}
use Rattle.world_memory.proofs.NextKey.{none_next, other_next, is_next}
use Rattle.world_memory.proofs.find.next_key.Goals as goal

same_text : (x y : Text) → IsTrue (byte_eq x y) ↔ x ≡ y
same_text x y = search rules

differ : (x y : Text) → true ≡ not (byte_eq x y) → x ≡ y → ⊥
differ x y e is = let t : byte_eq x y ≡ true = (same_text x y).1 is in let f : true ≡ false = e ∙ ap not t in cc

same_by : (x y : Text) → false ≡ not (byte_eq x y) → x ≡ y
same_by x y e = (same_text x y).0 (by (byte_eq x y) e)
  where
    by : (b : Bool) → false ≡ not b → b ≡ true
    by true h = λ i. true
    by false h = cc

pub returns-in_default : goal.returns-in_default
returns-in_default c stores holds store = none_next (stores c.args.site.0) c.args.map.now c.args.from.now c.args.past store (option_copied c.first.result)
    (subst (λ (r : RowName). IsFirst (stores c.args.site.0) (at.Row r) c.args.past (option_copied c.first.result)) c.beside.ensures (c.first.ensures stores holds store.keyed)) (sym c.row_of.ensures ∙ c.in_default.is)

pub returns-then-ne : goal.returns-then-ne
returns-then-ne c stores holds store = other_next (stores c.args.site.0) c.args.map.now c.args.from.now c.args.past store (option_copied c.first.result) c.in-Some.row
    (subst (λ (r : RowName). IsFirst (stores c.args.site.0) (at.Row r) c.args.past (option_copied c.first.result)) c.beside.ensures (c.first.ensures stores holds store.keyed)) (sym c.row_of.ensures ∙ c.in-Some.is)
    (differ c.in-Some.row.map c.args.map.now c.if-ne.ensures)

pub returns : goal.returns
returns c stores holds store = is_next (stores c.args.site.0) c.args.map.now c.args.from.now c.args.past store (option_copied c.first.result) c.in-Some.row
    (subst (λ (r : RowName). IsFirst (stores c.args.site.0) (at.Row r) c.args.past (option_copied c.first.result)) c.beside.ensures (c.first.ensures stores holds store.keyed)) (sym c.row_of.ensures ∙ c.in-Some.is)
    (same_by c.in-Some.row.map c.args.map.now c.if-ne.ensures)
