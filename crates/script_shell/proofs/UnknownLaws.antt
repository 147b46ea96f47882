-- The first location that the stores name and the world doesn't know is one.
use Rattle.std.proofs.Common.{◌≡◌, true, false, Option, Some, refl, sym, ap, ◌∙◌, subst, List}
use Rattle.std.specs.Prelude.{IsSome}
use Rattle.std.specs.Ordering.{is_gt, ordering_reverse}
use Rattle.std.specs.declared.cmp.Ordering.{Ordering}
use Rattle.std.specs.declared.cmp.Ordering.TheVariants.{Less, Equal, Greater}
use Rattle.cell_world.specs.Texts.{Text}
use Rattle.cell_world.specs.Images.{global, image_at, end_of_trail}
use Rattle.cell_world.specs.Orders.{cell_cmp}
use Rattle.cell_world.specs.Outside.{Outside, Told, TellsNothing, TellsContents, TellsTrail}
use Rattle.cell_world.specs.Stores.{Store, own_key, cell_at}
use Rattle.cell_world.specs.declared.cells.CellKey.{CellKey}
use Rattle.global_tables.proofs.PlaceLaws.{exact_keys}
use Rattle.global_tables.proofs.CellOrder.{cell_total}
use Rattle.plain_model.specs.Headline.{IsFirstUnknown, IsUnknown, TellsUnknown, first_unknown, named_locations}

-- of two keys neither of which is above the other
level : (a b : CellKey) → is_gt (cell_cmp a b) ≡ false → is_gt (cell_cmp b a) ≡ false → a ≡ b
level a b not_above not_below = by (cell_cmp a b) refl
  where
    by : (o : Ordering) → cell_cmp a b ≡ o → a ≡ b
    by Less is = let greater : is_gt (cell_cmp b a) ≡ true = ap is_gt (cell_total.antisymm b a ∙ ap ordering_reverse is) in let both : true ≡ false = sym greater ∙ not_below in absurd cc
    by Equal is = exact_keys a b is
    by Greater is = let both : true ≡ false = sym (ap is_gt is) ∙ not_above in absurd cc

some_is : {A : Type 0} (a b : A) → Some a ≡ Some b → a ≡ b
some_is a b is = cc

named : (o : Option Text) (location : Text) → o ≡ Some location → IsSome o
named o location is = subst IsSome (sym is) refl

one_first : (g : Store) (known : List Text) (a b : Text) → IsFirstUnknown g known a → IsFirstUnknown g known b → a ≡ b
one_first g known a b p q =
    let keys : own_key p.cell ≡ own_key q.cell = level (own_key p.cell) (own_key q.cell) (p.first q.cell q.stands (named _ b q.names)) (q.first p.cell p.stands (named _ a p.names)) in
    let cells : p.cell ≡ q.cell = some_is p.cell q.cell (sym p.stands ∙ ap (cell_at g) keys ∙ q.stands) in
    some_is a b (sym p.names ∙ ap (λ c. first_unknown known (named_locations c)) cells ∙ q.names)

pub one_unknown : (old : Outside) (a b : Text) → IsUnknown old a → TellsUnknown old b → a ≡ b
one_unknown old a b = by old.told
  where
    by : (told : Told) → IsUnknown (record old { told = told }) a → TellsUnknown (record old { told = told }) b → a ≡ b
    by TellsNothing p q = absurd q
    by (TellsContents image) p q = one_first (global image) old.locations a b p q
    by (TellsTrail trail) p q = one_first (global (image_at trail (end_of_trail trail))) old.locations a b p q
