-- The order of cell keys in the program is cell order.
use Rattle.std.specs.Prelude.{◌≡◌, ℕ, refl}
use Rattle.std.specs.declared.cmp.Ordering.{Ordering}
use Rattle.std.specs.declared.cmp.Ordering.TheVariants.{Less, Equal, Greater}
use Rattle.std.specs.Ordering.{ordering_then, nat_cmp}
use Rattle.std.proofs.Common.{ap, ◌∙◌}
use Rattle.cell_world.specs.ByteOrder.{byte_cmp}
use Rattle.cell_world.specs.Orders.{cell_cmp}
use Rattle.cell_world.specs.declared.cells.CellKey.{CellKey}
use Rattle.cell_world.specs.declared.cells.CellKey.TheVariants as at
use Rattle.cell_world.specs.contracts.cells.CellKeyOrd.TheImpl.{ghosts}

-- how the program compares them
abbrev pub derived_cmp : CellKey → CellKey → Ordering
derived_cmp = ghosts.cmp

-- the last field of a key
last : (o : Ordering) → o ≡ ordering_then o Equal
last Less = refl
last Equal = refl
last Greater = refl

-- the last two
two : (a b : Ordering) → ordering_then a b ≡ ordering_then a (ordering_then b Equal)
two a b = ap (ordering_then a) (last b)

-- a last field that is a number, so a list of one
number : (m n : ℕ) → nat_cmp m n ≡ ordering_then (ordering_then (nat_cmp m n) Equal) Equal
number m n = last (nat_cmp m n) ∙ last (ordering_then (nat_cmp m n) Equal)

pub same_order : (x y : CellKey) → derived_cmp x y ≡ cell_cmp x y
same_order (at.Map a) (at.Map b) = last (byte_cmp a b)
same_order (at.Shard a l) (at.Shard b m) = two (byte_cmp a b) (byte_cmp l m)
same_order (at.Table a l) (at.Table b m) = two (byte_cmp a b) (byte_cmp l m)
same_order (at.Piece a l) (at.Piece b m) = two (byte_cmp a b) (byte_cmp l m)
same_order (at.Log m) (at.Log n) = number m n
same_order (at.Job m) (at.Job n) = number m n
same_order at.Counter at.Counter = refl
same_order (at.SiteState a) (at.SiteState b) = last (byte_cmp a b)
same_order (at.Local a l m) (at.Local b k n) = ap (λ o. ordering_then (byte_cmp a b) (ordering_then (byte_cmp l k) o)) (number m n)
same_order (at.Row r) (at.Row s) = ap (λ o. ordering_then (byte_cmp r.map s.map) (ordering_then (byte_cmp r.key s.key) (ordering_then (byte_cmp r.table s.table) o))) (number r.number s.number)
same_order (at.Map a) _ = refl
same_order (at.Shard a l) _ = refl
same_order (at.Table a l) _ = refl
same_order (at.Piece a l) _ = refl
same_order (at.Log m) _ = refl
same_order (at.Job m) _ = refl
same_order at.Counter _ = refl
same_order (at.SiteState a) _ = refl
same_order (at.Local a l m) _ = refl
same_order (at.Row r) _ = refl
