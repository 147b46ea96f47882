-- One scan from the least key of a group finds its first cells, and so counts them up to a limit.
use Rattle.std.proofs.Common.{◌≡◌, inl, inr, ℕ, true, List, length, take, min, sym, ap, ◌∙◌, subst, arith, nat_le}
use Rattle.std.proofs.lemmas.List.{length-take}
use Rattle.cell_world.specs.Lists.{IsOneOf}
use Rattle.cell_world.specs.Images.{Global, global, image_at, end_of_trail}
use Rattle.cell_world.specs.Stores.{Store, IsStore, Stands, own_key}
use Rattle.cell_world.specs.Finding.{IsScan, IsFromOn}
use Rattle.cell_world.specs.Outside.{Told, TellsNothing, TellsContents, TellsTrail, IfContents, TellsCells}
use Rattle.cell_world.specs.declared.cells.Cell.{Cell}
use Rattle.cell_world.specs.declared.cells.CellKey.{CellKey}
use Rattle.global_tables.specs.declared.groups.Group.{Group}
use Rattle.global_tables.specs.Groups.{least_of, is_in, inside, cells_of, count_of}
use Rattle.global_tables.proofs.Rising.{front_is}
use Rattle.global_tables.proofs.CellOrder.{Before, not_itself, before_trans, as_rising}
use Rattle.global_tables.proofs.GroupCells.{rise, stand, there, counted}
use Rattle.global_tables.proofs.Neighbours.{IsNear, kind_in, kind_least, from_least, in_before, in_inside, into_inside, rising_inside, short_inside, whole_inside}

-- ---- one scan

module _ (s : Store) (store : IsStore s) (g : Group) (limit : ℕ) (found : List Cell) (scan : IsScan s (least_of g) limit found) where
  near : (c : Cell) → IsOneOf found c → IsNear g c
  near c h = let f = (scan.stand c h).1 in (f.kind ∙ kind_least g, f.order)

  from_on : (c : Cell) → Stands s c → is_in g (own_key c) ≡ true → IsFromOn (least_of g) c
  from_on c h e = record { kind = kind_in g (own_key c) e ∙ sym (kind_least g); order = from_least g c (store.cells c h).typed e }

  -- What it finds of the group, up to the first other cell, is the group's first cells.
  pub scan_front : inside g found ≡ take limit (cells_of s g)
  scan_front = front_is Before not_itself before_trans limit (inside g found) (cells_of s g) (rising_inside g found (as_rising found scan.rises)) (rise s store.keyed g)
      (λ c h. let i = in_inside g found c h in there s store.keyed g c (scan.stand c i.0).0 i.1)
      (let short = short_inside g found in let most = scan.at_most in omega (arith, short, most))
      (λ c h. let i = stand s store.keyed g c h in elim (scan.all c i.0 (from_on c i.0 i.1)) [
        | inl among ↦ inl (into_inside g found (as_rising found scan.rises) near c among i.1)
        | inr rest ↦
            let whole : inside g found ≡ found = whole_inside g found (λ d m. let n = near d m in in_before g (own_key d) (own_key c) n.0 n.1 (rest.1 d m) i.1) in
            inr (ap length whole ∙ rest.0, λ d m. rest.1 d (subst (λ ds. IsOneOf ds d) whole m))
      ])

  reaches : (n : ℕ) → nat_le limit (min limit n) ≡ nat_le limit n
  reaches n = grind arith

  -- As many are found as asked for exactly where so many stand.
  pub scan_counts : nat_le limit (length (inside g found)) ≡ nat_le limit (count_of s g)
  scan_counts = ap (λ cs. nat_le limit (length cs)) scan_front ∙ ap (nat_le limit) (length-take limit (cells_of s g)) ∙ reaches (length (cells_of s g)) ∙ ap (nat_le limit) (counted s store.keyed g)

-- ---- over what is told

-- the scan says whether so many stand
pub scan_tells : (told : Told) (g : Group) (limit : ℕ) (key : CellKey) (seen found : List Cell) (count : ℕ) → TellsCells told → key ≡ least_of g → seen ≡ found → count ≡ length (inside g seen) → IfContents told (λ image. IsScan (global image) key limit found)
    → IfContents told (λ image. nat_le limit count ≡ nat_le limit (count_of (global image) g))
scan_tells TellsNothing g limit key seen found count cells is saw counts scan = tt
scan_tells (TellsContents image) g limit key seen found count cells is saw counts scan =
    ap (nat_le limit) (counts ∙ ap (λ cs. length (inside g cs)) saw) ∙ scan_counts (global image) (cells Global) g limit found (subst (λ k. IsScan (global image) k limit found) is scan)
scan_tells (TellsTrail trail) g limit key seen found count cells is saw counts scan =
    let image = image_at trail (end_of_trail trail) in
    ap (nat_le limit) (counts ∙ ap (λ cs. length (inside g cs)) saw) ∙ scan_counts (global image) (cells (end_of_trail trail) Global) g limit found (subst (λ k. IsScan (global image) k limit found) is scan)
