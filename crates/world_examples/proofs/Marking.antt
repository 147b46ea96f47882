-- Marks in short tables of local rows.
use Rattle.std.proofs.Common.{◌≡◌, ◌≢◌, ℕ, Bool, true, false, refl, sym, ap, Some, None, List, [], ◌∷◌, T, is_some}
use Rattle.std.specs.Prelude.{IsTrue}
use Rattle.std.specs.List.{AllByRecursion}
use Rattle.std.specs.Ordering.{nat_cmp}
use Rattle.std.specs.FinMap as fin
use Rattle.std.specs.FinMap.{is_sorted}
use Rattle.cell_world.specs.Orders.{local_cmp}
use Rattle.cell_world.specs.Keys.{overlaps, is_among}
use Rattle.cell_world.specs.Meaning.{is_logged}
use Rattle.cell_world.specs.Stores.{local_key}
use Rattle.cell_world.specs.Sound.{HasLocal, HasLog, Matches}
use Rattle.cell_world.specs.Lawful.{IsAttached}
use Rattle.cell_world.specs.Marked.{IsNew, HasMarked, HasNoMark, MarkedAt, MarkTables, NoMarksElsewhereOn, marked_sites, is_mark_of}
use Rattle.cell_world.specs.declared.cells.LocalRow.{LocalRow}
use Rattle.cell_world.specs.declared.cells.Mark.{Mark}
use Rattle.cell_world.specs.declared.cells.Mark.TheVariants.{Plain, Old, New}
use Rattle.cell_world.specs.declared.cells.Status.TheVariants.{Offline}
use Rattle.cell_world.specs.declared.operations.Op.{Op}
use Rattle.cell_world.specs.declared.operations.Piece.{Piece}
use Rattle.cell_world.proofs.OrderLaws.{exact_locals}
use Rattle.world_examples.proofs.Accepting.{b_not_a}
use Rattle.world_examples.specs.Examples.{map_m, site_a, site_b, range, local_row, log_of, locals_of}
use Rattle.world_examples.specs.Sounds.{move_logged}
use Rattle.world_examples.proofs.Tables.{get_of}
use Rattle.world_examples.proofs.Standing.{standing, each_site}
use Rattle.world_examples.proofs.ImageParts.{numbered_ops, keyed_locals}
use Rattle.world_examples.proofs.ShortTables.{local_in, op_in}

-- the operation of this number is in the log, or it isn't
pub logs : (ops : List Op) → T (is_sorted nat_cmp (numbered_ops ops)) → (number : ℕ) → is_logged (log_of ops) number ≡ is_some (fin.find nat_cmp number (numbered_ops ops))
logs ops sorted number = ap is_some (get_of nat_cmp (numbered_ops ops) sorted number)

abbrev pub old_number : Mark → ℕ
old_number (Old p) = p
old_number Plain = 0
old_number New = 0

abbrev pub is_new : Mark → Bool
is_new New = true
is_new (Old p) = false
is_new Plain = false

abbrev pub is_plain : Mark → Bool
is_plain Plain = true
is_plain (Old p) = false
is_plain New = false

module _ (rows : List LocalRow) (sorted : T (is_sorted local_cmp (keyed_locals rows))) where
  -- no row of the mapping has the mark
  pub not_marked : (Is : LocalRow → Type 0) (p : Piece) → AllByRecursion (λ e. Matches e.1 p → Is e.1 → ⊥) (keyed_locals rows) → HasMarked (locals_of rows) Is p → ⊥
  not_marked Is p all h = standing exact_locals (λ k row. Matches row p → Is row → ⊥) (keyed_locals rows) sorted all (local_key h.0) h.0 h.1 h.2 h.3

  -- what holds of each row
  pub each_row : (P : LocalRow → Type 0) → AllByRecursion (λ e. P e.1) (keyed_locals rows) → (row : LocalRow) → HasLocal (locals_of rows) row → P row
  each_row P all row = standing exact_locals (λ k r. P r) (keyed_locals rows) sorted all (local_key row) row

-- ---- the move of [0, 5) from `s/a` to `s/b`

abbrev pub old_row : LocalRow
old_row = local_row 0 5 0 Offline (Old 1)

abbrev pub new_row : LocalRow
new_row = local_row 0 5 1 Offline New

-- its source is marked, where the other rows there have no mark of an operation out of the log over its hull
pub source_marked : (ops : List Op) (rows : List LocalRow) (sorted : T (is_sorted local_cmp (keyed_locals rows))) → fin.find local_cmp (local_key old_row) (keyed_locals rows) ≡ Some old_row
    → AllByRecursion (λ e. e.1.map ≡ map_m → IsTrue (overlaps e.1.span (range 0 5)) → IsTrue (is_mark_of (log_of ops) e.1 e.1.mark)) (keyed_locals rows) → MarkedAt (log_of ops) move_logged site_a (locals_of rows)
source_marked ops rows sorted there others = record {
  olds = ((λ l. (old_row, local_in rows sorted old_row there, record { map = refl; span = refl; status = refl }, refl)), tt);
  news = ((λ l. absurd (b_not_a l)), tt);
  others = each_row rows sorted (λ row. row.map ≡ map_m → IsTrue (overlaps row.span (range 0 5)) → IsTrue (is_mark_of (log_of ops) row row.mark)) others;
}

pub source_done : MarkedAt (log_of (move_logged ∷ [])) move_logged site_a (locals_of (old_row ∷ []))
source_done = source_marked (move_logged ∷ []) (old_row ∷ []) tt refl ((λ m o. logs (move_logged ∷ []) tt 1), tt)

pub target_done : MarkedAt (log_of (move_logged ∷ [])) move_logged site_b (locals_of (new_row ∷ []))
target_done = record {
  olds = ((λ l. absurd (b_not_a (sym l))), tt);
  news = ((λ l. (new_row, local_in (new_row ∷ []) tt new_row refl, record { map = refl; span = refl; status = refl }, (refl, refl))), tt);
  others = each_row (new_row ∷ []) tt (λ row. row.map ≡ map_m → IsTrue (overlaps row.span (range 0 5)) → IsTrue (is_mark_of (log_of (move_logged ∷ [])) row row.mark)) ((λ m o. logs (move_logged ∷ []) tt 1), tt);
}

pub out_of_log : fin.get (log_of []) 1 ≡ None
out_of_log = get_of nat_cmp (numbered_ops []) tt 1

pub in_log : HasLog (log_of (move_logged ∷ [])) move_logged
in_log = op_in (move_logged ∷ []) tt move_logged refl

-- the rows have no mark of it
pub no_mark : (rows : List LocalRow) → T (is_sorted local_cmp (keyed_locals rows)) → AllByRecursion (λ e. (e.1.mark ≢ Old 1) × (IsNew 1 e.1 → ⊥)) (keyed_locals rows) → HasNoMark move_logged (locals_of rows)
no_mark rows sorted all = each_row rows sorted (λ row. (row.mark ≢ Old 1) × (IsNew 1 row → ⊥)) all

-- no row has a mark of an operation but at its sites, by what is so at each of the world's sites
pub no_mark_but : (t : MarkTables) (op : Op) → AllByRecursion (λ l. IsAttached t.locations t.away l → is_among (marked_sites op) l ≡ false → HasNoMark op (t.locals_at l)) t.locations → NoMarksElsewhereOn t op
no_mark_but t op all l here off = each_site (λ l. IsAttached t.locations t.away l → is_among (marked_sites op) l ≡ false → HasNoMark op (t.locals_at l)) t.locations all l here.known here off
