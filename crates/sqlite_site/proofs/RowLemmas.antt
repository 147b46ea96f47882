-- Cells and rows, one by one.
use Rattle.std.proofs.Common.{◌≡◌, ℕ, ◌+◌, ◌<◌, List, [], ◌∷◌, ◌++◌, map, take, length, get_or, Some, None, slice_get, refl, sym, subst, ◌∙◌}
use Rattle.std.proofs.lemmas.List.{take_more}
use Rattle.sqlite_value.specs.Order.{Row}
use Rattle.cell_world.specs.Orders.{kind_number}
use Rattle.cell_world.specs.declared.cells.Cell.{Cell}
use Rattle.cell_world.specs.declared.cells.CellKey.{CellKey}
use Rattle.record_form.specs.OrderBytes.{ordered}
use Rattle.cell_table.specs.Cells.{Entry, shown, IsFloor, IsScan}
use Rattle.sqlite_site.specs.Entries.{IsCellOf, AreCellsOf, AreEntriesOf, IsLastOf, ArePageOf}

cells_push : (kind : ℕ) (rows : List Row) (cells : List Cell) (row : Row) (c : Cell) → AreCellsOf kind rows cells → IsCellOf kind row c → AreCellsOf kind (rows ++ row ∷ []) (cells ++ c ∷ [])
cells_push kind [] [] row c are is = (is, tt)
cells_push kind (r ∷ rs) (d ∷ ds) row c are is = (are.0, cells_push kind rs ds row c are.1 is)
cells_push kind [] (d ∷ ds) row c are is = absurd are
cells_push kind (r ∷ rs) [] row c are is = absurd are

-- one row more
pub cells_more : (kind : ℕ) (rows : List Row) (cells : List Cell) (i : ℕ) (row : Row) (c : Cell) → i < length rows → row ≡ get_or rows i row → AreCellsOf kind (take i rows) cells → IsCellOf kind row c → AreCellsOf kind (take (i + 1) rows) (cells ++ c ∷ [])
cells_more kind rows cells i row c within is are one =
    subst (λ rs. AreCellsOf kind rs (cells ++ c ∷ [])) (sym (take_more rows i row within)) (cells_push kind (take i rows) cells (get_or rows i row) c are (subst (λ r. IsCellOf kind r c) is one))

-- ---- the greatest row

pub last_none : (key : CellKey) (all : List Entry) (rows : List Row) → None ≡ slice_get rows 0 → IsFloor all (kind_number key) (ordered key) rows → IsLastOf all key None
last_none key all [] e floor = floor
last_none key all (r ∷ rs) e floor = absurd cc

pub last_some : (key : CellKey) (all : List Entry) (rows : List Row) (row : Row) (c : Cell) → Some row ≡ slice_get rows 0 → IsFloor all (kind_number key) (ordered key) rows → IsCellOf (kind_number key) row c → IsLastOf all key (Some c)
last_some key all [] row c e floor is = absurd cc
last_some key all (r ∷ []) row c e floor is = let same : row ≡ r = cc in (floor.0, floor.1, floor.2, floor.4, is floor.0.key floor.0.value (same ∙ floor.3))
last_some key all (r ∷ s ∷ rs) row c e floor is = absurd floor

-- ---- the first rows

entries_are : (kind : ℕ) (es : List Entry) (cells : List Cell) → AreCellsOf kind (map shown es) cells → AreEntriesOf kind es cells
entries_are kind [] [] are = tt
entries_are kind (e ∷ es) (c ∷ cs) are = (are.0 e.key e.value refl, entries_are kind es cs are.1)
entries_are kind [] (c ∷ cs) are = absurd are
entries_are kind (e ∷ es) [] are = absurd are

pub page_is : (all : List Entry) (kind : ℕ) (from : List ℕ) (limit : ℕ) (rows : List Row) (cells : List Cell) → IsScan all kind from limit rows → AreCellsOf kind rows cells → ArePageOf all kind from limit cells
page_is all kind from limit rows cells scan are = (scan.0, scan.1, scan.2, entries_are kind (take limit scan.0) cells (subst (λ rs. AreCellsOf kind rs cells) scan.3 are))
