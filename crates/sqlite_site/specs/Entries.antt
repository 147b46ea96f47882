-- What the rows of a store's table say of its cells.
use Rattle.std.specs.Prelude.{◌≡◌, ◌++◌, ℕ, ℤ, List, [], ◌∷◌, Bool, true, false, Option, Some, None, All, Contains, IsPermutation, IsSorted, filter, take, if◌then◌else◌}
use Rattle.std.specs.Ordering.{nat_cmp}
use Rattle.std.specs.Cmp.Lexicographic.{slice_cmp}
use Rattle.sqlite_value.specs.declared.value.Value.TheVariants.{Blob}
use Rattle.sqlite_value.specs.Order.{Row}
use Rattle.cell_world.specs.Texts.{Text}
use Rattle.cell_world.specs.Keys.{same}
use Rattle.cell_world.specs.Orders.{kind_number, map_of}
use Rattle.cell_world.specs.Spelled.{IsCell}
use Rattle.cell_world.specs.Stores.{own_key}
use Rattle.cell_world.specs.declared.cells.Cell.{Cell}
use Rattle.cell_world.specs.declared.cells.Cell.TheVariants as cell
use Rattle.cell_world.specs.declared.cells.CellKey.{CellKey}
use Rattle.cell_world.specs.declared.cells.CellKey.TheVariants as at
use Rattle.cell_world.specs.declared.changes.Edit.{Edit}
use Rattle.cell_world.specs.declared.changes.Edit.TheVariants.{Put, Delete}
use Rattle.record_form.specs.Layout.{spelling}
use Rattle.record_form.specs.OrderBytes.{ordered}
use Rattle.cell_table.specs.Cells.{Entry, look, others, is_below, is_up_to, is_from}

-- The kind, the order bytes and the value are those of a cell.
pub record Spells (t : ℕ) (k v : List ℕ) (c : Cell) : Type 0 where
  pub cell : IsCell c
  pub kind : t ≡ kind_number (own_key c)
  pub key : k ≡ ordered (own_key c)
  pub value : v ≡ spelling c

-- a row of this kind is the cell's
abbrev pub IsEntryOf : ℕ → Entry → Cell → Type 0
IsEntryOf kind e c = Spells kind e.key e.value c

-- rows of this kind are those of the cells, one by one
abbrev pub AreEntriesOf : ℕ → List Entry → List Cell → Type 0
AreEntriesOf kind [] [] = Unit {0}
AreEntriesOf kind (e ∷ es) (c ∷ cs) = IsEntryOf kind e c × AreEntriesOf kind es cs
AreEntriesOf kind [] (c ∷ cs) = ⊥
AreEntriesOf kind (e ∷ es) [] = ⊥

-- the same of rows of which the key and the value are shown
abbrev pub IsCellOf : ℕ → Row → Cell → Type 0
IsCellOf kind row c = (k w : List ℕ) → row ≡ Blob k ∷ Blob w ∷ [] → Spells kind k w c

abbrev pub AreCellsOf : ℕ → List Row → List Cell → Type 0
AreCellsOf kind [] [] = Unit {0}
AreCellsOf kind (row ∷ rows) (c ∷ cs) = IsCellOf kind row c × AreCellsOf kind rows cs
AreCellsOf kind [] (c ∷ cs) = ⊥
AreCellsOf kind (row ∷ rows) [] = ⊥

-- ---- what calls find among the rows

-- no row is under the key, or one is with the spelling of the cell, which is the key's
abbrev pub IsReadOf : List Entry → CellKey → Option Cell → Type 0
IsReadOf all key None = look all (kind_number key) (ordered key) ≡ None
IsReadOf all key (Some c) = (own_key c ≡ key) × IsCell c × (look all (kind_number key) (ordered key) ≡ Some (spelling c))

-- no row of the kind is at or below the key, or the greatest of them is the cell's
abbrev pub IsLastOf : List Entry → CellKey → Option Cell → Type 0
IsLastOf all key None = All (λ e. is_below (kind_number key) (ordered key) e ≡ false) all
IsLastOf all key (Some c) =
    (e : Entry) × Contains all e × (is_below (kind_number key) (ordered key) e ≡ true) × All (λ d. is_below (kind_number key) (ordered key) d ≡ true → is_up_to d.key e.key ≡ true) all × IsEntryOf (kind_number key) e c

-- the cell where it is of the map of the key
abbrev pub IsWithin : CellKey → Option Cell → Option Cell → Type 0
IsWithin key None found = found ≡ None
IsWithin key (Some c) None = map_of (own_key c) ≡ map_of key → ⊥
IsWithin key (Some c) (Some found) = (found ≡ c) × (map_of (own_key c) ≡ map_of key)

-- the greatest row of the kind at or below the key, where it is of the key's map
abbrev pub IsFloorOf : List Entry → CellKey → Option Cell → Type 0
IsFloorOf all key found = (last : Option Cell) × IsLastOf all key last × IsWithin key last found

-- the first rows of the kind from these order bytes on, in their order: so many, or all where there are fewer
abbrev pub ArePageOf : List Entry → ℕ → List ℕ → ℕ → List Cell → Type 0
ArePageOf all kind from limit found = (sorted : List Entry) × IsPermutation (filter (is_from kind from) all) sorted × IsSorted (λ a b. slice_cmp nat_cmp a.key b.key) sorted × AreEntriesOf kind (take limit sorted) found

-- where the rows of a map from a key on begin; with `past`, those after the rows of the key
abbrev pub rows_from : Text → Text → Bool → List ℕ
rows_from map from past = if past then ordered (at.Piece map from) ++ 255 ∷ [] else ordered (at.Piece map from)

-- the key of the first of the cells, where it is a row of the map
abbrev pub first_key : Text → List Cell → Option Text
first_key map (cell.Row row bytes ∷ cs) = if same map row.map then Some row.key else None
first_key map other = None

-- the key of the first row from there on, where it is of the map
abbrev pub IsNextOf : List Entry → Text → Text → Bool → Option Text → Type 0
IsNextOf all map from past found = (page : List Cell) × ArePageOf all 10 (rows_from map from past) 1 page × (found ≡ first_key map page)

-- ---- changes

-- the rows with the row of a cell in place of the one that was there; it gets some number
abbrev pub with_cell : List Entry → ℤ → Cell → List Entry
with_cell all id c = others (kind_number (own_key c)) (ordered (own_key c)) all ++ record { id = id; kind = kind_number (own_key c); key = ordered (own_key c); value = spelling c } ∷ []

-- the rows are these after the puts and deletes, in order
abbrev pub AreEdited : List Edit → List Entry → List Entry → Type 0
AreEdited [] all next = next ≡ all
AreEdited (Put c ∷ edits) all next = (id : ℤ) × AreEdited edits (with_cell all id c) next
AreEdited (Delete key ∷ edits) all next = AreEdited edits (others (kind_number key) (ordered key) all) next
