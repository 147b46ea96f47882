-- How far the list of the rows that a transaction alters has come, scanned piece by piece.
use Rattle.std.specs.Prelude.{◌≡◌, ◌⊎◌, ℕ, ◌<◌, ◌≤◌, true, ◌&&◌, Bool, List, [], ◌∷◌, ◌++◌, length, filter, flat_map, Option, Some, None, option_to_list, if◌then◌else◌}
use Rattle.std.specs.FinMap as fin
use Rattle.std.specs.Ordering.{is_lt}
use Rattle.cell_world.specs.Stores.{Locals, own_key}
use Rattle.cell_world.specs.Orders.{cell_cmp, kind_number}
use Rattle.cell_world.specs.declared.operations.Op.{Op}
use Rattle.cell_world.specs.declared.cells.LocalRow.{LocalRow}
use Rattle.cell_world.specs.declared.cells.Cell.{Cell}
use Rattle.cell_world.specs.declared.cells.Cell.TheVariants as cell
use Rattle.cell_world.specs.declared.cells.CellKey.{CellKey}
use Rattle.local_tables.specs.Altering.{alters, altered, is_past}
use Rattle.local_tables.specs.declared.altering.Work.{Work}

-- how many cells are scanned at once
abbrev pub piece_size : ℕ
piece_size = 256

-- the row in a cell, if it is altered
abbrev pub altered_of : Work → Op → Cell → Option LocalRow
altered_of work op (cell.Local row) = if alters work op row then Some row else None
altered_of work op other = None

-- those in the cells, in order
abbrev pub altered_in : Work → Op → List Cell → List LocalRow
altered_in work op cells = flat_map (λ c. option_to_list (altered_of work op c)) cells

-- ---- a piece

-- Of a full piece all but the last one are taken.
pub record LeavesLast (work : Work) (op : Op) (found : List Cell) (olds news : List LocalRow) : Type 0 where
  pub front : List Cell
  pub last : LocalRow
  pub full : piece_size ≤ length found
  pub split : found ≡ front ++ cell.Local last ∷ []
  pub taken : news ≡ olds ++ altered_in work op front

-- The list ends where the piece isn't full, or its last row is past those that are altered. Else the next piece begins with the last row of this one.
abbrev pub TakesRows : Work → Op → List Cell → List LocalRow → List LocalRow → Option CellKey → Type 0
TakesRows work op found olds news None =
    ((length found < piece_size) × (news ≡ olds ++ altered_in work op found)) ⊎ ((leaves : LeavesLast work op found olds news) × (is_past work op leaves.last ≡ true))
TakesRows work op found olds news (Some next) = (leaves : LeavesLast work op found olds news) × (next ≡ own_key (cell.Local leaves.last))

-- where the next piece begins after this row
abbrev pub LeadsOn : Work → Op → LocalRow → Option CellKey → Type 0
LeadsOn work op last None = is_past work op last ≡ true
LeadsOn work op last (Some next) = next ≡ own_key (cell.Local last)

-- ---- the list

abbrev pub is_before : CellKey → LocalRow → Bool
is_before from row = is_lt (cell_cmp (own_key (cell.Local row)) from)

-- The altered rows before a key are listed, in order.
pub record IsUpTo (work : Work) (op : Op) (locals : Locals) (from : CellKey) (listed : List LocalRow) : Type 0 where
  -- the key is one of a local row
  pub kind : kind_number from ≡ 9
  pub rows : listed ≡ filter (λ row. alters work op row && is_before from row) (fin.values locals)

-- All are listed; or those before the key from which on it goes on.
abbrev pub Lists : Work → Op → Locals → List LocalRow → Option CellKey → Type 0
Lists work op locals listed None = listed ≡ altered work op locals
Lists work op locals listed (Some from) = IsUpTo work op locals from listed
