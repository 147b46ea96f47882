-- How far a list of the cells of a group has come, scanned piece by piece.
use Rattle.std.specs.Prelude.{◌≡◌, ℕ, ◌<◌, ◌≤◌, false, List, [], ◌∷◌, ◌++◌, length, filter, Option, Some, None}
use Rattle.std.specs.Ordering.{is_lt}
use Rattle.cell_world.specs.Stores.{Store, own_key}
use Rattle.cell_world.specs.Orders.{cell_cmp, kind_number}
use Rattle.cell_world.specs.declared.cells.Cell.{Cell}
use Rattle.cell_world.specs.declared.cells.CellKey.{CellKey}
use Rattle.global_tables.specs.declared.groups.Group.{Group}
use Rattle.global_tables.specs.Groups.{kind_of, least_of, inside, cells_of}

-- how many cells are scanned at once
abbrev pub piece_size : ℕ
piece_size = 256

-- those before a key
abbrev pub cells_before : CellKey → List Cell → List Cell
cells_before key cells = filter (λ c. is_lt (cell_cmp (own_key c) key)) cells

-- All cells of the group before the key are listed.
pub record IsUpTo (s : Store) (g : Group) (from : CellKey) (listed : List Cell) : Type 0 where
  -- the key is of the group's kind, and not below the least one
  pub kind : kind_number from ≡ kind_of g
  pub least : is_lt (cell_cmp from (least_of g)) ≡ false
  -- they are listed, in cell order
  pub cells : listed ≡ cells_before from (cells_of s g)

-- All are listed; or those before the key from which on it goes on.
abbrev pub Lists : Store → Group → List Cell → Option CellKey → Type 0
Lists s g listed None = listed ≡ cells_of s g
Lists s g listed (Some from) = IsUpTo s g from listed

-- Where a whole piece is of the group, all but its last cell are listed, and the next piece begins with that one.
pub record LeavesLast (g : Group) (found olds news : List Cell) (next : CellKey) : Type 0 where
  pub front : List Cell
  pub last : Cell
  pub whole : piece_size ≤ length (inside g found)
  pub split : inside g found ≡ front ++ last ∷ []
  pub listed : news ≡ olds ++ front
  pub from : next ≡ own_key last

-- what is listed of a piece that was found, and where it goes on
abbrev pub TakesPiece : Group → List Cell → List Cell → List Cell → Option CellKey → Type 0
TakesPiece g found olds news None = (length (inside g found) < piece_size) × (news ≡ olds ++ inside g found)
TakesPiece g found olds news (Some next) = LeavesLast g found olds news next
