-- Where in a list of cells in cell order the cell of a key stands, or would stand.
use Rattle.std.specs.Prelude.{◌≡◌, ℕ, ◌<◌, ◌≤◌, List, length, take, drop, slice_index_or}
use Rattle.std.specs.declared.cmp.Ordering.TheVariants.{Less}
use Rattle.cell_world.specs.Lists.{IsOneOf}
use Rattle.cell_world.specs.Orders.{cell_cmp}
use Rattle.cell_world.specs.Stores.{own_key}
use Rattle.cell_world.specs.declared.cells.Cell.{Cell}
use Rattle.cell_world.specs.declared.cells.CellKey.{CellKey}

-- the cell at this place stands under the key
pub record StandsAt (cells : List Cell) (key : CellKey) (i : ℕ) : Type 0 where
  pub within : i < length cells
  pub own : (c : Cell) → own_key (slice_index_or cells i c) ≡ key

-- no cell stands under the key: those before this place are before it, and the others after it
pub record GoesAt (cells : List Cell) (key : CellKey) (i : ℕ) : Type 0 where
  pub within : i ≤ length cells
  pub below : (c : Cell) → IsOneOf (take i cells) c → cell_cmp (own_key c) key ≡ Less
  pub above : (c : Cell) → IsOneOf (drop i cells) c → cell_cmp key (own_key c) ≡ Less
