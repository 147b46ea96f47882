-- The rows of a table as a store of cells.
use Rattle.std.specs.Prelude.{List, Contains}
use Rattle.sqlite.specs.Effect.{Database}
use Rattle.cell_world.specs.Stores.{Store, IsStore, Stands}
use Rattle.cell_world.specs.declared.cells.Cell.{Cell}
use Rattle.cell_table.specs.Cells.{Entry, Holds}
use Rattle.sqlite_site.specs.Entries.{IsEntryOf}

-- The rows are those of the cells of a store.
pub record AreRowsOf (all : List Entry) (s : Store) : Type 0 where
  -- nothing but cells stands in the store, each under its own key
  pub store : IsStore s
  -- each row is that of a cell that stands there
  pub rows : (e : Entry) → Contains all e → (c : Cell) × Stands s c × IsEntryOf e.kind e c
  -- and each cell that stands there has its row
  pub cells : (c : Cell) → Stands s c → (e : Entry) × Contains all e × IsEntryOf e.kind e c

-- The database is a table of the rows of a store.
abbrev pub HoldsStore : Database → Store → Type 0
HoldsStore db s = (all : List Entry) × Holds db all × AreRowsOf all s
