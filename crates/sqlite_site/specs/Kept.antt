-- What is kept of a site's store where its kind of store tells its cells.
use Rattle.std.specs.Prelude.{◌≡◌, List, [], ◌∷◌, ℕ, false, Option, Some, None, IsTrue, Result, Ok, Err}
use Rattle.sqlite_value.specs.Order.{Row, column, bytes}
use Rattle.sqlite.specs.Held.{Held, state}
use Rattle.sqlite.specs.State.{HasCleanDisk}
use Rattle.sqlite.specs.Store.{Ghosts}
use Rattle.cell_world.specs.Stores.{Store, put, changed, empty_store}
use Rattle.cell_world.specs.declared.cells.Cell.{Cell}
use Rattle.cell_world.specs.declared.changes.Edit.{Edit}
use Rattle.cell_world.specs.declared.outside.WorldError.{WorldError}
use Rattle.record_form.specs.Kinds.{cell_at}
use Rattle.record_form.specs.Reading.{whole}
use Rattle.sqlite_site.specs.Contents.{HoldsStore}

-- A connection over the store has always done its part, and is open.
abbrev pub IsSteady : {S : Type 0} → Ghosts S → Type 0
IsSteady {S} g = (h : Held S) → HasCleanDisk (state g h) × IsTrue (state g h).is_open

-- the store with what was read of a value
abbrev pub with_read : Result Cell ℕ → Store → Store
with_read (Ok c) s = put s c
with_read (Err left) s = s

-- the store of the cells that the rows of a table spell
unfoldable pub store_in : List Row → Store
store_in [] = empty_store
store_in (row ∷ rows) = with_read (whole cell_at (bytes (column row 3))) (store_in rows)

-- that of the table of a connection; an empty one where there is none
unfoldable pub store_of : {S : Type 0} → Ghosts S → Option (Held S) → Store
store_of g None = empty_store
store_of g (Some h) = store_in ((state g h).now.trees 0)

-- The table has the rows of a store, and no transaction is open.
pub record IsIdle {S : Type 0} (g : Ghosts S) (h : Held S) : Type 0 where
  pub store : Store
  pub holds : HoldsStore (state g h).now store
  pub idle : (state g h).in_transaction ≡ false

-- No rows are there, and no transaction is open.
abbrev pub IsNew : {S : Type 0} → Ghosts S → Held S → Type 0
IsNew g h = HoldsStore (state g h).now empty_store × ((state g h).in_transaction ≡ false)

-- There is a connection, and this is so of it.
abbrev pub IsKept : {S : Type 0} → Ghosts S → Option (Held S) → Type 0
IsKept g None = ⊥
IsKept g (Some h) = IsIdle g h

-- the store after a commit
abbrev pub committed : Result (Unit {0}) WorldError → Store → List Edit → Store
committed (Ok done) s edits = changed s edits
committed (Err error) s edits = s
