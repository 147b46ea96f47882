-- What a call at a store keeps, and of what rows it speaks.
use Rattle.std.specs.Prelude.{◌≡◌, false, List, [], ◌∷◌, Option, Some, None, option_map, IsTrue}
use Rattle.sqlite.specs.Held.{Held, state}
use Rattle.sqlite.specs.State.{State, HasCleanDisk}
use Rattle.sqlite.specs.Store.{Ghosts}
use Rattle.cell_world.specs.Orders.{kind_number}
use Rattle.cell_world.specs.Stores.{Store, own_key, changed}
use Rattle.cell_world.specs.declared.changes.Edit.{Edit}
use Rattle.cell_world.specs.declared.changes.Edit.TheVariants.{Put, Delete}
use Rattle.record_form.specs.Layout.{spelling}
use Rattle.record_form.specs.OrderBytes.{ordered}
use Rattle.cell_table.specs.Cells.{Entry, Holds, cells_schema}
use Rattle.cell_table.specs.declared.Op.{Op}
use Rattle.sqlite_site.specs.Contents.{HoldsStore}
use Rattle.sqlite_site.specs.Entries.{AreEdited}

-- outside a transaction a call left what there is as it was, whatever it answered
abbrev pub Rests : State → State → Type 0
Rests old new = HasCleanDisk new → IsTrue new.is_open → old.in_transaction ≡ false → old.now.schema ≡ cells_schema → new.now ≡ old.now

-- there was a connection, and is; and if the store did its part, this is so of the rows that the table had
abbrev pub OfRows : {S : Type 0} → Ghosts S → Option (Held S) → Option (Held S) → (List Entry → Type 0) → Type 0
OfRows g (Some old) (Some new) P = HasCleanDisk (state g new) → (all : List Entry) → Holds (state g old).now all → P all
OfRows g (Some old) None P = ⊥
OfRows g None new P = ⊥

-- the same of the store of which the table had the rows
abbrev pub OfStores : {S : Type 0} → Ghosts S → Option (Held S) → Option (Held S) → (Store → Type 0) → Type 0
OfStores g (Some old) (Some new) P = HasCleanDisk (state g new) → (s : Store) → HoldsStore (state g old).now s → P s
OfStores g (Some old) None P = ⊥
OfStores g None new P = ⊥

-- a call left the rows as they were, if the store did its part
abbrev pub Leaves : {S : Type 0} → Ghosts S → Option (Held S) → Option (Held S) → Type 0
Leaves g (Some old) (Some new) = Rests (state g old) (state g new)
Leaves g None None = Unit {0}
Leaves g (Some old) None = ⊥
Leaves g None (Some new) = ⊥

-- a call left no transaction open where none was
abbrev pub Idles : {S : Type 0} → Ghosts S → Option (Held S) → Option (Held S) → Type 0
Idles g (Some old) (Some new) = (state g old).in_transaction ≡ false → (state g new).in_transaction ≡ false
Idles g None None = Unit {0}
Idles g (Some old) None = ⊥
Idles g None (Some new) = ⊥

-- a call made the puts and deletes in order, if the store did its part
abbrev pub Makes : {S : Type 0} → Ghosts S → Option (Held S) → Option (Held S) → List Edit → Type 0
Makes g (Some old) (Some new) edits = HasCleanDisk (state g new) → (all : List Entry) → Holds (state g old).now all → (next : List Entry) × AreEdited edits all next × Holds (state g new).now next
Makes g (Some old) None edits = ⊥
Makes g None new edits = ⊥

-- of the rows of a store a call made those of the changed store, if the store did its part
abbrev pub Changes : {S : Type 0} → Ghosts S → Option (Held S) → Option (Held S) → List Edit → Type 0
Changes g (Some old) (Some new) edits = HasCleanDisk (state g new) → (s : Store) → HoldsStore (state g old).now s → HoldsStore (state g new).now (changed s edits)
Changes g (Some old) None edits = ⊥
Changes g None new edits = ⊥

-- what an edit does to a row
abbrev pub IsOpOf : Op → Edit → Type 0
IsOpOf op (Put c) = (op.kind ≡ kind_number (own_key c)) × (op.key.items ≡ ordered (own_key c)) × (option_map (λ v. v.items) op.value ≡ Some (spelling c))
IsOpOf op (Delete key) = (op.kind ≡ kind_number key) × (op.key.items ≡ ordered key) × (op.value ≡ None)

abbrev pub AreOpsOf : List Op → List Edit → Type 0
AreOpsOf [] [] = Unit {0}
AreOpsOf (op ∷ ops) (edit ∷ edits) = IsOpOf op edit × AreOpsOf ops edits
AreOpsOf [] (edit ∷ edits) = ⊥
AreOpsOf (op ∷ ops) [] = ⊥
