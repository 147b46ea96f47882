-- What is kept of a store that tells its cells.
use Rattle.std.proofs.Common.{◌≡◌, ℕ, ℤ, pos, false, List, [], ◌∷◌, map, Some, None, Option, Result, Ok, Err, OnOk, OnErr, IfOk, Less, int_cmp, refl, sym, ap, ◌∙◌, subst}
use Rattle.std.specs.Prelude.{Contains}
use Rattle.std.specs.List.{AllByRecursion-prop}
use Rattle.std.proofs.Math.Logic.{∥∥₁_elim, ∥∥₁_map}
use Rattle.std.proofs.Props.{props}
use Rattle.sqlite_value.specs.declared.value.Value.{Value}
use Rattle.sqlite_value.specs.declared.value.Value.TheVariants.{Null, Int, Real, Text, Blob}
use Rattle.sqlite_value.specs.Order.{Row, column, bytes}
use Rattle.sqlite_trees.specs.Tree.{IsAscending}
use Rattle.sqlite.specs.Effect.{Database}
use Rattle.sqlite.specs.Held.{Held, state}
use Rattle.sqlite.specs.State.{HasCleanDisk}
use Rattle.sqlite.specs.Store.{Ghosts}
use Rattle.cell_world.specs.Spelled.{IsCell}
use Rattle.cell_world.specs.Stores.{Store, IsStore, changed, empty_store}
use Rattle.cell_world.specs.declared.cells.Cell.{Cell}
use Rattle.cell_world.specs.declared.changes.Edit.{Edit}
use Rattle.cell_world.specs.declared.changes.Edit.TheVariants.{Put}
use Rattle.cell_world.specs.declared.outside.WorldError.{WorldError}
use Rattle.record_form.specs.Kinds.{cell_at}
use Rattle.record_form.specs.Layout.{spelling}
use Rattle.record_form.specs.Reading.{whole}
use Rattle.record_form.proofs.CellTexts.{cell_reader}
use Rattle.record_form.proofs.Whole.{whole_again}
use Rattle.world_memory.specs.Propositions.{change}
use Rattle.cell_table.specs.Cells.{Entry, row_of, is_at, Rises, AreApart, Holds}
use Rattle.sqlite_site.specs.Contents.{HoldsStore}
use Rattle.sqlite_site.specs.Entries.{IsEntryOf}
use Rattle.sqlite_site.specs.Held.{Rests, OfStores, Leaves, Changes, Idles}
use Rattle.sqlite_site.specs.Kept.{IsSteady, IsNew, store_in, store_of, IsIdle, IsKept, committed}
use Rattle.sqlite_site.specs.Refusals.{answer_of}
use Rattle.sqlite_site.specs.declared.refused.Refused.{Refused}
use Rattle.sqlite_site.specs.declared.refused.Refused.TheVariants as refused
use Rattle.sqlite_site.proofs.SchemaIs.{set_is, schema_is}
use Rattle.sqlite_site.proofs.StoreRows.{one_store, made_rows}

-- ---- it is no matter how it is known

abbrev id_in : Value → ℤ
id_in Null = pos 0
id_in (Int n) = n
id_in (Real x) = pos 0
id_in (Text t) = pos 0
id_in (Blob b) = pos 0

abbrev size : ℤ → ℕ
size (pos n) = n
size other = 0

-- the entry that a row is
abbrev entry_of : Row → Entry
entry_of row = record { id = id_in (column row 0); kind = size (id_in (column row 1)); key = bytes (column row 2); value = bytes (column row 3) }

entries_back : (all : List Entry) → map entry_of (map row_of all) ≡ all
entries_back [] = refl
entries_back (e ∷ es) = ap (λ xs. e ∷ xs) (entries_back es)

ascending_prop : {X : Type 0} (R : X → X → Type 0) → ((x y : X) → IsProp (R x y)) → (xs : List X) → IsProp (IsAscending R xs)
ascending_prop R prop [] = hlevel props
ascending_prop R prop (x ∷ xs) = λ a b i. (AllByRecursion-prop (R x) (prop x) xs a.0 b.0 i, ascending_prop R prop xs a.1 b.1 i)

rises_prop : (all : List Entry) → IsProp (Rises all)
rises_prop = ascending_prop (λ a b. int_cmp a.id b.id ≡ Less) (λ a b. hlevel props)

apart_prop : (all : List Entry) → IsProp (AreApart all)
apart_prop = ascending_prop (λ a b. is_at a.kind a.key b ≡ false) (λ a b. hlevel props)

cell_prop : (c : Cell) → IsProp (IsCell c)
cell_prop c = λ a b i. (change (Put c ∷ []) (a, tt) (b, tt) i).0

entry_prop : (kind : ℕ) (e : Entry) (c : Cell) → IsProp (IsEntryOf kind e c)
entry_prop kind e c = hlevel (props, cell_prop)

-- what a row's value is read as is its cell
abbrev ReadsAs : Entry → Result Cell ℕ → Type 0
ReadsAs e (Ok c) = IsEntryOf e.kind e c
ReadsAs e (Err n) = ⊥

reads_prop : (e : Entry) (r : Result Cell ℕ) → IsProp (ReadsAs e r)
reads_prop e (Ok c) = entry_prop e.kind e c
reads_prop e (Err n) = hlevel props

read_cell : (e : Entry) (r : Result Cell ℕ) → ReadsAs e r → (c : Cell) × IsEntryOf e.kind e c
read_cell e (Ok c) is = (c, is)
read_cell e (Err n) is = absurd is

cell_read : (e : Entry) (c : Cell) → IsEntryOf e.kind e c → ReadsAs e (whole cell_at e.value)
cell_read e c is = subst (ReadsAs e) (sym (ap (whole cell_at) is.value ∙ whole_again cell_at spelling IsCell cell_reader c is.cell)) is

pub store_known : (db : Database) → ∥ ((s : Store) × HoldsStore db s) ∥₁ → (s : Store) × HoldsStore db s
store_known db h = (store_in (map row_of all), (all, holds, made_rows all holds.apart (λ e has. read_cell e (whole cell_at e.value) (each e has))))
  where
    all : List Entry
    all = map entry_of (db.trees 0)

    same : (k : (s : Store) × HoldsStore db s) → k.1.0 ≡ all
    same k = sym (entries_back k.1.0) ∙ ap (map entry_of) (sym k.1.1.rows)

    holds : Holds db all
    holds = record {
      schema = schema_is db.schema (∥∥₁_map h (λ k. k.1.1.schema));
      rows = set_is (hlevel props) (db.trees 0) (map row_of all) (∥∥₁_map h (λ k. k.1.1.rows ∙ ap (map row_of) (same k)));
      rises = ∥∥₁_elim h (rises_prop all) (λ k. subst Rises (same k) k.1.1.rises);
      apart = ∥∥₁_elim h (apart_prop all) (λ k. subst AreApart (same k) k.1.1.apart);
    }

    each : (e : Entry) → Contains all e → ReadsAs e (whole cell_at e.value)
    each e has = ∥∥₁_elim h (reads_prop e (whole cell_at e.value)) (λ k. let w = k.1.2.rows e (subst (λ es. Contains es e) (sym (same k)) has) in cell_read e w.0 w.2)

idle_known : {S : Type 0} (g : Ghosts S) (h : Held S) → ∥ IsIdle g h ∥₁ → IsIdle g h
idle_known g h kept =
    let it = store_known (state g h).now (∥∥₁_map kept (λ k. (k.store, k.holds))) in
    record { store = it.0; holds = it.1; idle = ∥∥₁_elim kept (hlevel props) (λ k. k.idle) }

pub kept_known : {S : Type 0} (g : Ghosts S) (conn : Option (Held S)) → ∥ IsKept g conn ∥₁ → IsKept g conn
kept_known g None kept = ∥∥₁_elim kept (hlevel props) (λ k. k)
kept_known g (Some h) kept = idle_known g h kept

-- ---- the rows spell the store

holds_is : (db : Database) (s : Store) → HoldsStore db s → store_in (db.trees 0) ≡ s
holds_is db s has =
    ap store_in has.1.rows ∙ one_store has.0 (store_in (map row_of has.0)) s (made_rows has.0 has.1.apart (λ e h. let w = has.2.rows e h in (w.0, w.2))) has.2

pub kept_is : {S : Type 0} (g : Ghosts S) (h : Held S) (s : Store) → HoldsStore (state g h).now s → store_of g (Some h) ≡ s
unfolding store_of
kept_is g h s has = holds_is (state g h).now s has

-- ---- what calls do to it

-- what was found of the store is found of what is kept
pub kept_finds : {S : Type 0} (g : Ghosts S) (old new : Option (Held S)) (P : Store → Type 0) → IsSteady g → IsKept g old → OfStores g old new P → P (store_of g old)
kept_finds g None new P steady kept found = absurd kept
kept_finds g (Some h) None P steady kept found = absurd found
kept_finds g (Some h) (Some k) P steady kept found = subst P (sym (kept_is g h kept.store kept.holds)) (found (steady k).0 kept.store kept.holds)

-- a call that leaves the rows keeps it
pub kept_leaves : {S : Type 0} (g : Ghosts S) (old new : Option (Held S)) → IsSteady g → IsKept g old → Leaves g old new → Idles g old new → IsKept g new × (store_of g new ≡ store_of g old)
kept_leaves g None new steady kept left idle = absurd kept
kept_leaves g (Some h) None steady kept left idle = absurd left
kept_leaves g (Some h) (Some k) steady kept left idle =
    let same : (state g k).now ≡ (state g h).now = left (steady k).0 (steady k).1 kept.idle kept.holds.1.schema in
    let has : HoldsStore (state g k).now kept.store = subst (λ db. HoldsStore db kept.store) (sym same) kept.holds in
    (record { store = kept.store; holds = has; idle = idle kept.idle }, kept_is g k kept.store has ∙ sym (kept_is g h kept.store kept.holds))

-- a call that makes a change changes it
pub kept_changes : {S : Type 0} (g : Ghosts S) (old new : Option (Held S)) (edits : List Edit) → IsSteady g → IsKept g old → Changes g old new edits → Idles g old new → IsKept g new × (store_of g new ≡ changed (store_of g old) edits)
kept_changes g None new edits steady kept made idle = absurd kept
kept_changes g (Some h) None edits steady kept made idle = absurd made
kept_changes g (Some h) (Some k) edits steady kept made idle =
    let has : HoldsStore (state g k).now (changed kept.store edits) = made (steady k).0 kept.store kept.holds in
    (record { store = changed kept.store edits; holds = has; idle = idle kept.idle }, kept_is g k (changed kept.store edits) has ∙ ap (λ s. changed s edits) (sym (kept_is g h kept.store kept.holds)))

-- ---- what a site's calls answer

pub told_finds : {S T : Type 0} (g : Ghosts S) (old new : Option (Held S)) (r : Result T Refused) (a : Result T WorldError) (Q : Store → T → Type 0) → IsSteady g → ∥ IsKept g old ∥₁ → a ≡ answer_of r
    → IfOk r (λ x. OfStores g old new (λ s. Q s x)) → IfOk a (λ x. Q (store_of g old) x)
told_finds g old new (Ok x) a Q steady kept is found = subst (λ b. IfOk b (λ x. Q (store_of g old) x)) (sym is) (kept_finds g old new (λ s. Q s x) steady (kept_known g old kept) found)
told_finds g old new (Err refused.Store) a Q steady kept is found = subst (λ b. IfOk b (λ x. Q (store_of g old) x)) (sym is) tt
told_finds g old new (Err refused.Memory) a Q steady kept is found = subst (λ b. IfOk b (λ x. Q (store_of g old) x)) (sym is) tt

pub told_leaves : {S : Type 0} (g : Ghosts S) (old new : Option (Held S)) → IsSteady g → ∥ IsKept g old ∥₁ → Leaves g old new → Idles g old new → ∥ IsKept g new ∥₁ × (store_of g new ≡ store_of g old)
told_leaves g old new steady kept left idle = let k = kept_leaves g old new steady (kept_known g old kept) left idle in (∣ k.0 ∣₁, k.1)

pub told_commits : {S : Type 0} (g : Ghosts S) (old new : Option (Held S)) (edits : List Edit) (r : Result (Unit {0}) Refused) (a : Result (Unit {0}) WorldError) → IsSteady g → ∥ IsKept g old ∥₁ → a ≡ answer_of r
    → OnOk r (Changes g old new edits) → OnErr r (Leaves g old new) → Idles g old new → ∥ IsKept g new ∥₁ × (store_of g new ≡ committed a (store_of g old) edits)
told_commits g old new edits (Ok done) a steady kept is made unmade idle =
    let k = kept_changes g old new edits steady (kept_known g old kept) made idle in (∣ k.0 ∣₁, k.1 ∙ ap (λ b. committed b (store_of g old) edits) (sym is))
told_commits g old new edits (Err refused.Store) a steady kept is made unmade idle =
    let k = told_leaves g old new steady kept unmade idle in (k.0, k.1 ∙ ap (λ b. committed b (store_of g old) edits) (sym is))
told_commits g old new edits (Err refused.Memory) a steady kept is made unmade idle =
    let k = told_leaves g old new steady kept unmade idle in (k.0, k.1 ∙ ap (λ b. committed b (store_of g old) edits) (sym is))

-- what is kept is a store
pub kept_store : {S : Type 0} (g : Ghosts S) (conn : Option (Held S)) → ∥ IsKept g conn ∥₁ → IsStore (store_of g conn)
kept_store {S} g conn kept = by conn (kept_known g conn kept)
  where
    by : (conn : Option (Held S)) → IsKept g conn → IsStore (store_of g conn)
    by None k = absurd k
    by (Some h) k = subst IsStore (sym (kept_is g h k.store k.holds)) k.holds.2.store

-- a new store is kept, and empty
pub new_kept : {S : Type 0} (g : Ghosts S) (h : Held S) → IsNew g h → ∥ IsKept g (Some h) ∥₁ × (store_of g (Some h) ≡ empty_store)
new_kept g h new = (∣ record { store = empty_store; holds = new.0; idle = new.1 } ∣₁, kept_is g h empty_store new.0)

-- ---- a call where there is a connection

pub leaves_there : {S : Type 0} (g : Ghosts S) (o : Option (Held S)) (old new : Held S) → o ≡ Some old → Rests (state g old) (state g new) → Leaves g o (Some new)
leaves_there g o old new is rests = subst (λ x. Leaves g x (Some new)) (sym is) rests

pub stores_there : {S T E : Type 0} (g : Ghosts S) (o : Option (Held S)) (old new : Held S) (r : Result T E) (Q : Store → T → Type 0) → o ≡ Some old
    → (HasCleanDisk (state g new) → IfOk r (λ x. (s : Store) → HoldsStore (state g old).now s → Q s x)) → IfOk r (λ x. OfStores g o (Some new) (λ s. Q s x))
stores_there g o old new (Ok x) Q is found = subst (λ y. OfStores g y (Some new) (λ s. Q s x)) (sym is) found
stores_there g o old new (Err e) Q is found = tt

pub answered : {T : Type 0} (r : Result T Refused) (a : Result T WorldError) (P : T → Type 0) → a ≡ answer_of r → IfOk r P → IfOk a P
answered (Ok x) a P is h = subst (λ b. IfOk b P) (sym is) h
answered (Err refused.Store) a P is h = subst (λ b. IfOk b P) (sym is) tt
answered (Err refused.Memory) a P is h = subst (λ b. IfOk b P) (sym is) tt
