-- What is found among the rows of a store is found in the store: one cell, and the greatest up to a key.
use Rattle.std.proofs.Common.{◌≡◌, inl, inr, ℕ, ◌==◌, Bool, true, false, cond, List, [], ◌∷◌, Some, None, Option, option_map, Vec, Global, refl, sym, ap, ◌∙◌, subst, true≢false, Less, Equal, Greater, Ordering}
use Rattle.std.specs.Prelude.{find}
use Rattle.std.specs.Ordering.{is_le, is_gt}
use Rattle.std.proofs.lemmas.Bool.{and_parts, and_from, eqb-true, eq-eqb}
use Rattle.std.proofs.lemmas.List.Elements.{All-contains}
use Rattle.sqlite_rules.specs.Lists.{Has}
use Rattle.sqlite_rules.proofs.ListLemmas.{has_contained, contains_had, has_found}
use Rattle.cell_world.specs.ByteOrder.{byte_cmp}
use Rattle.cell_world.specs.Finding.{IsAtOrBelow, IsFloor}
use Rattle.cell_world.specs.Orders.{cell_cmp, kind_number, map_of}
use Rattle.cell_world.specs.Spelled.{IsTypedKey}
use Rattle.cell_world.specs.Stores.{Store, own_key, cell_at, Stands}
use Rattle.cell_world.specs.declared.cells.Cell.{Cell}
use Rattle.cell_world.specs.declared.cells.CellKey.{CellKey}
use Rattle.cell_world.proofs.KeyedLaws.{stands_under}
use Rattle.world_memory.proofs.SiteOrder.{map_between}
use Rattle.record_form.specs.Layout.{spelling}
use Rattle.record_form.specs.OrderBytes.{ordered}
use Rattle.record_form.proofs.KeyOrders.{keeps_order}
use Rattle.cell_table.specs.Cells.{Entry, is_at, is_below, is_up_to, look}
use Rattle.sqlite_site.specs.Contents.{AreRowsOf}
use Rattle.sqlite_site.specs.Entries.{IsEntryOf, IsReadOf, IsLastOf, IsWithin, IsFloorOf}
use Rattle.sqlite_site.proofs.OrderKeys.{own_typed, at_is, row_there}
use Rattle.sqlite_site.proofs.StoreRows.{row_stands}

-- ---- a row under a key

first_is : {A : Type 0} (b : Bool) (y : A) (o : Option A) → cond b (Some y) o ≡ None → (b ≡ false) × (o ≡ None)
first_is true y o e = cc
first_is false y o e = (refl, e)

none_passes : {A : Type 0} (p : A → Bool) (xs : List A) (x : A) → find p xs ≡ None → Has xs x → p x ≡ true → ⊥
none_passes p [] x e h t = absurd h
none_passes p (y ∷ ys) x e (inl same) t = true≢false (sym t ∙ ap p same ∙ (first_is (p y) y (find p ys) e).0)
none_passes p (y ∷ ys) x e (inr later) t = none_passes p ys x (first_is (p y) y (find p ys) e).1 later t

no_value : {A B : Type 0} (f : A → B) (o : Option A) → option_map f o ≡ None → o ≡ None
no_value f None e = refl
no_value f (Some a) e = cc

value_of : {A B : Type 0} (f : A → B) (o : Option A) (b : B) → option_map f o ≡ Some b → (a : A) × (o ≡ Some a) × (f a ≡ b)
value_of f None b e = cc
value_of f (Some a) b e = (a, refl, (let is : f a ≡ b = cc in is))

pub reads : (all : List Entry) (s : Store) (key : CellKey) (found : Option Cell) → AreRowsOf all s → IsReadOf all key found → found ≡ cell_at s key
reads all s key None are none = there (cell_at s key) refl
  where
    there : (x : Option Cell) → cell_at s key ≡ x → None ≡ cell_at s key
    there None e = sym e
    there (Some c) e =
        let own : own_key c ≡ key = stands_under s key c are.store.keyed e in
        let w = are.cells c (ap (cell_at s) own ∙ e) in
        absurd (none_passes (is_at (kind_number key) (ordered key)) all w.0 (no_value (λ (d : Entry). d.value) _ none) (has_contained all w.0 w.1) (row_there w.0 c key w.2 own))
reads all s key (Some c) are is =
    let it = value_of (λ (d : Entry). d.value) (find (is_at (kind_number key) (ordered key)) all) _ is.2 in
    let has = has_found (is_at (kind_number key) (ordered key)) all it.0 it.1 in
    let at = at_is (kind_number key) (ordered key) it.0 has.1 in
    let row : IsEntryOf it.0.kind it.0 c = record { cell = is.1; kind = at.0 ∙ sym (ap kind_number is.0); key = at.1 ∙ sym (ap ordered is.0); value = it.2 } in
    sym (ap (cell_at s) (sym is.0) ∙ row_stands all s are it.0 c (contains_had all it.0 has.0) row)

-- what the statement found under a key
pub read_some : (all : List Entry) (key : CellKey) (o : Option (Vec ℕ Global)) (v : Vec ℕ Global) (c : Cell) → o ≡ Some v → v.items ≡ spelling c → option_map (λ b. b.items) o ≡ look all (kind_number key) (ordered key) → look all (kind_number key) (ordered key) ≡ Some (spelling c)
read_some all key o v c is bytes found = sym found ∙ ap (option_map (λ b. b.items)) is ∙ ap Some bytes

pub read_none : (all : List Entry) (key : CellKey) (o : Option (Vec ℕ Global)) → o ≡ None → option_map (λ b. b.items) o ≡ look all (kind_number key) (ordered key) → look all (kind_number key) (ordered key) ≡ None
read_none all key o is found = sym found ∙ ap (option_map (λ b. b.items)) is

-- ---- the greatest row up to a key

up_is : (o : Ordering) → is_le o ≡ true → is_gt o ≡ false
up_is Less h = refl
up_is Equal h = refl
up_is Greater h = absurd (true≢false (sym h))

up_from : (o : Ordering) → is_gt o ≡ false → is_le o ≡ true
up_from Less h = refl
up_from Equal h = refl
up_from Greater h = absurd (true≢false h)

-- the rows of cells stand to each other as the cells do
pub row_order : (e : Entry) (c : Cell) (k : CellKey) → IsTypedKey k → IsEntryOf e.kind e c → kind_number (own_key c) ≡ kind_number k → byte_cmp e.key (ordered k) ≡ cell_cmp (own_key c) k
row_order e c k typed is kinds = ap (λ b. byte_cmp b (ordered k)) is.key ∙ keeps_order (own_key c) k (own_typed c is.cell) typed kinds

pub rows_order : (e d : Entry) (c b : Cell) → IsEntryOf e.kind e c → IsEntryOf d.kind d b → kind_number (own_key c) ≡ kind_number (own_key b) → byte_cmp e.key d.key ≡ cell_cmp (own_key c) (own_key b)
rows_order e d c b is it kinds = ap (byte_cmp e.key) it.key ∙ row_order e c (own_key b) (own_typed b it.cell) is kinds

below_is : (e : Entry) (c : Cell) (k : CellKey) → IsTypedKey k → IsEntryOf e.kind e c → is_below (kind_number k) (ordered k) e ≡ true → (kind_number (own_key c) ≡ kind_number k) × (is_gt (cell_cmp (own_key c) k) ≡ false)
below_is e c k typed is h =
    let parts = and_parts (e.kind == kind_number k) _ h in
    let kinds : kind_number (own_key c) ≡ kind_number k = sym is.kind ∙ eqb-true e.kind (kind_number k) parts.0 in
    (kinds, ap is_gt (sym (row_order e c k typed is kinds)) ∙ up_is (byte_cmp e.key (ordered k)) parts.1)

below_from : (e : Entry) (c : Cell) (k : CellKey) → IsTypedKey k → IsEntryOf e.kind e c → kind_number (own_key c) ≡ kind_number k → is_gt (cell_cmp (own_key c) k) ≡ false → is_below (kind_number k) (ordered k) e ≡ true
below_from e c k typed is kinds below = and_from _ _ (eq-eqb e.kind (kind_number k) (is.kind ∙ kinds)) (up_from (byte_cmp e.key (ordered k)) (ap is_gt (row_order e c k typed is kinds) ∙ below))

module _ (all : List Entry) (s : Store) (key : CellKey) (are : AreRowsOf all s) (typed : IsTypedKey key) where
  no_floor : IsLastOf all key None → IsFloor s key None
  no_floor none c stands below =
      let w = are.cells c stands in
      true≢false (sym (below_from w.0 c key typed w.2 below.kind below.order) ∙ All-contains (λ e. is_below (kind_number key) (ordered key) e ≡ false) all w.0 none w.1)

  module _ (c : Cell) (last : IsLastOf all key (Some c)) where
    of_kind : last.0.kind ≡ kind_number key
    of_kind = eqb-true last.0.kind (kind_number key) (and_parts (last.0.kind == kind_number key) _ last.2).0

    row : IsEntryOf last.0.kind last.0 c
    row = subst (λ n. IsEntryOf n last.0 c) (sym of_kind) last.4

    low : (kind_number (own_key c) ≡ kind_number key) × (is_gt (cell_cmp (own_key c) key) ≡ false)
    low = below_is last.0 c key typed row last.2

    -- each cell of the kind up to the key is up to the last
    greatest : (d : Cell) → Stands s d → IsAtOrBelow key d → is_gt (cell_cmp (own_key d) (own_key c)) ≡ false
    greatest d stands below =
        let w = are.cells d stands in
        let up = All-contains (λ e. is_below (kind_number key) (ordered key) e ≡ true → is_up_to e.key last.0.key ≡ true) all w.0 last.3 w.1 (below_from w.0 d key typed w.2 below.kind below.order) in
        ap is_gt (sym (rows_order w.0 last.0 d c w.2 row (below.kind ∙ sym low.0))) ∙ up_is (byte_cmp w.0.key last.0.key) up

    pub other_floor : (map_of (own_key c) ≡ map_of key → ⊥) → IsFloor s key None
    other_floor other d stands below = other (map_between (own_key d) (own_key c) key (greatest d stands below) low.1 below.kind below.map)

    pub is_floor : map_of (own_key c) ≡ map_of key → IsFloor s key (Some c)
    is_floor maps = (row_stands all s are last.0 c last.1 row, record { kind = low.0; map = maps; order = low.1 }, greatest)

pub floors : (all : List Entry) (s : Store) (key : CellKey) (found : Option Cell) → AreRowsOf all s → IsTypedKey key → IsFloorOf all key found → IsFloor s key found
floors all s key found are typed h = by h.0 found h.1 h.2
  where
    by : (last found : Option Cell) → IsLastOf all key last → IsWithin key last found → IsFloor s key found
    by None found last within = subst (IsFloor s key) (sym within) (no_floor all s key are typed last)
    by (Some c) None last within = other_floor all s key are typed c last within
    by (Some c) (Some f) last within = subst (λ x. IsFloor s key (Some x)) (sym within.0) (is_floor all s key are typed c last within.1)
