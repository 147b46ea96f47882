-- Rows that are those of a store, and what a change makes of them.
use Rattle.std.proofs.Common.{◌≡◌, ◌⊎◌, inl, inr, ℕ, ℤ, Bool, true, false, List, [], ◌∷◌, Some, None, Option, Ok, map, not, refl, sym, ap, ◌∙◌, subst, subst₂, arith}
use Rattle.std.specs.Prelude.{Contains}
use Rattle.std.proofs.lemmas.List.Elements.{Contains-append_left, Contains-push, Contains-push_cases}
use Rattle.sqlite_rules.specs.Lists.{Has}
use Rattle.sqlite_rules.proofs.ListLemmas.{all_has, has_contained, contains_had, has_filtered, has_kept}
use Rattle.cell_world.specs.Orders.{kind_number}
use Rattle.cell_world.specs.Spelled.{IsCell, IsTypedKey, AreEdits}
use Rattle.cell_world.specs.Stores.{Store, own_key, cell_at, put, delete, changed, empty_store, Stands}
use Rattle.cell_world.specs.declared.cells.Cell.{Cell}
use Rattle.cell_world.specs.declared.cells.CellKey.{CellKey}
use Rattle.cell_world.specs.declared.changes.Edit.{Edit}
use Rattle.cell_world.specs.declared.changes.Edit.TheVariants.{Put, Delete}
use Rattle.cell_world.proofs.KeyedLaws.{cell_at-empty, stands_under, store_empty, store_put, store_delete, stands_put, stands_delete}
use Rattle.cell_world.proofs.SameStore.{same_store}
use Rattle.cell_world.proofs.StoreLaws.{cell_at-put_same, cell_at-put_other, cell_at-delete_same, cell_at-delete_other}
use Rattle.record_form.specs.Kinds.{cell_at as read_at}
use Rattle.record_form.specs.Layout.{spelling}
use Rattle.record_form.specs.OrderBytes.{ordered}
use Rattle.record_form.specs.Reading.{whole}
use Rattle.record_form.proofs.CellTexts.{cell_reader}
use Rattle.record_form.proofs.Whole.{whole_again}
use Rattle.cell_table.specs.Cells.{Entry, row_of, is_at, others, AreApart}
use Rattle.sqlite_site.specs.Contents.{AreRowsOf}
use Rattle.sqlite_site.specs.Entries.{IsEntryOf, with_cell, AreEdited}
use Rattle.sqlite_site.specs.Kept.{with_read, store_in}
use Rattle.sqlite_site.proofs.OrderKeys.{own_typed, one_cell, row_own, row_elsewhere}

turned : (b : Bool) → not b ≡ true → b ≡ false
turned true h = cc
turned false h = refl

kept_parts : (kind : ℕ) (key : List ℕ) (all : List Entry) (e : Entry) → Contains (others kind key all) e → Contains all e × (is_at kind key e ≡ false)
kept_parts kind key all e h = let it = has_filtered (λ d. not (is_at kind key d)) all e (has_contained (others kind key all) e h) in (contains_had all e it.0, turned (is_at kind key e) it.1)

kept_from : (kind : ℕ) (key : List ℕ) (all : List Entry) (e : Entry) → Contains all e → is_at kind key e ≡ false → Contains (others kind key all) e
kept_from kind key all e h off = contains_had (others kind key all) e (has_kept (λ d. not (is_at kind key d)) all e (has_contained all e h) (ap not off))

-- a cell of which a row is there stands
pub row_stands : (all : List Entry) (s : Store) → AreRowsOf all s → (e : Entry) (c : Cell) → Contains all e → IsEntryOf e.kind e c → Stands s c
row_stands all s are e c has is = let w = are.rows e has in subst (Stands s) (one_cell e w.0 c w.2 is) w.1

-- no rows are those of the empty store
pub empty_rows : AreRowsOf [] empty_store
empty_rows = record { store = store_empty; rows = λ e h. absurd (omega (arith, h.1)); cells = λ c stands. none c (sym (cell_at-empty (own_key c)) ∙ stands) }
  where
    none : (c : Cell) → None ≡ Some c → (e : Entry) × Contains [] e × IsEntryOf e.kind e c
    none c e = cc

-- the row of a cell comes to the others, and none but it is under its key
pub put_rows : (all next : List Entry) (s : Store) (c : Cell) (e : Entry) → AreRowsOf all s → IsEntryOf e.kind e c → Contains next e
    → ((d : Entry) → Contains next d → (d ≡ e) ⊎ (Contains all d × (is_at (kind_number (own_key c)) (ordered (own_key c)) d ≡ false)))
    → ((d : Entry) → Contains all d → is_at (kind_number (own_key c)) (ordered (own_key c)) d ≡ false → Contains next d)
    → AreRowsOf next (put s c)
put_rows all next s c e are is new parts kept = record { store = store_put s c is.cell are.store; rows = λ d h. of_row d (parts d h); cells = λ d stands. of_cell d stands (stands_put s c d stands) }
  where
    of_row : (d : Entry) → (d ≡ e) ⊎ (Contains all d × (is_at (kind_number (own_key c)) (ordered (own_key c)) d ≡ false)) → (b : Cell) × Stands (put s c) b × IsEntryOf d.kind d b
    of_row d (inl same) = (c, cell_at-put_same s c, subst (λ x. IsEntryOf x.kind x c) (sym same) is)
    of_row d (inr old) = let w = are.rows d old.0 in (w.0, cell_at-put_other s c (own_key w.0) (row_elsewhere d w.0 (own_key c) w.2 old.1) ∙ w.1, w.2)

    its_own : (d : Cell) → c ≡ d → (x : Entry) × Contains next x × IsEntryOf x.kind x d
    its_own d same = (e, new, subst (IsEntryOf e.kind e) same is)

    some_is : (d : Cell) → Some c ≡ Some d → c ≡ d
    some_is d e = cc

    by : (d : Cell) (x : Entry) (b : Bool) → Stands (put s c) d → Contains all x → IsEntryOf x.kind x d → is_at (kind_number (own_key c)) (ordered (own_key c)) x ≡ b → (y : Entry) × Contains next y × IsEntryOf y.kind y d
    by d x true stands has row here = its_own d (some_is d (sym (cell_at-put_same s c) ∙ ap (cell_at (put s c)) (sym (row_own x d (own_key c) (own_typed c is.cell) row here)) ∙ stands))
    by d x false stands has row off = (x, kept x has off, row)

    of_cell : (d : Cell) → Stands (put s c) d → (c ≡ d) ⊎ Stands s d → (x : Entry) × Contains next x × IsEntryOf x.kind x d
    of_cell d stands (inl same) = its_own d same
    of_cell d stands (inr old) = let w = are.cells d old in by d w.0 _ stands w.1 w.2 refl

-- the row under a key goes
pub delete_rows : (all : List Entry) (s : Store) (k : CellKey) → IsTypedKey k → AreRowsOf all s → AreRowsOf (others (kind_number k) (ordered k) all) (delete s k)
delete_rows all s k typed are = record { store = store_delete s k are.store; rows = λ d h. of_row d (kept_parts (kind_number k) (ordered k) all d h); cells = λ d stands. let w = are.cells d (stands_delete s k d stands) in by d w.0 _ stands w.1 w.2 refl }
  where
    of_row : (d : Entry) → Contains all d × (is_at (kind_number k) (ordered k) d ≡ false) → (b : Cell) × Stands (delete s k) b × IsEntryOf d.kind d b
    of_row d old = let w = are.rows d old.0 in (w.0, cell_at-delete_other s k (own_key w.0) (row_elsewhere d w.0 k w.2 old.1) ∙ w.1, w.2)

    gone : (d : Cell) → None ≡ Some d → (y : Entry) × Contains (others (kind_number k) (ordered k) all) y × IsEntryOf y.kind y d
    gone d e = cc

    by : (d : Cell) (x : Entry) (b : Bool) → Stands (delete s k) d → Contains all x → IsEntryOf x.kind x d → is_at (kind_number k) (ordered k) x ≡ b → (y : Entry) × Contains (others (kind_number k) (ordered k) all) y × IsEntryOf y.kind y d
    by d x true stands has row here = gone d (sym (cell_at-delete_same s k) ∙ ap (cell_at (delete s k)) (sym (row_own x d k typed row here)) ∙ stands)
    by d x false stands has row off = (x, kept_from (kind_number k) (ordered k) all x has off, row)

-- the row of a cell stands in place of the one that was there
pub with_cell_rows : (all : List Entry) (s : Store) (id : ℤ) (c : Cell) → IsCell c → AreRowsOf all s → AreRowsOf (with_cell all id c) (put s c)
with_cell_rows all s id c is are =
    put_rows all (with_cell all id c) s c new are (record { cell = is; kind = refl; key = refl; value = refl }) (Contains-push rest new)
    (λ d h. parts d (Contains-push_cases rest new d h))
    (λ d h off. Contains-append_left rest (new ∷ []) d (kept_from (kind_number (own_key c)) (ordered (own_key c)) all d h off))
  where
    new : Entry
    new = record { id = id; kind = kind_number (own_key c); key = ordered (own_key c); value = spelling c }

    rest : List Entry
    rest = others (kind_number (own_key c)) (ordered (own_key c)) all

    parts : (d : Entry) → Contains rest d ⊎ (new ≡ d) → (d ≡ new) ⊎ (Contains all d × (is_at (kind_number (own_key c)) (ordered (own_key c)) d ≡ false))
    parts d (inl old) = inr (kept_parts (kind_number (own_key c)) (ordered (own_key c)) all d old)
    parts d (inr same) = inl (sym same)

-- ---- changes

-- the rows after a change are those of the changed store
pub edited_rows : (edits : List Edit) (all next : List Entry) (s : Store) → AreEdits edits → AreEdited edits all next → AreRowsOf all s → AreRowsOf next (changed s edits)
edited_rows [] all next s kept made are = subst (λ x. AreRowsOf x s) (sym made) are
edited_rows (Put c ∷ edits) all next s kept made are = edited_rows edits (with_cell all made.0 c) next (put s c) kept.1 made.1 (with_cell_rows all s made.0 c kept.0 are)
edited_rows (Delete k ∷ edits) all next s kept made are = edited_rows edits (others (kind_number k) (ordered k) all) next (delete s k) kept.1 made (delete_rows all s k kept.0 are)

-- ---- which rows are those of a store

-- rows of which each is a cell's, each under its own kind and key, are those of the store that they spell
pub made_rows : (all : List Entry) → AreApart all → ((e : Entry) → Contains all e → (c : Cell) × IsEntryOf e.kind e c) → AreRowsOf all (store_in (map row_of all))
unfolding store_in
made_rows [] apart each = empty_rows
made_rows (e ∷ es) apart each =
    let rest = made_rows es apart.1 (λ d h. each d (later d h)) in
    let it = each e first in
    let read : whole read_at e.value ≡ Ok it.0 = ap (whole read_at) it.1.value ∙ whole_again read_at spelling IsCell cell_reader it.0 it.1.cell in
    subst (AreRowsOf (e ∷ es)) (sym (ap (λ r. with_read r (store_in (map row_of es))) read))
    (put_rows es (e ∷ es) (store_in (map row_of es)) it.0 e rest it.1 first (λ d h. parts it.0 it.1 d (has_contained (e ∷ es) d h)) (λ d h off. later d h))
  where
    first : Contains (e ∷ es) e
    first = contains_had (e ∷ es) e (inl refl)

    later : (d : Entry) → Contains es d → Contains (e ∷ es) d
    later d h = contains_had (e ∷ es) d (inr (has_contained es d h))

    parts : (c : Cell) → IsEntryOf e.kind e c → (d : Entry) → Has (e ∷ es) d → (d ≡ e) ⊎ (Contains es d × (is_at (kind_number (own_key c)) (ordered (own_key c)) d ≡ false))
    parts c is d (inl same) = inl same
    parts c is d (inr h) = inr (contains_had es d h, subst₂ (λ n k. is_at n k d ≡ false) is.kind is.key (all_has (λ b. is_at e.kind e.key b ≡ false) es d apart.0 h))

pub some_store : (all : List Entry) → AreApart all → ((e : Entry) → Contains all e → (c : Cell) × IsEntryOf e.kind e c) → (s : Store) × AreRowsOf all s
some_store all apart each = (store_in (map row_of all), made_rows all apart each)

-- and of one alone
pub one_store : (all : List Entry) (s t : Store) → AreRowsOf all s → AreRowsOf all t → s ≡ t
one_store all s t are too = same_store s t (λ k. by k (cell_at s k) (cell_at t k) refl refl)
  where
    over : (s t : Store) → AreRowsOf all s → AreRowsOf all t → (k : CellKey) (c : Cell) → cell_at s k ≡ Some c → cell_at t k ≡ Some c
    over s t are too k c e =
        let own : own_key c ≡ k = stands_under s k c are.store.keyed e in
        let w = are.cells c (ap (cell_at s) own ∙ e) in
        ap (cell_at t) (sym own) ∙ row_stands all t too w.0 c w.1 w.2

    by : (k : CellKey) (x y : Option Cell) → cell_at s k ≡ x → cell_at t k ≡ y → cell_at s k ≡ cell_at t k
    by k (Some c) y p q = p ∙ sym (over s t are too k c p)
    by k None (Some c) p q = over t s too are k c q ∙ sym q
    by k None None p q = p ∙ sym q
