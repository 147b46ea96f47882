-- The first row from a key on, or past the rows of a key, tells the next key.
use Rattle.std.proofs.Common.{◌≡◌, inl, inr, ℕ, ◌<◌, ◌==◌, Bool, true, false, if◌then◌else◌, not, List, [], ◌∷◌, ◌++◌, take, filter, Some, None, Option, option_map, IsSome, IsTrue, refl, sym, ap, ◌∙◌, subst, true≢false, Less, Equal, Greater, Ordering, append_assoc, arith}
use Rattle.std.specs.Prelude.{Contains, IsPermutation}
use Rattle.std.specs.FinMap as map
use Rattle.std.specs.Int.{w64, to_be_bytes}
use Rattle.std.specs.Ordering.{is_lt, is_gt, is_ge, ordering_then}
use Rattle.std.proofs.lemmas.Bool.{and_parts, lt-ltb}
use Rattle.std.proofs.lemmas.Cmp.{nat_list_cmp_total, tied_itself}
use Rattle.std.proofs.lemmas.List.{append-nil}
use Rattle.sqlite_trees.specs.Tree.{IsAscending}
use Rattle.sqlite_rules.specs.Lists.{Has}
use Rattle.sqlite_rules.proofs.ListLemmas.{all_has}
use Rattle.cell_world.specs.Texts.{Text, is_name, is_letter}
use Rattle.cell_world.specs.ByteOrder.{byte_cmp}
use Rattle.cell_world.specs.Finding.{IsNextKey, IsRowKey}
use Rattle.cell_world.specs.Keys.{same, below, at_most}
use Rattle.cell_world.specs.Orders.{cell_cmp, kind_number}
use Rattle.cell_world.specs.Spelled.{IsRowName}
use Rattle.cell_world.specs.Stores.{Store, own_key}
use Rattle.cell_world.specs.declared.cells.RowName.{RowName}
use Rattle.cell_world.specs.declared.cells.Cell.{Cell}
use Rattle.cell_world.specs.declared.cells.Cell.TheVariants as cell
use Rattle.cell_world.specs.declared.cells.CellKey.TheVariants as at
use Rattle.cell_world.proofs.OrderLaws.{exact_texts, tied_is}
use Rattle.cell_world.proofs.SpanLaws.{same_self}
use Rattle.world_memory.proofs.SiteOrder.{flip}
use Rattle.record_form.specs.OrderBytes.{ended, escaped, ordered}
use Rattle.record_form.proofs.KeyOrders.{names_keep, escaped_keeps}
use Rattle.cell_table.specs.Cells.{Entry, AreApart, is_from}
use Rattle.sqlite_site.specs.Contents.{AreRowsOf}
use Rattle.sqlite_site.specs.Entries.{IsEntryOf, AreEntriesOf, rows_from, first_key, IsNextOf}
use Rattle.sqlite_site.proofs.StoreFinds.{rows_order}
use Rattle.sqlite_site.proofs.StoreRows.{row_stands}
use Rattle.sqlite_site.proofs.StoreScans.{Below, rising, from_sorted, to_sorted}

-- ---- order bytes of rows

-- how a row stands to the rows of its own map and key
abbrev beside : Bool → Ordering
beside past = if past then Less else Greater

letter_low : (c : ℕ) → IsTrue (is_letter c) → c < 255
letter_low c is = grind arith

-- a table comes after the end of a key, and before 255
table_after : (table : Text) (rest : List ℕ) → byte_cmp (ended table ++ rest) [] ≡ Greater
table_after [] rest = refl
table_after (c ∷ cs) rest = refl

table_before : (table : Text) (rest : List ℕ) → IsTrue (is_name table) → byte_cmp (ended table ++ rest) (255 ∷ []) ≡ Less
table_before [] rest is = cc
table_before (c ∷ cs) rest is = ap (λ (b : Bool). ordering_then (if b then Less else if c == 255 then Equal else Greater) (byte_cmp (ended cs ++ rest) [])) (lt-ltb c 255 (letter_low c (and_parts (is_letter c) _ is).0))

-- The rows of a map from a key on, or past it, are those from these order bytes on.
pub row_from : (row : RowName) (name from : Text) (past : Bool) → IsRowName row → IsTrue (is_name name)
    → byte_cmp (ordered (at.Row row)) (rows_from name from past) ≡ ordering_then (byte_cmp row.map name) (ordering_then (byte_cmp row.key from) (beside past))
row_from row name from true is named =
    let rest = ended row.table ++ to_be_bytes w64 row.number in
    ap (byte_cmp (ordered (at.Row row))) (append_assoc (ended name) (escaped from) (255 ∷ []))
    ∙ names_keep row.map name (escaped row.key ++ rest) (escaped from ++ 255 ∷ []) is.map named
    ∙ ap (ordering_then (byte_cmp row.map name)) (escaped_keeps row.key from rest (255 ∷ [])
    ∙ ap (ordering_then (byte_cmp row.key from)) (table_before row.table (to_be_bytes w64 row.number) is.table))
row_from row name from false is named =
    let rest = ended row.table ++ to_be_bytes w64 row.number in
    names_keep row.map name (escaped row.key ++ rest) (escaped from) is.map named
    ∙ ap (ordering_then (byte_cmp row.map name)) (ap (byte_cmp (escaped row.key ++ rest)) (sym (append-nil (escaped from))) ∙ escaped_keeps row.key from rest []
    ∙ ap (ordering_then (byte_cmp row.key from)) (table_after row.table (to_be_bytes w64 row.number)))

-- ---- what follows from an order

first_low : (o p : Ordering) → is_ge (ordering_then o p) ≡ true → is_lt o ≡ false
first_low Less p h = absurd (true≢false (sym h))
first_low Equal p h = refl
first_low Greater p h = refl

first_up : (o p : Ordering) → is_gt (ordering_then o p) ≡ false → is_gt o ≡ false
first_up Less p h = refl
first_up Equal p h = refl
first_up Greater p h = h

second_up : (o p : Ordering) → o ≡ Equal → is_gt (ordering_then o p) ≡ false → is_gt p ≡ false
second_up Less p e h = cc
second_up Equal p e h = h
second_up Greater p e h = cc

even : (o : Ordering) → is_lt o ≡ false → is_gt o ≡ false → o ≡ Equal
even Less p q = cc
even Equal p q = refl
even Greater p q = cc

-- at or above a key, or past it
low_key : (past : Bool) (from key : Text) → is_ge (ordering_then (byte_cmp key from) (beside past)) ≡ true → IsTrue (if past then below from key else at_most from key)
low_key true from key h = sym (flip nat_list_cmp_total key from) ∙ above (byte_cmp key from) h
  where
    above : (o : Ordering) → is_ge (ordering_then o Less) ≡ true → is_gt o ≡ true
    above Less g = absurd (true≢false (sym g))
    above Equal g = absurd (true≢false (sym g))
    above Greater g = refl
low_key false from key h = ap not (flip nat_list_cmp_total from key ∙ first_low (byte_cmp key from) Greater h)

key_low : (past : Bool) (from key : Text) → IsTrue (if past then below from key else at_most from key) → is_ge (ordering_then (byte_cmp key from) (beside past)) ≡ true
key_low true from key h = above (byte_cmp key from) (flip nat_list_cmp_total key from ∙ h)
  where
    above : (o : Ordering) → is_gt o ≡ true → is_ge (ordering_then o Less) ≡ true
    above Less g = absurd (true≢false (sym g))
    above Equal g = absurd (true≢false (sym g))
    above Greater g = refl
key_low false from key h = above (byte_cmp key from) (sym (flip nat_list_cmp_total from key) ∙ not_true (is_gt (byte_cmp from key)) h)
  where
    not_true : (b : Bool) → IsTrue (not b) → b ≡ false
    not_true true g = cc
    not_true false g = refl

    above : (o : Ordering) → is_lt o ≡ false → is_ge (ordering_then o Greater) ≡ true
    above Less g = absurd (true≢false g)
    above Equal g = refl
    above Greater g = refl

-- ---- the first row

is_row : (c : Cell) → 10 ≡ kind_number (own_key c) → (row : RowName) × (bytes : Text) × (c ≡ cell.Row row bytes)
is_row (cell.Row row bytes) kind = (row, bytes, refl)
is_row (cell.Map name k type) kind = absurd (omega (arith, kind))
is_row (cell.Shard name location) kind = absurd (omega (arith, kind))
is_row (cell.Table name table) kind = absurd (omega (arith, kind))
is_row (cell.Piece piece) kind = absurd (omega (arith, kind))
is_row (cell.Log op) kind = absurd (omega (arith, kind))
is_row (cell.Job job) kind = absurd (omega (arith, kind))
is_row (cell.Counter counters) kind = absurd (omega (arith, kind))
is_row (cell.SiteState location state) kind = absurd (omega (arith, kind))
is_row (cell.Local local) kind = absurd (omega (arith, kind))

some_value : {A : Type 0} (x : Option A) → IsSome x → (a : A) × (x ≡ Some a)
some_value None h = cc
some_value (Some a) h = (a, refl)

mapped_some : {A B : Type 0} (f : A → B) (x : Option A) (b : B) → option_map f x ≡ Some b → IsSome x
mapped_some f None b e = cc
mapped_some f (Some a) b e = refl

module _ (all sorted : List Entry) (s : Store) (name from : Text) (past : Bool) (are : AreRowsOf all s) (named : IsTrue (is_name name))
    (perm : IsPermutation (filter (is_from 10 (rows_from name from past)) all) sorted) (up : IsAscending Below sorted) where
  -- the row cell of a key that is looked for
  abbrev row_at : (key : Text) → IsRowKey s.rows name from past key → RowName
  row_at key k = record { map = name; key = key; table = k.table; number = k.number }

  -- it has its row among those
  row_of : (key : Text) (k : IsRowKey s.rows name from past key) → (e : Entry) × (bytes : Text) × Has sorted e × IsEntryOf e.kind e (cell.Row (row_at key k) bytes)
  row_of key k =
      let v = some_value (map.get s.rows (row_at key k)) k.stands in
      let c = cell.Row (row_at key k) v.0 in
      let w = are.cells c (ap (option_map (cell.Row (row_at key k))) v.1) in
      let typed : IsRowName (row_at key k) = w.2.cell.typed.0 in
      let first : ordering_then (byte_cmp name name) (ordering_then (byte_cmp key from) (beside past)) ≡ ordering_then (byte_cmp key from) (beside past) = ap (λ o. ordering_then o (ordering_then (byte_cmp key from) (beside past))) (tied_itself nat_list_cmp_total name) in
      let low : is_ge (byte_cmp w.0.key (rows_from name from past)) ≡ true = ap (λ b. is_ge (byte_cmp b (rows_from name from past))) w.2.key ∙ ap is_ge (row_from (row_at key k) name from past typed named ∙ first) ∙ key_low past from key k.above in
      (w.0, v.0, to_sorted all sorted 10 (rows_from name from past) perm w.0 w.1 w.2.kind low, w.2)

  -- no row from there on
  none_from : sorted ≡ [] → IsNextKey s.rows name from past None
  none_from empty key k = let w = row_of key k in subst (λ es. Has es w.0) empty w.2

  module _ (e : Entry) (rest : List Entry) (row : RowName) (bytes : Text) (is : sorted ≡ e ∷ rest) (entry : IsEntryOf 10 e (cell.Row row bytes)) where
    here : Contains all e × (e.kind ≡ 10) × (is_ge (byte_cmp e.key (rows_from name from past)) ≡ true)
    here = from_sorted all sorted 10 (rows_from name from past) perm e (subst (λ es. Has es e) (sym is) (inl refl))

    own : IsEntryOf e.kind e (cell.Row row bytes)
    own = subst (λ n. IsEntryOf n e (cell.Row row bytes)) (sym here.1) entry

    typed : IsRowName row
    typed = own.cell.typed.0

    low : is_ge (ordering_then (byte_cmp row.map name) (ordering_then (byte_cmp row.key from) (beside past))) ≡ true
    low = ap is_ge (sym (ap (λ b. byte_cmp b (rows_from name from past)) own.key ∙ row_from row name from past typed named)) ∙ here.2

    -- it is at or below each one that is looked for
    least : (key : Text) (k : IsRowKey s.rows name from past key) → is_gt (cell_cmp (at.Row row) (at.Row (row_at key k))) ≡ false
    least key k = let w = row_of key k in by w.0 w.1 w.3 (subst (λ es. Has es w.0) is w.2)
      where
        by : (d : Entry) (b : Text) → IsEntryOf d.kind d (cell.Row (row_at key k) b) → Has (e ∷ rest) d → is_gt (cell_cmp (at.Row row) (at.Row (row_at key k))) ≡ false
        by d b it (inl same_row) = ap is_gt (sym (rows_order e d (cell.Row row bytes) (cell.Row (row_at key k) b) own it refl) ∙ ap (λ (x : Entry). byte_cmp e.key x.key) same_row ∙ tied_itself nat_list_cmp_total e.key)
        by d b it (inr later) = ap is_gt (sym (rows_order e d (cell.Row row bytes) (cell.Row (row_at key k) b) own it refl) ∙ all_has (Below e) rest d (subst (IsAscending Below) is up).0 later)

    other_from : same name row.map ≡ false → IsNextKey s.rows name from past None
    other_from other key k =
        let maps : row.map ≡ name = exact_texts row.map name (even (byte_cmp row.map name) (first_low (byte_cmp row.map name) _ low) (first_up (byte_cmp row.map name) _ (least key k))) in
        true≢false (sym (subst (λ m. same name m ≡ true) (sym maps) (same_self name)) ∙ other)

    first_from : same name row.map ≡ true → IsNextKey s.rows name from past (Some row.key)
    first_from mine =
        let maps : row.map ≡ name = sym (tied_is exact_texts name row.map mine) in
        let even_maps : byte_cmp row.map name ≡ Equal = ap (byte_cmp row.map) (sym maps) ∙ tied_itself nat_list_cmp_total row.map in (
          record {
            table = row.table;
            number = row.number;
            stands = subst (λ m. IsSome (map.get s.rows (record { map = m; key = row.key; table = row.table; number = row.number }))) maps (mapped_some (cell.Row row) (map.get s.rows row) (cell.Row row bytes) (row_stands all s are e (cell.Row row bytes) here.0 own));
            above = low_key past from row.key (sym (ap (λ o. is_ge (ordering_then o (ordering_then (byte_cmp row.key from) (beside past)))) even_maps) ∙ low);
          },
          λ key k. let later = second_up (byte_cmp row.map name) _ even_maps (least key k) in ap not (first_up (byte_cmp row.key key) _ later),
        )

pub nexts : (all : List Entry) (s : Store) (name from : Text) (past : Bool) (found : Option Text) → AreRowsOf all s → AreApart all → IsTrue (is_name name) → IsNextOf all name from past found → IsNextKey s.rows name from past found
nexts all s name from past found are apart named h = subst (IsNextKey s.rows name from past) (sym h.2) (by h.1.0 h.0 refl h.1.3)
  where
    up : IsAscending Below h.1.0
    up = rising all h.1.0 10 (rows_from name from past) h.1.1 apart h.1.2

    chosen : (e : Entry) (rest : List Entry) (row : RowName) (bytes : Text) (b : Bool) → h.1.0 ≡ e ∷ rest → IsEntryOf 10 e (cell.Row row bytes) → same name row.map ≡ b → IsNextKey s.rows name from past (if b then Some row.key else None)
    chosen e rest row bytes true is entry maps = first_from all h.1.0 s name from past are named h.1.1 up e rest row bytes is entry maps
    chosen e rest row bytes false is entry maps = other_from all h.1.0 s name from past are named h.1.1 up e rest row bytes is entry maps

    by : (sorted : List Entry) (page : List Cell) → h.1.0 ≡ sorted → AreEntriesOf 10 (take 1 sorted) page → IsNextKey s.rows name from past (first_key name page)
    by [] [] is entries = none_from all h.1.0 s name from past are named h.1.1 up is
    by [] (c ∷ cs) is entries = absurd entries
    by (e ∷ rest) [] is entries = absurd entries
    by (e ∷ rest) (c ∷ cs) is entries =
        let row = is_row c entries.0.kind in
        subst (λ x. IsNextKey s.rows name from past (first_key name (x ∷ cs))) (sym row.2) (chosen e rest row.0 row.1 _ is (subst (IsEntryOf 10 e) row.2 entries.0) refl)
