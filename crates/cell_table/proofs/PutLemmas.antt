-- What the third statement leaves.
use Rattle.std.proofs.Common.{◌≡◌, ◌⊎◌, inl, inr, ℕ, zero, suc, ℤ, ◌==◌, ◌&&◌, ◌||◌, not, pos, negsuc, List, [], ◌∷◌, ◌++◌, map, Bool, true, false, cond, Some, None, Option, Ok, Err, Result, OnOk, refl, sym, ap, ap₂, subst, ◌∙◌, true≢false, Less, Equal, Greater, Ordering, nat_cmp, int_cmp, is_eq, arith}
use Rattle.std.specs.Prelude.{filter, ◌+ℤ◌}
use Rattle.std.specs.List.{AllByRecursion, fold}
use Rattle.std.specs.Cmp.{both_ways}
use Rattle.sqlite_value.specs.declared.keys.Key.{Key}
use Rattle.std.specs.Cmp.Lexicographic.{slice_cmp}
use Rattle.std.proofs.lemmas.Bool.Decides.{nat_tests}
use Rattle.std.proofs.lemmas.Cmp.{int_cmp_total, nat_list_cmp_total}
use Rattle.sqlite_value.specs.declared.value.Value.{Value}
use Rattle.sqlite_value.specs.declared.value.Value.TheVariants.{Null, Int, Blob}
use Rattle.sqlite_value.specs.declared.keys.Collation.TheVariants.{Binary}
use Rattle.sqlite_value.specs.Keys.{plain, first_key}
use Rattle.sqlite_value.specs.Order.{Row}
use Rattle.sqlite_value.proofs.OrderLemmas.{value_cmp-Int, value_cmp-Blob}
use Rattle.sqlite_value.proofs.KeyLemmas.{first_key-plain}
use Rattle.sqlite.specs.Term.{Term, lit, col}
use Rattle.sqlite.specs.Ops.{unary}
use Rattle.sqlite_sql.specs.declared.ops.CompareOp.TheVariants.{Eq}
use Rattle.sqlite_schema.specs.Rules.{equal}
use Rattle.sqlite_schema.specs.declared.schema.Keys.{Keys}
use Rattle.sqlite.specs.Kind.TheVariants.{Integer}
use Rattle.sqlite.specs.Cast.{cast, cast_row}
use Rattle.sqlite.specs.Tree.{Trees, rowid, put_row}
use Rattle.sqlite.specs.Edit.{edit_of, edited, without_all, id_in, next_rowid, with_rowid}
use Rattle.sqlite.specs.Rowids.TheVariants.{Given, Chosen}
use Rattle.sqlite_rules.specs.Calls.{ids_of}
use Rattle.sqlite_rules.specs.Keys.{AreConflicts, conflicts}
use Rattle.sqlite_rules.specs.Lists.{Has}
use Rattle.sqlite_rules.proofs.ListLemmas.{some_has, some_from, has_kept, has_filtered, all_from, all_has}
use Rattle.sqlite_rules.specs.declared.error.Refusal.{Refusal}
use Rattle.sqlite_schema.specs.declared.command.Conflict.TheVariants.{Replace}
use Rattle.sqlite.specs.Source.TheVariants.{Values}
use Rattle.sqlite.specs.Command.TheVariants.{InsertOr}
use Rattle.sqlite.specs.Rows.{Written, Task, Puts, Clears, Judged, Tries, TriesEach, nothing, count_of, mended}
use Rattle.sqlite.specs.Does.{Tally, Does}
use Rattle.sqlite.specs.Effect.{Database}
use Rattle.sqlite.specs.declared.error.Error.{Error}
use Rattle.sqlite.specs.State.{State, mode_of, Executes}
use Rattle.sqlite.specs.Listing.{understood}
use Rattle.sqlite.proofs.Callers.{statement_of, runs_as, one_step}
use Rattle.sqlite_catalog.proofs.LayoutLemmas.{ascending_filter}
use Rattle.sqlite_catalog.proofs.ListFacts.{ascending_push}
use Rattle.std.specs.Ordering.{ordering_reverse}
use Rattle.cell_table.specs.Cells.{cells, by_key, cells_schema, Entry, row_of, is_at, others, Rises, Holds}
use Rattle.cell_table.proofs.TextLemmas.{put_text, put_is, put_plain}
use Rattle.cell_table.proofs.FloorLemmas.{test_is, eq_is}
use Rattle.cell_table.proofs.DeleteLemmas.{has_id, is_gone, without_all_is, same_filter, tells, own_id, any_map, rises_kept, went, same_value}

abbrev pub three : ℕ → List ℕ → List ℕ → Row
three kind key value = Int (pos kind) ∷ Blob key ∷ Blob value ∷ []

abbrev terms : List Term
terms = lit Null ∷ col 0 0 ∷ col 0 1 ∷ col 0 2 ∷ []

either : (b : Bool) (x : Value) → cond b x x ≡ x
either true x = refl
either false x = refl

cast_null : cast Integer Null ≡ Null
unfolding unary
cast_null = either _ Null

cast_int : (n : ℤ) → cast Integer (Int n) ≡ Int n
unfolding unary
cast_int n = either _ (Int n)

cast_cell : (c : Entry) → cast_row cells (row_of c) ≡ row_of c
cast_cell c = ap₂ (λ a b. a ∷ b ∷ Blob c.key ∷ Blob c.value ∷ []) (cast_int c.id) (cast_int (pos c.kind))

-- ---- the new number

up_one : (n : ℤ) → int_cmp n (n +ℤ pos 1) ≡ Less
up_one (pos n) = grind (arith, nat_tests)
up_one (negsuc zero) = refl
up_one (negsuc (suc n)) = grind (arith, nat_tests)

next_above : (start : ℤ) (x : Entry) (xs : List Entry) → Rises (x ∷ xs) → AllByRecursion (λ b. int_cmp b.id (fold (λ _ r. id_in (rowid r) +ℤ pos 1) start (map row_of (x ∷ xs))) ≡ Less) (x ∷ xs)
next_above start x [] up = (up_one x.id, tt)
next_above start x (y ∷ ys) up =
    let more = next_above (x.id +ℤ pos 1) y ys up.1 in (int_cmp_total.trans x.id y.id _ up.0.0 more.0, more)

next_is_above : (all : List Entry) → Rises all → AllByRecursion (λ b. int_cmp b.id (next_rowid (map row_of all)) ≡ Less) all
next_is_above [] up = tt
next_is_above (x ∷ xs) up = next_above (pos 1) x xs up

put_last : (c : Entry) (all : List Entry) → AllByRecursion (λ b. int_cmp b.id c.id ≡ Less) all → put_row (row_of c) (map row_of all) ≡ map row_of (all ++ c ∷ [])
put_last c [] low = refl
put_last c (x ∷ xs) low = rw (value_cmp-Int x.id c.id, low.0) (ap (λ rs. row_of x ∷ rs) (put_last c xs low.1))

rises_below : (x c : Entry) (xs : List Entry) → AllByRecursion (λ b. int_cmp x.id b.id ≡ Less) xs → int_cmp x.id c.id ≡ Less → AllByRecursion (λ b. int_cmp x.id b.id ≡ Less) (xs ++ c ∷ [])
rises_below x c [] h last = (last, tt)
rises_below x c (y ∷ ys) h last = (h.0, rises_below x c ys h.1 last)

rises_push : (c : Entry) (all : List Entry) → Rises all → AllByRecursion (λ b. int_cmp b.id c.id ≡ Less) all → Rises (all ++ c ∷ [])
rises_push c [] up low = (tt, tt)
rises_push c (x ∷ xs) up low = (rises_below x c xs up.0 low.0, rises_push c xs up.1 low.1)

-- ---- the cells in the way

equal_is : (a b : Value) → equal (first_key plain).collation a b ≡ equal Binary a b
equal_is a b = ap (λ (k : Key). equal k.collation a b) first_key-plain

turned_eq : (o : Ordering) → is_eq (ordering_reverse o) ≡ is_eq o
turned_eq Less = refl
turned_eq Equal = refl
turned_eq Greater = refl

eq_swap : (a b : ℕ) → (a == b) ≡ (b == a)
eq_swap a b = grind (arith, nat_tests)

not_true : (b : Bool) → not b ≡ true → b ≡ false
not_true true h = absurd (true≢false (sym h))
not_true false h = refl

or_false : (a b : Bool) → ((false && true) || ((a && (b && true)) || false)) ≡ (a && b)
or_false true true = refl
or_false true false = refl
or_false false b = refl

-- `x` is the cell that is put
conflict_is : (c x : Entry) → int_cmp c.id x.id ≡ Less → conflicts None (by_key ∷ []) cells (row_of x) (row_of c) ≡ is_at x.kind x.key c
conflict_is c x low =
    let ids : equal (first_key plain).collation (Int c.id) (Int x.id) ≡ false = equal_is _ _ ∙ test_is Eq (Int c.id) (Int x.id) refl refl ∙ ap is_eq (value_cmp-Int c.id x.id) ∙ ap is_eq low in
    let kinds : equal (first_key plain).collation (Int (pos c.kind)) (Int (pos x.kind)) ≡ (c.kind == x.kind) = equal_is _ _ ∙ test_is Eq (Int (pos c.kind)) (Int (pos x.kind)) refl refl
    ∙ ap is_eq (value_cmp-Int (pos c.kind) (pos x.kind)) ∙ eq_is c.kind x.kind in
    let keys : equal (first_key plain).collation (Blob c.key) (Blob x.key) ≡ is_eq (slice_cmp nat_cmp c.key x.key) = equal_is _ _ ∙ test_is Eq (Blob c.key) (Blob x.key) refl refl ∙ ap is_eq (value_cmp-Blob c.key x.key) in
    ap₂ (λ a t. (a && true) || (t || false)) ids (ap₂ (λ b d. b && (d && true)) kinds keys) ∙ or_false _ _

has_mapped : (all : List Entry) (c : Entry) → Has all c → Has (map row_of all) (row_of c)
has_mapped [] c h = absurd h
has_mapped (d ∷ ds) c (inl same) = inl (ap row_of same)
has_mapped (d ∷ ds) c (inr later) = inr (has_mapped ds c later)

has_of : (all : List Entry) (row : Row) → Has (map row_of all) row → (c : Entry) × Has all c × (row ≡ row_of c)
has_of [] row h = absurd h
has_of (d ∷ ds) row (inl same) = (d, inl refl, same)
has_of (d ∷ ds) row (inr later) = let it = has_of ds row later in (it.0, inr it.1, it.2)

-- a cell's number is among those found exactly where the cell is at the key
found_are : (x : Entry) (all : List Entry) (found : List Row) → Rises all → AllByRecursion (λ b. int_cmp b.id x.id ≡ Less) all → AreConflicts None (by_key ∷ []) cells (map row_of all) (row_of x) found
    → AllByRecursion (λ c. is_gone (ids_of found) c ≡ is_at x.kind x.key c) all
found_are x all found up low are = all_from _ all (λ c here. each c here)
  where
    p : Entry → Bool
    p = is_at x.kind x.key

    same : (c : Entry) → Has all c → conflicts None (by_key ∷ []) cells (row_of x) (row_of c) ≡ is_at x.kind x.key c
    same c here = conflict_is c x (all_has (λ b. int_cmp b.id x.id ≡ Less) all c low here)

    there : (c : Entry) → Has all c → is_gone (ids_of found) c ≡ true → is_at x.kind x.key c ≡ true
    there c here gone =
        let one = some_has (λ r. has_id (id_in (rowid r)) c) found (sym (any_map (λ id. has_id id c) (λ r. id_in (rowid r)) found) ∙ gone) in
        let row = are.sound one.0 one.1 in
        let d = has_of all row.0 row.1 in
        let at : is_at x.kind x.key d.0 ≡ true = sym (same d.0 d.1) ∙ subst (λ r. conflicts None (by_key ∷ []) cells (row_of x) r ≡ true) d.2 row.2 in
        let id : has_id d.0.id c ≡ true = subst (λ r. has_id (id_in (rowid (rowid r ∷ []))) c ≡ true) d.2 (subst (λ r. has_id (id_in (rowid r)) c ≡ true) row.3 one.2) in
        sym (all_has _ all c (tells (is_at x.kind x.key) all up) here) ∙ some_from (λ e. has_id e.id c) (filter (is_at x.kind x.key) all) d.0 (has_kept (is_at x.kind x.key) all d.0 d.1 at) id

    back : (c : Entry) → Has all c → is_at x.kind x.key c ≡ true → is_gone (ids_of found) c ≡ true
    back c here at =
        any_map (λ id. has_id id c) (λ r. id_in (rowid r)) found
        ∙ some_from (λ r. has_id (id_in (rowid r)) c) found (Int c.id ∷ []) (are.complete (row_of c) (has_mapped all c here) (same c here ∙ at)) (own_id (int_cmp c.id c.id) (int_cmp_total.antisymm c.id c.id))

    each : (c : Entry) → Has all c → is_gone (ids_of found) c ≡ is_at x.kind x.key c
    each c here = both_ways _ _ (there c here) (back c here)

low_kept : (id : ℤ) (p : Entry → Bool) (all : List Entry) → AllByRecursion (λ b. int_cmp b.id id ≡ Less) all → AllByRecursion (λ b. int_cmp b.id id ≡ Less) (filter p all)
low_kept id p all low = all_from _ (filter p all) (λ c here. all_has (λ b. int_cmp b.id id ≡ Less) all c low (has_filtered p all c here).0)

-- ---- the statement

module _ (limit : Option ℕ) (keys : Keys) (params : Row) (x : Entry) where
  abbrev task : Task
  task = record { limit = limit; keys = keys; schema = cells_schema; table = cells; params = params }

  puts_are : (db : Trees) (all : List Entry) (one : Written) → db 0 ≡ map row_of all → AllByRecursion (λ b. int_cmp b.id x.id ≡ Less) all → Puts task (row_of x) db (Ok one) → one.trees 0 ≡ map row_of (all ++ x ∷ [])
  puts_are db all one are low h =
      let put = went h in
      let trees : one.trees ≡ put.0 = ap (λ (it : Written). it.trees) (same_value put.2) in
      let rows = (one_step cells_schema _ db put.0 (edit_of db cells [] Given 0 (row_of x ∷ [])) refl put.1).rows in
      let edit : edited db (edit_of db cells [] Given 0 (row_of x ∷ [])) ≡ map row_of (all ++ x ∷ []) = ap (λ r. put_row r (db 0)) (cast_cell x) ∙ ap (put_row (row_of x)) are ∙ put_last x all low in
      ap (λ (t : Trees). t 0) trees ∙ rows ∙ edit

  clears_are : (db : Trees) (all : List Entry) (found : List Row) (one : Written) → db 0 ≡ map row_of all → Rises all → AllByRecursion (λ b. int_cmp b.id x.id ≡ Less) all
      → AllByRecursion (λ c. is_gone (ids_of found) c ≡ is_at x.kind x.key c) all → Clears task Replace (row_of x) db found (Ok one) → one.trees 0 ≡ map row_of (others x.kind x.key all ++ x ∷ [])
  clears_are db all [] one are up low gone h =
      puts_are db (others x.kind x.key all) one (are ∙ without_all_is (ids_of []) all ∙ ap (map row_of) (same_filter (is_gone (ids_of [])) (is_at x.kind x.key) all gone)) (low_kept x.id _ all low) h
  clears_are db all (f ∷ fs) one are up low gone h =
      let cleared = went h in
      let ids = ids_of (f ∷ fs) in
      let rows = (one_step cells_schema _ db cleared.0 (edit_of db cells ids Given 0 []) refl cleared.1).rows in
      puts_are cleared.0 (others x.kind x.key all) one (rows ∙ ap (λ rs. without_all rs ids) are ∙ without_all_is ids all ∙ ap (map row_of) (same_filter (is_gone ids) (is_at x.kind x.key) all gone))
      (low_kept x.id _ all low) cleared.2

  judged_are : (db : Trees) (all : List Entry) (verdict : Option Refusal) (one : Written) → db 0 ≡ map row_of all → Rises all → AllByRecursion (λ b. int_cmp b.id x.id ≡ Less) all
      → Judged task Replace [] (row_of x) db verdict (Ok one) → one.trees 0 ≡ map row_of (others x.kind x.key all ++ x ∷ [])
  judged_are db all None one are up low h =
      clears_are db all h.0 one are up low (found_are x all h.0 up low (subst (λ rs. AreConflicts None (by_key ∷ []) cells rs (row_of x) h.0) are h.1)) h.2
  judged_are db all (Some why) one are up low h = absurd (let e : ◌≡◌ {A = Result Written (Option Error)} (Ok one) (Err _) = h in cc)

  tries_are : (db : Trees) (all : List Entry) (one : Written) → db 0 ≡ map row_of all → Rises all → AllByRecursion (λ b. int_cmp b.id x.id ≡ Less) all
      → Tries task Replace [] (row_of x) db (Ok one) → one.trees 0 ≡ map row_of (others x.kind x.key all ++ x ∷ [])
  tries_are db all one are up low (inl big) = absurd (let e = big.1 in cc)
  tries_are db all one are up low (inr went_on) = judged_are db all went_on.0 one are up low went_on.2

abbrev pub new_cell : List Entry → ℕ → List ℕ → List ℕ → Entry
new_cell all kind key value = record { id = next_rowid (map row_of all); kind = kind; key = key; value = value }

new_is : (kind : ℕ) (key value : List ℕ) (all : List Entry) (rows : List Row) → rows ≡ map row_of all
    → with_rowid Chosen rows (cast_row cells (mended Replace cells (Null ∷ three kind key value))) ≡ row_of (new_cell all kind key value)
new_is kind key value all rows are = rw (cast_null, cast_int (pos kind), are) refl

at_swap : (a b : Entry) → is_at a.kind a.key b ≡ is_at b.kind b.key a
at_swap a b = ap₂ (λ x y. x && y) (eq_swap b.kind a.kind) (ap is_eq (nat_list_cmp_total.antisymm b.key a.key) ∙ turned_eq _)

other_is : (x c : Entry) → not (is_at x.kind x.key c) ≡ true → is_at c.kind c.key x ≡ false
other_is x c h = at_swap c x ∙ not_true _ h

pub puts : (old new : State) (kind : ℕ) (key value : List ℕ) (all : List Entry) (r : Result ℕ Error) → Holds old.now all → Executes put_text (three kind key value) old new r
    → OnOk r (Holds new.now (others kind key all ++ new_cell all kind key value ∷ []))
puts old new kind key value all (Err e) has h = tt
puts old new kind key value all (Ok count) has h =
    let params = three kind key value in
    let db = old.now.trees in
    let x = new_cell all kind key value in
    let command = InsertOr 0 Replace (Values terms 4) [] in
    let w = runs_as put_text params old new cells_schema has.schema command put_is put_plain count h in
    let text = statement_of put_text (understood cells_schema put_text) in
    let done = went (subst (λ s. Does old.step_limit (mode_of old) params (record old.now { schema = s }) text None command (Ok (w.tally, new.now))) has.schema w.changed) in
    let now = ap (λ (p : Tally × Database). p.1) (same_value (went (went done.2).2).2) in
    let given = went done.1 in
    let counted = went given.2 in
    let tried = went counted.2 in
    let ended = went tried.2 in
    let low = next_is_above all has.rises in
    let t = task old.step_limit (mode_of old).keys params x in
    let each = subst (λ rs. TriesEach t Replace [] rs (count_of counted.0) (nothing db) (Ok tried.0)) given.1.1 tried.1 in
    let one = went each in
    let row = tries_are old.step_limit (mode_of old).keys params x db all one.0 has.rows has.rises low (subst (λ r. Tries t Replace [] r db (Ok one.0)) (new_is kind key value all (db 0) has.rows) one.1) in
    record {
      schema = ap (λ (d : Database). d.schema) now;
      rows = ap (λ (d : Database). d.trees 0) now ∙ ap (λ (it : Written). it.trees 0) (same_value ended.2) ∙ ap (λ (trees : Trees). trees 0) (same_value ended.1)
          ∙ ap (λ (p : Written × ℤ). p.0.trees 0) (same_value one.2) ∙ row;
      rises = rises_push x (others kind key all) (rises_kept _ all has.rises) (low_kept x.id _ all low);
      apart = ascending_push _ (others kind key all) x (ascending_filter _ (λ c. not (is_at kind key c)) all has.apart) (λ c here. other_is x c (has_filtered (λ d. not (is_at kind key d)) all c here).1);
    }
