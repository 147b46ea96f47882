-- What the fourth statement leaves.
use Rattle.std.proofs.Common.{◌≡◌, ◌⊎◌, inl, inr, ℕ, ℤ, ◌==◌, ◌&&◌, ◌||◌, not, pos, List, [], ◌∷◌, ◌++◌, map, Bool, true, false, cond, None, Ok, Err, Result, OnOk, refl, sym, ap, ap₂, subst, ◌∙◌, true≢false, Less, Equal, Greater, Ordering, int_cmp, is_eq}
use Rattle.std.specs.Prelude.{filter, flat_map, IsPermutation}
use Rattle.std.specs.List.{list_all, list_any, AllByRecursion}
use Rattle.std.specs.Ordering.{ordering_reverse}
use Rattle.std.proofs.lemmas.Cmp.{int_cmp_total}
use Rattle.std.proofs.lemmas.List.Sorted.{list_any-IsPermutation}
use Rattle.sqlite_value.specs.declared.value.Value.TheVariants.{Null, Int, Blob}
use Rattle.sqlite_value.specs.Order.{Row}
use Rattle.sqlite_value.proofs.OrderLemmas.{value_cmp-Int, value_cmp-Blob}
use Rattle.sqlite.specs.Term.{Env, holds}
use Rattle.sqlite_sql.specs.declared.ops.CompareOp.TheVariants.{Eq}
use Rattle.sqlite.specs.Query.{IsAnswer, output, Output}
use Rattle.sqlite.specs.Program.{overlay}
use Rattle.sqlite.specs.Tree.{Trees, rowid, without_rowid}
use Rattle.sqlite.specs.Edit.{edit_of, without_all, id_in}
use Rattle.sqlite_rules.specs.Calls.{ids_of}
use Rattle.sqlite.specs.Rowids.TheVariants.{Given}
use Rattle.sqlite.specs.Rows.{Written}
use Rattle.sqlite.specs.Does.{Tally, Does}
use Rattle.sqlite.specs.Effect.{Database}
use Rattle.sqlite.specs.declared.error.Error.{Error}
use Rattle.sqlite.specs.Command.TheVariants.{Delete}
use Rattle.sqlite.specs.State.{State, mode_of, Executes}
use Rattle.sqlite.specs.Listing.{understood}
use Rattle.sqlite.proofs.Callers.{statement_of, runs_as, one_step}
use Rattle.sqlite_catalog.proofs.LayoutLemmas.{ascending_filter}
use Rattle.cell_table.specs.Cells.{cells, cells_schema, Entry, row_of, is_at, others, Rises, Holds}
use Rattle.cell_table.proofs.TextLemmas.{delete_text, delete_query, delete_is, delete_plain}
use Rattle.cell_table.proofs.FloorLemmas.{params_of, test_is, eq_is, and_true}

holds_is : (kind : ℕ) (key : List ℕ) (c : Entry) → list_all (holds (params_of kind key ∷ row_of c ∷ [])) delete_query.filter ≡ is_at kind key c
holds_is kind key c =
    let one = test_is Eq (Int (pos c.kind)) (Int (pos kind)) refl refl ∙ ap is_eq (value_cmp-Int (pos c.kind) (pos kind)) ∙ eq_is c.kind kind in
    let two = test_is Eq (Blob c.key) (Blob key) refl refl ∙ ap is_eq (value_cmp-Blob c.key key) in
    ap₂ (λ a b. a && (b && true)) one two ∙ and_true _ _

abbrev out : Entry → Output
out c = ([], Int c.id ∷ [])

one_more : (b : Bool) (env : Env) (rest : List Env) (c : Entry) (cs : List Entry) → output delete_query env ≡ out c → map (output delete_query) rest ≡ map out cs
    → map (output delete_query) (cond b (env ∷ []) [] ++ rest) ≡ map out (cond b (c ∷ cs) cs)
one_more true env rest c cs p q = ap₂ (λ x xs. x ∷ xs) p q
one_more false env rest c cs p q = q

outputs_are : (kind : ℕ) (key : List ℕ) (all : List Entry)
    → map (output delete_query) (flat_map (λ r. cond (list_all (holds (params_of kind key ∷ r ∷ [])) delete_query.filter) ((params_of kind key ∷ r ∷ []) ∷ []) []) (map row_of all)) ≡ map out (filter (is_at kind key) all)
outputs_are kind key [] = refl
outputs_are kind key (c ∷ cs) = rw (holds_is kind key c) (one_more (is_at kind key c) _ _ c _ refl (outputs_are kind key cs))

-- ---- the rows without some numbers

abbrev pub has_id : ℤ → Entry → Bool
has_id id c = is_eq (int_cmp c.id id)

abbrev pub is_gone : List ℤ → Entry → Bool
is_gone ids c = list_any (λ id. has_id id c) ids

pub kept_row : (b e : Bool) (c : Entry) (rows : List Row) (cs : List Entry) → b ≡ e → rows ≡ map row_of cs → cond (not b) (row_of c ∷ rows) rows ≡ map row_of (cond (not e) (c ∷ cs) cs)
kept_row b true c rows cs same p = rw same p
kept_row b false c rows cs same p = rw same (ap (λ rs. row_of c ∷ rs) p)

pub without_one : (id : ℤ) (all : List Entry) → without_rowid id (map row_of all) ≡ map row_of (filter (λ c. not (has_id id c)) all)
without_one id [] = refl
without_one id (c ∷ cs) = kept_row _ (has_id id c) c _ _ (ap is_eq (value_cmp-Int c.id id)) (without_one id cs)

filter_step : (p q : Entry → Bool) (c : Entry) (ds es : List Entry) (b e : Bool) → q c ≡ e → filter (λ d. not (q d)) ds ≡ es → filter (λ d. not (q d)) (cond (not b) (c ∷ ds) ds) ≡ cond (not (b || e)) (c ∷ es) es
filter_step p q c ds es true e y rest = rest
filter_step p q c ds es false true y rest = rw y rest
filter_step p q c ds es false false y rest = rw y (ap (λ xs. c ∷ xs) rest)

both_filters : (p q : Entry → Bool) (all : List Entry) → filter (λ c. not (q c)) (filter (λ c. not (p c)) all) ≡ filter (λ c. not (p c || q c)) all
both_filters p q [] = refl
both_filters p q (c ∷ cs) = filter_step p q c _ _ (p c) (q c) refl (both_filters p q cs)

all_stay : (all : List Entry) → all ≡ filter (λ c. true) all
all_stay [] = refl
all_stay (c ∷ cs) = ap (λ ds. c ∷ ds) (all_stay cs)

pub without_all_is : (ids : List ℤ) (all : List Entry) → without_all (map row_of all) ids ≡ map row_of (filter (λ c. not (is_gone ids c)) all)
without_all_is [] all = ap (map row_of) (all_stay all)
without_all_is (id ∷ ids) all =
    ap (λ rows. without_all rows ids) (without_one id all) ∙ without_all_is ids (filter (λ c. not (has_id id c)) all) ∙ ap (map row_of) (both_filters (has_id id) (is_gone ids) all)

-- ---- where the numbers rise, they tell the cells apart

any_more : (f : Entry → Bool) (b : Bool) (y : Entry) (fs : List Entry) → f y ≡ false → list_any f fs ≡ false → list_any f (cond b (y ∷ fs) fs) ≡ false
any_more f true y fs p q = rw p q
any_more f false y fs p q = q

apart : (p : Entry → Bool) (x : Entry) (xs : List Entry) → AllByRecursion (λ b. int_cmp x.id b.id ≡ Less) xs → list_any (λ d. has_id d.id x) (filter p xs) ≡ false
apart p x [] low = refl
apart p x (y ∷ ys) low = any_more (λ d. has_id d.id x) (p y) y (filter p ys) (ap is_eq low.0) (apart p x ys low.1)

pub own_id : (o : Ordering) → o ≡ ordering_reverse o → is_eq o ≡ true
own_id Less e = absurd (true≢false (ap is_eq' e))
  where
    is_eq' : Ordering → Bool
    is_eq' Less = true
    is_eq' Equal = false
    is_eq' Greater = false
own_id Equal e = refl
own_id Greater e = absurd (true≢false (ap is_gt' e))
  where
    is_gt' : Ordering → Bool
    is_gt' Less = false
    is_gt' Equal = false
    is_gt' Greater = true

both_all : {X : Type 0} (P Q R : X → Type 0) → ((x : X) → P x → Q x → R x) → (xs : List X) → AllByRecursion P xs → AllByRecursion Q xs → AllByRecursion R xs
both_all P Q R f [] p q = tt
both_all P Q R f (x ∷ xs) p q = (f x p.0 q.0, both_all P Q R f xs p.1 q.1)

first_is : (p : Entry → Bool) (x : Entry) (fs : List Entry) (b : Bool) → list_any (λ d. has_id d.id x) fs ≡ false → list_any (λ d. has_id d.id x) (cond b (x ∷ fs) fs) ≡ b
first_is p x fs true none = rw (own_id (int_cmp x.id x.id) (int_cmp_total.antisymm x.id x.id)) refl
first_is p x fs false none = none

later_is : (c x : Entry) (fs : List Entry) (b e : Bool) → int_cmp x.id c.id ≡ Less → list_any (λ d. has_id d.id c) fs ≡ e → list_any (λ d. has_id d.id c) (cond b (x ∷ fs) fs) ≡ e
later_is c x fs true e low h = rw (int_cmp_total.antisymm c.id x.id, low) h
later_is c x fs false e low h = h

-- a cell has the number of one that passes exactly where it passes
pub tells : (p : Entry → Bool) (all : List Entry) → Rises all → AllByRecursion (λ c. list_any (λ d. has_id d.id c) (filter p all) ≡ p c) all
tells p [] up = tt
tells p (x ∷ xs) up = (first_is p x (filter p xs) (p x) (apart p x xs up.0), both_all _ _ _ (λ c low h. later_is c x (filter p xs) (p x) (p c) low h) xs up.0 (tells p xs up.1))

pub same_filter : (p q : Entry → Bool) (all : List Entry) → AllByRecursion (λ c. p c ≡ q c) all → filter (λ c. not (p c)) all ≡ filter (λ c. not (q c)) all
same_filter p q [] same = refl
same_filter p q (c ∷ cs) same = ap₂ (λ b ds. cond (not b) (c ∷ ds) ds) same.0 (same_filter p q cs same.1)

pub any_map : {X Y : Type 0} (f : Y → Bool) (g : X → Y) (xs : List X) → list_any f (map g xs) ≡ list_any (λ x. f (g x)) xs
any_map f g [] = refl
any_map f g (x ∷ xs) = ap (λ b. f (g x) || b) (any_map f g xs)

mapped : {X : Type 0} (P Q : X → Type 0) → ((x : X) → P x → Q x) → (xs : List X) → AllByRecursion P xs → AllByRecursion Q xs
mapped P Q f [] h = tt
mapped P Q f (x ∷ xs) h = (f x h.0, mapped P Q f xs h.1)

-- the rows without the numbers of those that pass are those that do not
pub taken_out : (p : Entry → Bool) (all : List Entry) (ids : List ℤ) → Rises all → ((c : Entry) → is_gone ids c ≡ list_any (λ d. has_id d.id c) (filter p all))
    → without_all (map row_of all) ids ≡ map row_of (filter (λ c. not (p c)) all)
taken_out p all ids up gone = without_all_is ids all ∙ ap (map row_of) (same_filter (is_gone ids) p all (mapped _ _ (λ c h. gone c ∙ h) all (tells p all up)))

below_more : (x : Entry) (b : Bool) (c : Entry) (cs : List Entry) → int_cmp x.id c.id ≡ Less → AllByRecursion (λ b. int_cmp x.id b.id ≡ Less) cs → AllByRecursion (λ b. int_cmp x.id b.id ≡ Less) (cond b (c ∷ cs) cs)
below_more x true c cs h t = (h, t)
below_more x false c cs h t = t

rises_more : (b : Bool) (c : Entry) (cs : List Entry) → AllByRecursion (λ b. int_cmp c.id b.id ≡ Less) cs → Rises cs → Rises (cond b (c ∷ cs) cs)
rises_more true c cs h t = (h, t)
rises_more false c cs h t = t

below_kept : (x : Entry) (p : Entry → Bool) (all : List Entry) → AllByRecursion (λ b. int_cmp x.id b.id ≡ Less) all → AllByRecursion (λ b. int_cmp x.id b.id ≡ Less) (filter p all)
below_kept x p [] h = tt
below_kept x p (c ∷ cs) h = below_more x (p c) c (filter p cs) h.0 (below_kept x p cs h.1)

pub rises_kept : (p : Entry → Bool) (all : List Entry) → Rises all → Rises (filter p all)
rises_kept p [] h = tt
rises_kept p (c ∷ cs) h = rises_more (p c) c (filter p cs) (below_kept c p cs h.0) (rises_kept p cs h.1)

-- ---- the statement

pub went : {B E R : Type 0} {b : B} {Stops : E → Type 0} → ((stop : E) × Stops stop × (Ok b ≡ Err stop)) ⊎ R → R
went (inl stopped) = absurd (let e = stopped.2 in cc)
went (inr on) = on

pub same_value : {B E : Type 0} {a b : B} → ◌≡◌ {A = Result B E} (Ok a) (Ok b) → a ≡ b
same_value e = cc

gone_are : (kind : ℕ) (key : List ℕ) (all : List Entry) (ordered : List Output) → IsPermutation (map out (filter (is_at kind key) all)) ordered → (c : Entry)
    → is_gone (ids_of (map (λ o. o.1) ordered)) c ≡ list_any (λ d. has_id d.id c) (filter (is_at kind key) all)
gone_are kind key all ordered same c =
    any_map (λ id. has_id id c) (λ r. id_in (rowid r)) (map (λ o. o.1) ordered) ∙ any_map (λ r. has_id (id_in (rowid r)) c) (λ o. o.1) ordered
    ∙ sym (list_any-IsPermutation (λ (o : Output). has_id (id_in (rowid o.1)) c) _ ordered same) ∙ any_map (λ (o : Output). has_id (id_in (rowid o.1)) c) out (filter (is_at kind key) all)

pub deletes : (old new : State) (kind : ℕ) (key : List ℕ) (all : List Entry) (r : Result ℕ Error) → Holds old.now all → Executes delete_text (params_of kind key) old new r
    → OnOk r (Holds new.now (others kind key all))
deletes old new kind key all (Err e) has h = tt
deletes old new kind key all (Ok count) has h =
    let params = params_of kind key in
    let db = old.now.trees in
    let command = Delete 0 (record { lets = []; body = delete_query }) in
    let w = runs_as delete_text params old new cells_schema has.schema command delete_is delete_plain count h in
    let text = statement_of delete_text (understood cells_schema delete_text) in
    let done = went (subst (λ s. Does old.step_limit (mode_of old) params (record old.now { schema = s }) text None command (Ok (w.tally, new.now))) has.schema w.changed) in
    let now = ap (λ (p : Tally × Database). p.1) (same_value (went (went done.2).2).2) in
    let given = went done.1 in
    let a : IsAnswer delete_query (overlay db []) params given.0 = given.1.answer Null in
    let written = went given.2 in
    let trees : done.0.trees ≡ written.0 = ap (λ (it : Written). it.trees) (same_value written.2) in
    let rows = (one_step cells_schema _ db written.0 (edit_of db cells (ids_of given.0) Given 0 []) refl written.1).rows in
    let kept : a.kept ≡ map out (filter (is_at kind key) all) = a.distinct ∙ ap (map (output delete_query)) a.grouped
    ∙ ap (λ rs. map (output delete_query) (flat_map (λ r. cond (list_all (holds (params ∷ r ∷ [])) delete_query.filter) ((params ∷ r ∷ []) ∷ []) []) rs)) has.rows ∙ outputs_are kind key all in
    record {
      schema = ap (λ (d : Database). d.schema) now;
      rows = ap (λ (d : Database). d.trees 0) now ∙ ap (λ (t : Trees). t 0) trees ∙ rows ∙ ap (λ rs. without_all rs (ids_of given.0)) has.rows ∙ ap (λ rs. without_all (map row_of all) (ids_of rs)) a.shown
          ∙ taken_out (is_at kind key) all _ has.rises (gone_are kind key all a.ordered (subst (λ k. IsPermutation k a.ordered) kept a.same));
      rises = rises_kept (λ c. not (is_at kind key c)) all has.rises;
      apart = ascending_filter _ (λ c. not (is_at kind key c)) all has.apart;
    }

-- a fact for each list of cells, where the call was made
pub for_each : {X E A : Type 0} (H P : A → Type 0) (r : Result X E) → ((a : A) → H a → OnOk r (P a)) → OnOk r ((a : A) → H a → P a)
for_each H P (Ok x) each = each
for_each H P (Err e) each = tt
