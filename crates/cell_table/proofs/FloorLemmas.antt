-- What the first statement answers.
use Rattle.std.proofs.Common.{◌≡◌, ◌⊎◌, ℕ, ◌==◌, ◌&&◌, pos, List, [], ◌∷◌, ◌++◌, map, Bool, true, false, cond, Some, refl, sym, ap, ap₂, subst, ◌∙◌, arith, true≢false, All, take, Less, Equal, Greater, Ordering, nat_cmp, int_cmp, is_eq, is_lt, is_le}
use Rattle.std.specs.Prelude.{Contains, filter, flat_map, IsSorted, IsPermutation}
use Rattle.std.specs.List.{list_all}
use Rattle.std.specs.Ordering.{ordering_reverse}
use Rattle.std.specs.Cmp.Lexicographic.{slice_cmp}
use Rattle.std.proofs.lemmas.Bool.Decides.{nat_tests}
use Rattle.std.proofs.lemmas.Cmp.{nat_list_cmp_total}
use Rattle.std.proofs.lemmas.List.Elements.{All-nil, All-cons, All-head, All-tail, All-weaker, Contains-append_right}
use Rattle.std.proofs.lemmas.List.Sorted.{IsPermutation-sym, All-permutation, sorted_far, ranks_by}
use Rattle.sqlite_value.specs.declared.value.Value.{Value}
use Rattle.sqlite_value.specs.declared.value.Value.TheVariants.{Null, Int, Blob}
use Rattle.sqlite_value.specs.Order.{Row, value_cmp}
use Rattle.sqlite_value.proofs.OrderLemmas.{value_cmp-Int, value_cmp-Blob, then-Equal}
use Rattle.sqlite.specs.Collation.TheVariants.{Binary}
use Rattle.sqlite.specs.Term.{Env, holds}
use Rattle.sqlite.specs.Ops.{binary, is_true, from_truth, is_null, test}
use Rattle.sqlite_sql.specs.declared.ops.CompareOp.{CompareOp}
use Rattle.sqlite_sql.specs.declared.ops.CompareOp.TheVariants.{Eq, Le}
use Rattle.sqlite_sql.specs.declared.ops.BinaryOp.TheVariants.{Compare}
use Rattle.sqlite.specs.Query.{IsAnswer, output, output_cmp, Output}
use Rattle.sqlite.specs.Program.{overlay}
use Rattle.sqlite_sql.proofs.QueryLemmas.{output_cmp_total}
use Rattle.sqlite.specs.State.{State, Shown}
use Rattle.sqlite.proofs.Callers.{reads_as}
use Rattle.cell_table.specs.Cells.{cells_schema, Entry, row_of, shown, is_up_to, is_below, IsFloor}
use Rattle.cell_table.proofs.TextLemmas.{floor_text, floor_query, floor_is, floor_plain}

truth_is : (b : Bool) → is_true (from_truth (Some b)) ≡ b
truth_is true = refl
truth_is false = refl

pub test_is : (how : CompareOp) (a b : Value) → is_null a ≡ false → is_null b ≡ false → is_true (binary (Compare how Binary) a b) ≡ test how (value_cmp a b)
unfolding binary
test_is how a b p q = rw (p, q) (truth_is _)

pub eq_is : (a b : ℕ) → is_eq (int_cmp (pos a) (pos b)) ≡ (a == b)
eq_is a b = grind (arith, nat_tests)

pub and_true : (a b : Bool) → (a && (b && true)) ≡ (a && b)
and_true true true = refl
and_true true false = refl
and_true false b = refl

abbrev pub params_of : ℕ → List ℕ → Row
params_of kind key = Int (pos kind) ∷ Blob key ∷ []

holds_is : (kind : ℕ) (key : List ℕ) (c : Entry) → list_all (holds (params_of kind key ∷ row_of c ∷ [])) floor_query.filter ≡ is_below kind key c
holds_is kind key c =
    let one = test_is Eq (Int (pos c.kind)) (Int (pos kind)) refl refl ∙ ap is_eq (value_cmp-Int (pos c.kind) (pos kind)) ∙ eq_is c.kind kind in
    let two = test_is Le (Blob c.key) (Blob key) refl refl ∙ ap is_le (value_cmp-Blob c.key key) in
    ap₂ (λ a b. a && (b && true)) one two ∙ and_true _ _

abbrev out : Entry → Output
out c = (Blob c.key ∷ [], shown c)

one_more : (b : Bool) (env : Env) (rest : List Env) (c : Entry) (cs : List Entry) → output floor_query env ≡ out c → map (output floor_query) rest ≡ map out cs
    → map (output floor_query) (cond b (env ∷ []) [] ++ rest) ≡ map out (cond b (c ∷ cs) cs)
one_more true env rest c cs p q = ap₂ (λ x xs. x ∷ xs) p q
one_more false env rest c cs p q = q

outputs_are : (kind : ℕ) (key : List ℕ) (all : List Entry)
    → map (output floor_query) (flat_map (λ r. cond (list_all (holds (params_of kind key ∷ r ∷ [])) floor_query.filter) ((params_of kind key ∷ r ∷ []) ∷ []) []) (map row_of all)) ≡ map out (filter (is_below kind key) all)
outputs_are kind key [] = refl
outputs_are kind key (c ∷ cs) = rw (holds_is kind key c) (one_more (is_below kind key c) _ _ c _ refl (outputs_are kind key cs))

abbrev Shows : (Entry → Bool) → List Entry → Output → Type 0
Shows p all o = (c : Entry) × Contains all c × (p c ≡ true) × (o ≡ out c)

shows_more : (p : Entry → Bool) (c : Entry) (cs : List Entry) (kept : List Entry) (b : Bool) → p c ≡ b → All (Shows p cs) (map out kept) → All (Shows p (c ∷ cs)) (map out (cond b (c ∷ kept) kept))
shows_more p c cs kept true e later =
    All-cons (Shows p (c ∷ cs)) _ _ (c, (0, omega arith, refl), e, refl) (All-weaker (Shows p cs) (Shows p (c ∷ cs)) (λ o w. (w.0, Contains-append_right (c ∷ []) cs w.0 w.1, w.2, w.3)) _ later)
shows_more p c cs kept false e later = All-weaker (Shows p cs) (Shows p (c ∷ cs)) (λ o w. (w.0, Contains-append_right (c ∷ []) cs w.0 w.1, w.2, w.3)) _ later

-- each thing that is kept shows a cell that passes
witnessed : (p : Entry → Bool) (all : List Entry) → All (Shows p all) (map out (filter p all))
witnessed p [] = All-nil _
witnessed p (c ∷ cs) = shows_more p c cs (filter p cs) (p c) refl (witnessed p cs)

split : (p : Entry → Bool) (Q : Output → Type 0) (c : Entry) (kept : List Entry) (b : Bool) → p c ≡ b → All Q (map out (cond b (c ∷ kept) kept)) → (p c ≡ true → Q (out c)) × All Q (map out kept)
split p Q c kept true e h = (λ _. All-head Q _ _ h, All-tail Q _ _ h)
split p Q c kept false e h = (λ t. absurd (true≢false (sym t ∙ e)), h)

-- what holds of each thing that is kept holds of each cell that passes
unfiltered : (p : Entry → Bool) (Q : Output → Type 0) (all : List Entry) → All Q (map out (filter p all)) → All (λ c. p c ≡ true → Q (out c)) all
unfiltered p Q [] h = All-nil _
unfiltered p Q (c ∷ cs) h = let both = split p Q c (filter p cs) (p c) refl h in All-cons (λ c. p c ≡ true → Q (out c)) c cs both.0 (unfiltered p Q cs both.1)

never_true : (b : Bool) → (b ≡ true → ⊥) → b ≡ false
never_true true not_so = absurd (not_so refl)
never_true false not_so = refl

turned : (o : Ordering) → is_lt o ≡ false → is_le (ordering_reverse o) ≡ true
turned Less h = absurd (true≢false h)
turned Equal h = refl
turned Greater h = refl

above : (d c : Entry) → is_lt (output_cmp floor_query (out d) (out c)) ≡ false → is_up_to d.key c.key ≡ true
above d c h =
    let e : output_cmp floor_query (out d) (out c) ≡ slice_cmp nat_cmp c.key d.key = then-Equal (value_cmp (Blob c.key) (Blob d.key)) ∙ value_cmp-Blob c.key d.key in
    ap is_le (nat_list_cmp_total.antisymm d.key c.key) ∙ turned _ (ap is_lt (sym e) ∙ h)

finish : (kind : ℕ) (key : List ℕ) (all : List Entry) (ordered : List Output) → IsPermutation (map out (filter (is_below kind key) all)) ordered → IsSorted (output_cmp floor_query) ordered
    → IsFloor all kind key (take 1 (map (λ o. o.1) ordered))
finish kind key all [] same up =
    All-weaker (λ c. is_below kind key c ≡ true → ⊥) (λ c. is_below kind key c ≡ false) (λ c not_so. never_true _ not_so) all
    (unfiltered (is_below kind key) (λ _. ⊥) all (All-permutation (λ _. ⊥) [] _ (IsPermutation-sym _ _ same) (All-nil _)))
finish kind key all (o ∷ os) same up =
    let p = is_below kind key in
    let w : Shows p all o = All-head (Shows p all) o os (All-permutation (Shows p all) _ (o ∷ os) same (witnessed p all)) in
    let low : All (λ x. is_lt (output_cmp floor_query x o) ≡ false) (o ∷ os) = λ k d within.
    sorted_far (λ x y. is_lt (output_cmp floor_query x y)) (ranks_by (output_cmp_total floor_query) (λ x. x)) (o ∷ os) up 0 k d (omega arith) within in
    let each = unfiltered p (λ x. is_lt (output_cmp floor_query x o) ≡ false) all (All-permutation (λ x. is_lt (output_cmp floor_query x o) ≡ false) (o ∷ os) _ (IsPermutation-sym _ _ same) low) in (
      w.0,
      w.1,
      w.2,
      ap (λ (x : Output). x.1) w.3,
      All-weaker (λ d. p d ≡ true → is_lt (output_cmp floor_query (out d) o) ≡ false) (λ d. p d ≡ true → is_up_to d.key w.0.key ≡ true)
          (λ d f t. above d w.0 (subst (λ x. is_lt (output_cmp floor_query (out d) x) ≡ false) w.3 (f t))) all each,
    )

pub floors : (old new : State) (kind : ℕ) (key : List ℕ) (all : List Entry) (rows : List Row) → old.now.schema ≡ cells_schema → old.now.trees 0 ≡ map row_of all
    → Shown floor_text (params_of kind key) old new rows → IsFloor all kind key rows
floors old new kind key all rows has are h =
    let read = reads_as floor_text (params_of kind key) old new cells_schema has _ floor_is.0 floor_plain floor_is.1 rows h in
    let a : IsAnswer floor_query (overlay old.now.trees []) (params_of kind key) rows = read.answer Null in
    let kept : a.kept ≡ map out (filter (is_below kind key) all) = a.distinct ∙ ap (map (output floor_query)) a.grouped
    ∙ ap (λ rs. map (output floor_query) (flat_map (λ r. cond (list_all (holds (params_of kind key ∷ r ∷ [])) floor_query.filter) ((params_of kind key ∷ r ∷ []) ∷ []) []) rs)) are
    ∙ outputs_are kind key all in
    subst (IsFloor all kind key) (sym a.shown) (finish kind key all a.ordered (subst (λ k. IsPermutation k a.ordered) kept a.same) a.sorted)
