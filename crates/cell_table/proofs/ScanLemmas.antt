-- What the second statement answers.
use Rattle.std.proofs.Common.{◌≡◌, ℕ, ◌+◌, ◌<◌, ◌==◌, ◌&&◌, pos, List, [], ◌∷◌, ◌++◌, map, length, get_or, Bool, true, false, cond, refl, sym, ap, ap₂, subst, subst₂, ◌∙◌, take, nat_cmp, is_eq, is_lt, is_ge}
use Rattle.std.specs.Prelude.{filter, flat_map, IsSorted, IsPermutation}
use Rattle.std.specs.List.{list_all, swap}
use Rattle.std.specs.Prelude.{slice_set}
use Rattle.std.proofs.Math.ListN.{get_or-map}
use Rattle.std.proofs.lemmas.List.{map-set, take-map, length-map}
use Rattle.std.proofs.lemmas.List.Sorted.{IsPermutation-keeps, IsPermutation-trans, IsPermutation-swap, IsPermutation-refl}
use Rattle.std.specs.Cmp.Lexicographic.{slice_cmp}
use Rattle.sqlite_value.specs.declared.value.Value.TheVariants.{Null, Int, Blob}
use Rattle.sqlite_value.specs.Order.{Row, value_cmp}
use Rattle.sqlite_value.proofs.OrderLemmas.{value_cmp-Int, value_cmp-Blob, then-Equal}
use Rattle.sqlite.specs.Term.{Env, holds}
use Rattle.sqlite_sql.specs.declared.ops.CompareOp.TheVariants.{Eq, Ge}
use Rattle.sqlite.specs.Query.{IsAnswer, output, output_cmp, Output}
use Rattle.sqlite.specs.Program.{overlay}
use Rattle.sqlite.specs.State.{State, Shown}
use Rattle.sqlite.proofs.Callers.{reads_as}
use Rattle.cell_table.specs.Cells.{cells_schema, Entry, row_of, shown, is_from, IsScan, Holds}
use Rattle.cell_table.proofs.TextLemmas.{scan_text, scan_query, scan_is, scan_plain}
use Rattle.cell_table.proofs.FloorLemmas.{test_is, eq_is, and_true}

abbrev pub paged : ℕ → List ℕ → ℕ → Row
paged kind key limit = Int (pos kind) ∷ Blob key ∷ Int (pos limit) ∷ []

holds_is : (kind : ℕ) (key : List ℕ) (limit : ℕ) (c : Entry) → list_all (holds (paged kind key limit ∷ row_of c ∷ [])) scan_query.filter ≡ is_from kind key c
holds_is kind key limit c =
    let one = test_is Eq (Int (pos c.kind)) (Int (pos kind)) refl refl ∙ ap is_eq (value_cmp-Int (pos c.kind) (pos kind)) ∙ eq_is c.kind kind in
    let two = test_is Ge (Blob c.key) (Blob key) refl refl ∙ ap is_ge (value_cmp-Blob c.key key) in
    ap₂ (λ a b. a && (b && true)) one two ∙ and_true _ _

abbrev out : Entry → Output
out c = (Blob c.key ∷ [], shown c)

one_more : (b : Bool) (env : Env) (rest : List Env) (c : Entry) (cs : List Entry) → output scan_query env ≡ out c → map (output scan_query) rest ≡ map out cs
    → map (output scan_query) (cond b (env ∷ []) [] ++ rest) ≡ map out (cond b (c ∷ cs) cs)
one_more true env rest c cs p q = ap₂ (λ x xs. x ∷ xs) p q
one_more false env rest c cs p q = q

outputs_are : (kind : ℕ) (key : List ℕ) (limit : ℕ) (all : List Entry)
    → map (output scan_query) (flat_map (λ r. cond (list_all (holds (paged kind key limit ∷ r ∷ [])) scan_query.filter) ((paged kind key limit ∷ r ∷ []) ∷ []) []) (map row_of all)) ≡ map out (filter (is_from kind key) all)
outputs_are kind key limit [] = refl
outputs_are kind key limit (c ∷ cs) = rw (holds_is kind key limit c) (one_more (is_from kind key c) _ _ c _ refl (outputs_are kind key limit cs))

swap-map : {X Y : Type 0} (f : X → Y) (l : List X) (i j : ℕ) → map f (swap l i j) ≡ swap (map f l) i j
swap-map f [] i j = refl
swap-map f (d ∷ ys) i j =
    let l = d ∷ ys in
    map-set f (slice_set l i (get_or l j d)) j (get_or l i d) ∙ ap (λ m. slice_set m j (f (get_or l i d))) (map-set f l i (get_or l j d))
    ∙ ap₂ (λ x y. slice_set (slice_set (map f l) i x) j y) (sym (get_or-map f l j d)) (sym (get_or-map f l i d))

-- what has the elements of a map is the map of what has the elements
pub unmapped : {X Y : Type 0} (f : X → Y) (xs : List X) (ys : List Y) → IsPermutation (map f xs) ys → (zs : List X) × IsPermutation xs zs × (ys ≡ map f zs)
unmapped {X} f xs ys same =
    IsPermutation-keeps (map f xs) (λ l. (zs : List X) × IsPermutation xs zs × (l ≡ map f zs)) (xs, IsPermutation-refl xs, refl)
    (λ l i j low high it.
    let one : i < length it.0 = subst (λ n. i < n) (length-map it.0 f) (subst (λ m. i < length m) it.2 low) in
    let two : j < length it.0 = subst (λ n. j < n) (length-map it.0 f) (subst (λ m. j < length m) it.2 high) in
    (swap it.0 i j, IsPermutation-trans xs it.0 (swap it.0 i j) it.1 (IsPermutation-swap it.0 (swap it.0 i j) i j one two refl), ap (λ m. swap m i j) it.2 ∙ sym (swap-map f it.0 i j))) ys same

in_order : (cs : List Entry) → IsSorted (output_cmp scan_query) (map out cs) → IsSorted (λ a b. slice_cmp nat_cmp a.key b.key) cs
in_order cs up = λ k d low within.
    let e = up k (out d) low (subst (λ n. k + 1 < n) (sym (length-map cs out)) within) in
    let a = get_or cs (k + 1) d in
    let b = get_or cs k d in
    let c : output_cmp scan_query (out a) (out b) ≡ slice_cmp nat_cmp a.key b.key = then-Equal (value_cmp (Blob a.key) (Blob b.key)) ∙ value_cmp-Blob a.key b.key in
    ap is_lt (sym c) ∙ subst₂ (λ x y. is_lt (output_cmp scan_query x y) ≡ false) (get_or-map out cs (k + 1) d) (get_or-map out cs k d) e

shows : (limit : ℕ) (cs : List Entry) → take limit (map (λ (o : Output). o.1) (map out cs)) ≡ map shown (take limit cs)
shows limit cs = ap (take limit) (both cs) ∙ take-map shown limit cs
  where
    both : (cs : List Entry) → map (λ (o : Output). o.1) (map out cs) ≡ map shown cs
    both [] = refl
    both (c ∷ rest) = ap (λ rows. shown c ∷ rows) (both rest)

pub scans : (old new : State) (kind : ℕ) (key : List ℕ) (limit : ℕ) (all : List Entry) (rows : List Row) → Holds old.now all → Shown scan_text (paged kind key limit) old new rows → IsScan all kind key limit rows
scans old new kind key limit all rows has h =
    let params = paged kind key limit in
    let read = reads_as scan_text params old new cells_schema has.schema _ scan_is.0 scan_plain scan_is.1 rows h in
    let a : IsAnswer scan_query (overlay old.now.trees []) params rows = read.answer Null in
    let kept : a.kept ≡ map out (filter (is_from kind key) all) = a.distinct ∙ ap (map (output scan_query)) a.grouped
    ∙ ap (λ rs. map (output scan_query) (flat_map (λ r. cond (list_all (holds (params ∷ r ∷ [])) scan_query.filter) ((params ∷ r ∷ []) ∷ []) []) rs)) has.rows ∙ outputs_are kind key limit all in
    let same : IsPermutation (map out (filter (is_from kind key) all)) a.ordered = subst (λ k. IsPermutation k a.ordered) kept a.same in
    let cells = unmapped out (filter (is_from kind key) all) a.ordered same in (
      cells.0,
      cells.1,
      in_order cells.0 (subst (IsSorted (output_cmp scan_query)) cells.2 a.sorted),
      a.shown ∙ ap (λ (os : List Output). take limit (map (λ o. o.1) os)) cells.2 ∙ shows limit cells.0,
    )
