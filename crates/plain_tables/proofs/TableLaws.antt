-- What a table answers is what its finite map answers.
use Rattle.std.proofs.Common.{◌≡◌, cond, List, [], ◌∷◌, ◌&&◌, length, refl, sym, ap, ◌∙◌, Some, None, arith}
use Rattle.std.specs.FinMap as fin
use Rattle.std.specs.FinMap.{find, put, IsAntisymmetric}
use Rattle.std.specs.Map.{lookup, keys_of}
use Rattle.std.specs.BTreeMap.{BTreeMap, get, IsOrdered, IsUnchanged, Updates, is_at}
use Rattle.std.specs.Cmp.{IsTotalOrder, eq_by_cmp_equiv}
use Rattle.std.specs.Ordering.{eq_by_cmp}
use Rattle.std.specs.List.Sorted.{IsStrictlySortedBy}
use Rattle.std.specs.declared.cmp.Ordering.{Ordering}
use Rattle.plain_tables.specs.Tables.{table}

module _ {K X : Type 0} (R : K → K → Ordering) where
  pub find_is : (es : List (K × X)) (q : K) → find R q es ≡ lookup (is_at (R q)) es
  find_is [] q = refl
  find_is (e ∷ es) q = ap (cond (eq_by_cmp R q e.0) (Some e.1)) (find_is es q)

nothing : {A : Type 0} (xs : List A) → length xs ≡ 0 → xs ≡ []
nothing [] h = refl
nothing (x ∷ xs) h = absurd (omega arith)

module _ {K X : Type 0} {R : K → K → Ordering} (o : IsTotalOrder R) where
  -- a look-up
  pub get-table : (m : BTreeMap K X) (q : K) → fin.get (table R m) q ≡ get R m q
  unfolding table
  get-table m q = fin.get-from_entries o m.entries q ∙ find_is R m.entries q

  put_first : (e : K × X) (es : List (K × X)) → IsStrictlySortedBy R (keys_of (e ∷ es)) → put R e.0 e.1 es ≡ e ∷ es
  unfolding IsStrictlySortedBy
  put_first e [] h = refl
  put_first e (f ∷ fs) h = rw h.0.0 refl

  rest_sorted : (e : K × X) (es : List (K × X)) → IsStrictlySortedBy R (keys_of (e ∷ es)) → IsStrictlySortedBy R (keys_of es)
  unfolding IsStrictlySortedBy
  rest_sorted e es h = h.1

  pub all_entries : (es : List (K × X)) → IsStrictlySortedBy R (keys_of es) → fin.entries (fin.from_entries {R = R} es) ≡ es
  all_entries [] h = nothing _ (sym (fin.len-entries (fin.empty {X = X} {R = R})) ∙ fin.len-empty R X)
  all_entries (e ∷ es) h = fin.entries-insert o (fin.from_entries es) e.0 e.1 ∙ ap (put R e.0 e.1) (all_entries es (rest_sorted e es h)) ∙ put_first e es h

  -- its walk
  pub entries-table : (m : BTreeMap K X) → IsOrdered R m → fin.entries (table R m) ≡ m.entries
  unfolding table
  entries-table m h = all_entries m.entries h

  -- the same entries
  pub same-table : (m n : BTreeMap K X) → IsUnchanged m n → table R n ≡ table R m
  unfolding table
  same-table m n h = ap (λ es. fin.from_entries {R = R} es) h

  -- what a key gets
  pub insert-table : IsAntisymmetric R → (m n : BTreeMap K X) (k : K) (v : X) → Updates R m n k (Some v) → table R n ≡ fin.insert (table R m) k v
  insert-table same m n k v u = fin.same_map o same (table R n) (fin.insert (table R m) k v)
      (λ q. get-table n q ∙ u.0 q ∙ (λ i. cond ((eq_by_cmp_equiv o).symm k q i) (Some v) (sym (get-table m q) i)) ∙ sym (fin.get-insert o (table R m) k v q))

  -- what a key loses
  pub remove-table : IsAntisymmetric R → (m n : BTreeMap K X) (k : K) → Updates R m n k None → table R n ≡ fin.remove (table R m) k
  remove-table same m n k u = fin.same_map o same (table R n) (fin.remove (table R m) k)
      (λ q. get-table n q ∙ u.0 q ∙ (λ i. cond ((eq_by_cmp_equiv o).symm k q i) None (sym (get-table m q) i)) ∙ sym (fin.get-remove o (table R m) k q))

-- no entries
pub table-empty : {K X : Type 0} (R : K → K → Ordering) (m : BTreeMap K X) → m.entries ≡ [] → table R m ≡ fin.empty
unfolding table
table-empty R m h = ap (λ es. fin.from_entries {R = R} es) h
