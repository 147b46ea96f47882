-- A search through the values of a finite map, and what the map has at a key.
use Rattle.std.proofs.Common.{◌≡◌, Bool, true, false, cond, refl, sym, ap, ◌∙◌, Some, None, List, [], ◌∷◌, ◌&&◌, map, T, is_some}
use Rattle.std.specs.Prelude.{find}
use Rattle.std.specs.Ordering.{eq_by_cmp, is_eq, is_lt}
use Rattle.std.specs.Cmp.{IsTotalOrder}
use Rattle.std.specs.declared.cmp.Ordering.{Ordering}
use Rattle.std.specs.declared.cmp.Ordering.TheVariants.{Less, Equal, Greater}
use Rattle.std.specs.FinMap as fin
use Rattle.std.specs.FinMap.{FinMap, is_sorted}
use Rattle.std.specs.FinMap.Entries.{below_all, find_tied}
use Rattle.std.proofs.lemmas.Cmp.{tied_itself}

both_of : (a b : Bool) → T (a && b) → T a × T b
both_of true b h = (tt, h)
both_of false b h = absurd h

lt_no_tie : (r : Ordering) → T (is_lt r) → is_eq r ≡ false
lt_no_tie Less h = refl
lt_no_tie Equal h = absurd h
lt_no_tie Greater h = absurd h

eq_is_equal : (r : Ordering) → is_eq r ≡ true → r ≡ Equal
eq_is_equal Less h = cc
eq_is_equal Equal h = refl
eq_is_equal Greater h = cc

module _ {K X : Type 0} (R : K → K → Ordering) (o : IsTotalOrder R) where
  not_below : (q : K) (es : List (K × X)) → T (below_all R q es) → fin.find R q es ≡ None
  not_below q [] h = refl
  not_below q (e ∷ es) h = ap (λ b. cond b (Some e.1) (fin.find R q es)) (lt_no_tie (R q e.0) (both_of (is_lt (R q e.0)) (below_all R q es) h).0) ∙ not_below q es (both_of (is_lt (R q e.0)) (below_all R q es) h).1

  abbrev values_in : List (K × X) → List X
  values_in es = map (λ e. e.1) es

  -- a key found further on is not that of the first entry
  later : (k : K) (v : X) (e : K × X) (es : List (K × X)) → T (below_all R e.0 es) → fin.find R k es ≡ Some v → fin.find R k (e ∷ es) ≡ Some v
  later k v e es h g = by (eq_by_cmp R k e.0) refl
    where
      by : (b : Bool) → eq_by_cmp R k e.0 ≡ b → cond b (Some e.1) (fin.find R k es) ≡ Some v
      by false t = g
      by true t = let tie = find_tied R o k e.0 (eq_is_equal (R k e.0) t) es in let none = not_below e.0 es h in cc

  found_in : (p : X → Bool) (v : X) (es : List (K × X)) → T (is_sorted R es) → find p (values_in es) ≡ Some v → (k : K) × (fin.find R k es ≡ Some v) × (p v ≡ true)
  found_in p v [] h g = cc
  found_in p v (e ∷ es) h g = choose (p e.1) refl g (found_in p v es (both_of (below_all R e.0 es) (is_sorted R es) h).1)
    where
      choose : (b : Bool) → p e.1 ≡ b → cond b (Some e.1) (find p (values_in es)) ≡ Some v
          → (find p (values_in es) ≡ Some v → (k : K) × (fin.find R k es ≡ Some v) × (p v ≡ true))
          → (k : K) × (fin.find R k (e ∷ es) ≡ Some v) × (p v ≡ true)
      choose true t g more = let is : e.1 ≡ v = cc in (e.0, ap (λ b. cond b (Some e.1) (fin.find R e.0 es)) (ap is_eq (tied_itself o e.0)) ∙ g, ap p (sym is) ∙ t)
      choose false t g more = let m = more g in (m.0, later m.0 v e es (both_of (below_all R e.0 es) (is_sorted R es) h).0 m.1, m.2)

  some_in : (p : X → Bool) (k : K) (v : X) (es : List (K × X)) → fin.find R k es ≡ Some v → p v ≡ true → is_some (find p (values_in es)) ≡ true
  some_in p k v [] g h = cc
  some_in p k v (e ∷ es) g h = choose (p e.1) (eq_by_cmp R k e.0) refl g (λ g. some_in p k v es g h)
    where
      choose : (b t : Bool) → p e.1 ≡ b → cond t (Some e.1) (fin.find R k es) ≡ Some v → (fin.find R k es ≡ Some v → is_some (find p (values_in es)) ≡ true) → is_some (cond b (Some e.1) (find p (values_in es))) ≡ true
      choose true t e' g more = refl
      choose false true e' g more = let is : e.1 ≡ v = cc in cc (ap p is)
      choose false false e' g more = more g

  -- The first value that passes stands in the map.
  pub value_found : (p : X → Bool) (m : FinMap R X) (v : X) → find p (fin.values m) ≡ Some v → (k : K) × (fin.get m k ≡ Some v) × (p v ≡ true)
  value_found p m v g = let f = found_in p v (fin.entries m) (fin.entries_sorted m) g in (f.0, fin.get-entries m f.0 ∙ f.1, f.2)

  -- Where a value that stands in the map passes, one is found.
  pub value_there : (p : X → Bool) (m : FinMap R X) (k : K) (v : X) → fin.get m k ≡ Some v → p v ≡ true → is_some (find p (fin.values m)) ≡ true
  value_there p m k v g h = some_in p k v (fin.entries m) (sym (fin.get-entries m k) ∙ g) h
