-- The entries of a finite map, in order: they rise, and they are what stands.
use Rattle.std.proofs.Common.{◌≡◌, inl, inr, Bool, true, false, cond, List, [], ◌∷◌, ◌&&◌, ◌||◌, T, Option, Some, None, is_some, refl, sym, ap, ◌∙◌, subst}
use Rattle.std.specs.Ordering.{eq_by_cmp, is_eq, is_lt}
use Rattle.std.specs.Cmp.{IsTotalOrder}
use Rattle.std.specs.List.{list_any}
use Rattle.std.specs.declared.cmp.Ordering.{Ordering}
use Rattle.std.specs.declared.cmp.Ordering.TheVariants.{Less, Equal, Greater}
use Rattle.std.specs.FinMap as fin
use Rattle.std.specs.FinMap.{FinMap, is_sorted, IsAntisymmetric}
use Rattle.std.specs.FinMap.Entries.{below_all, find_tied}
use Rattle.std.specs.FinSet as set
use Rattle.std.proofs.lemmas.Cmp.{tied_itself}
use Rattle.cell_world.specs.Lists.{IsOneOf}
use Rattle.cell_world.proofs.OrderLaws.{tied_is}
use Rattle.cell_world.specs.Members.{with_nothing, members}
use Rattle.global_tables.proofs.Rising.{Rising, rising_map, in_map, into_map}

both_of : (a b : Bool) → T (a && b) → T a × T b
both_of true b h = (tt, h)
both_of false b h = absurd h

lt_no_tie : (r : Ordering) → T (is_lt r) → is_eq r ≡ false
lt_no_tie Less h = refl
lt_no_tie Equal h = absurd h
lt_no_tie Greater h = absurd h

eq_is_equal : (r : Ordering) → is_eq r ≡ true → r ≡ Equal
eq_is_equal Less h = cc
eq_is_equal Equal h = refl
eq_is_equal Greater h = cc

is_less : (r : Ordering) → T (is_lt r) → r ≡ Less
is_less Less h = refl
is_less Equal h = absurd h
is_less Greater h = absurd h

module _ {K X : Type 0} (R : K → K → Ordering) (o : IsTotalOrder R) where
  not_below : (q : K) (es : List (K × X)) → T (below_all R q es) → fin.find R q es ≡ None
  not_below q [] h = refl
  not_below q (e ∷ es) h = ap (λ b. cond b (Some e.1) (fin.find R q es)) (lt_no_tie (R q e.0) (both_of (is_lt (R q e.0)) (below_all R q es) h).0) ∙ not_below q es (both_of (is_lt (R q e.0)) (below_all R q es) h).1

  later : (k : K) (v : X) (e : K × X) (es : List (K × X)) → T (below_all R e.0 es) → fin.find R k es ≡ Some v → fin.find R k (e ∷ es) ≡ Some v
  later k v e es h g = by (eq_by_cmp R k e.0) refl
    where
      by : (b : Bool) → eq_by_cmp R k e.0 ≡ b → cond b (Some e.1) (fin.find R k es) ≡ Some v
      by false t = g
      by true t = let tie = find_tied R o k e.0 (eq_is_equal (R k e.0) t) es in let none = not_below e.0 es h in cc

  entry_found : (es : List (K × X)) → T (is_sorted R es) → (e : K × X) → IsOneOf es e → fin.find R e.0 es ≡ Some e.1
  entry_found [] s e h = absurd h
  entry_found (x ∷ xs) s e (inl is) = subst (λ (y : K × X). fin.find R y.0 (x ∷ xs) ≡ Some y.1) is (ap (λ b. cond b (Some x.1) (fin.find R x.0 xs)) (ap is_eq (tied_itself o x.0)))
  entry_found (x ∷ xs) s e (inr h) = let b = both_of (below_all R x.0 xs) (is_sorted R xs) s in later e.0 e.1 x xs b.0 (entry_found xs b.1 e h)

  -- An entry of a map stands in it.
  pub entry_stands : (m : FinMap R X) (e : K × X) → IsOneOf (fin.entries m) e → fin.get m e.0 ≡ Some e.1
  entry_stands m e h = fin.get-entries m e.0 ∙ entry_found (fin.entries m) (fin.entries_sorted m) e h

  below_each : (k : K) (es : List (K × X)) → T (below_all R k es) → (x : K × X) → IsOneOf es x → R k x.0 ≡ Less
  below_each k [] h x among = absurd among
  below_each k (e ∷ es) h x (inl is) = subst (λ (y : K × X). R k y.0 ≡ Less) is (is_less (R k e.0) (both_of (is_lt (R k e.0)) (below_all R k es) h).0)
  below_each k (e ∷ es) h x (inr more) = below_each k es (both_of (is_lt (R k e.0)) (below_all R k es) h).1 x more

  sorted_rise : (es : List (K × X)) → T (is_sorted R es) → Rising (λ a b. R a.0 b.0 ≡ Less) es
  sorted_rise [] h = tt
  sorted_rise (e ∷ es) h = let b = both_of (below_all R e.0 es) (is_sorted R es) h in (below_each e.0 es b.0, sorted_rise es b.1)

  -- The entries rise.
  pub entries_rise : (m : FinMap R X) → Rising (λ a b. R a.0 b.0 ≡ Less) (fin.entries m)
  entries_rise m = sorted_rise (fin.entries m) (fin.entries_sorted m)

  module _ (exact : IsAntisymmetric R) where
    entry_in : (es : List (K × X)) (k : K) (v : X) → fin.find R k es ≡ Some v → IsOneOf es (k, v)
    entry_in [] k v g = cc
    entry_in (e ∷ es) k v g = by (eq_by_cmp R k e.0) refl (entry_in es k v) g
      where
        by : (b : Bool) → eq_by_cmp R k e.0 ≡ b → (fin.find R k es ≡ Some v → IsOneOf es (k, v)) → cond b (Some e.1) (fin.find R k es) ≡ Some v → IsOneOf (e ∷ es) (k, v)
        by true t more g = let keys : k ≡ e.0 = tied_is exact k e.0 t in let vals : e.1 ≡ v = cc in inl (λ i. (sym keys i, vals i))
        by false t more g = inr (more g)

    -- What stands in a map is an entry.
    pub entry_there : (m : FinMap R X) (k : K) (v : X) → fin.get m k ≡ Some v → IsOneOf (fin.entries m) (k, v)
    entry_there m k v g = entry_in (fin.entries m) k v (sym (fin.get-entries m k) ∙ g)

-- ---- sets

module _ {K : Type 0} (R : K → K → Ordering) (o : IsTotalOrder R) where
  found_in : (q : K) (ks : List K) → is_some (fin.find R q (with_nothing ks)) ≡ list_any (eq_by_cmp R q) ks
  found_in q [] = refl
  found_in q (k ∷ ks) = by (eq_by_cmp R q k) (found_in q ks)
    where
      by : (b : Bool) → is_some (fin.find R q (with_nothing ks)) ≡ list_any (eq_by_cmp R q) ks → is_some (cond b (Some tt) (fin.find R q (with_nothing ks))) ≡ (b || list_any (eq_by_cmp R q) ks)
      by true e = refl
      by false e = e

  -- The members of a set rise.
  pub members_rise : (s : set.FinSet R) → Rising (λ a b. R a b ≡ Less) (members s)
  members_rise s = rising_map (λ (e : K × Unit {0}). e.0) (λ a b. R a.0 b.0 ≡ Less) (λ a b. R a b ≡ Less) (λ a b h. h) (fin.entries (fin.from_entries {R = R} (with_nothing (set.items s)))) (entries_rise R o (fin.from_entries {R = R} (with_nothing (set.items s))))

  set_has : (s : set.FinSet R) (q : K) → fin.contains_key (fin.from_entries {R = R} (with_nothing (set.items s))) q ≡ set.contains s q
  set_has s q = ap is_some (fin.get-from_entries o (with_nothing (set.items s)) q) ∙ found_in q (set.items s) ∙ sym (set.contains-items s q)

  -- A member is in the set.
  pub member_stands : (s : set.FinSet R) (q : K) → IsOneOf (members s) q → set.contains s q ≡ true
  member_stands s q h =
      let m = in_map (λ (e : K × Unit {0}). e.0) (fin.entries (fin.from_entries {R = R} (with_nothing (set.items s)))) q h in
      sym (set_has s q) ∙ subst (λ k. fin.contains_key (fin.from_entries {R = R} (with_nothing (set.items s))) k ≡ true) m.2
      (ap is_some (entry_stands R o (fin.from_entries {R = R} (with_nothing (set.items s))) m.0 m.1))

  -- What is in the set is a member.
  pub member_there : IsAntisymmetric R → (s : set.FinSet R) (q : K) → set.contains s q ≡ true → IsOneOf (members s) q
  member_there exact s q h = by (fin.get (fin.from_entries {R = R} (with_nothing (set.items s))) q) refl (set_has s q ∙ h)
    where
      by : (found : Option (Unit {0})) → fin.get (fin.from_entries {R = R} (with_nothing (set.items s))) q ≡ found → is_some found ≡ true → IsOneOf (members s) q
      by None e g = cc
      by (Some v) e g = into_map (λ (e : K × Unit {0}). e.0) (fin.entries (fin.from_entries {R = R} (with_nothing (set.items s)))) (q, v) (entry_there R o exact (fin.from_entries {R = R} (with_nothing (set.items s))) q v e)
