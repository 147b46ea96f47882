-- What a set answers is what its finite set answers.
use Rattle.std.proofs.Common.{◌≡◌, Bool, true, false, cond, List, [], ◌∷◌, ◌&&◌, ◌||◌, not, refl, sym, ap, ◌∙◌, Option, Some, None, is_some}
use Rattle.std.specs.FinMap as fin
use Rattle.std.specs.FinMap.{find, IsAntisymmetric}
use Rattle.std.specs.FinSet as set
use Rattle.std.specs.Map.{keys_of}
use Rattle.std.specs.List.{list_any, filter}
use Rattle.std.specs.BTreeMap.{is_at}
use Rattle.std.proofs.lemmas.Map.Views.{any-filter_same}
use Rattle.cell_world.proofs.OrderLaws.{tied_is}
use Rattle.std.specs.BTreeSet.{BTreeSet, contains, IsOrdered, Updates}
use Rattle.std.specs.Cmp.{IsTotalOrder, eq_by_cmp_equiv}
use Rattle.std.specs.Ordering.{eq_by_cmp}
use Rattle.std.specs.List.Sorted.{IsStrictlySortedBy}
use Rattle.std.specs.declared.cmp.Ordering.{Ordering}
use Rattle.cell_world.specs.Members.{members, with_nothing}
use Rattle.plain_tables.specs.Tables.{keys_in}
use Rattle.plain_tables.proofs.TableLaws.{all_entries}

module _ {K : Type 0} where
  keys_of-with_nothing : (ks : List K) → keys_of (with_nothing ks) ≡ ks
  keys_of-with_nothing [] = refl
  keys_of-with_nothing (k ∷ ks) = ap (λ xs. k ∷ xs) (keys_of-with_nothing ks)

-- of nothing but its being there, an option is known by that
there : (a b : Option (Unit {0})) → is_some a ≡ is_some b → a ≡ b
there None None h = refl
there None (Some u) h = cc
there (Some u) None h = cc
there (Some u) (Some v) h = refl

at_or : (b x : Bool) → cond b true x ≡ (b || x)
at_or true x = refl
at_or false x = refl

not_and : (b x : Bool) → cond b false x ≡ (not b && x)
not_and true x = refl
not_and false x = refl

swap_and : (a b : Bool) → (a && b) ≡ (b && a)
swap_and true true = refl
swap_and true false = refl
swap_and false true = refl
swap_and false false = refl

module _ {K : Type 0} (R : K → K → Ordering) where
  found : (ks : List K) (q : K) → is_some (find R q (with_nothing ks)) ≡ list_any (eq_by_cmp R q) ks
  found [] q = refl
  found (k ∷ ks) q = elim (eq_by_cmp R q k) as (λ b. is_some (cond b (Some tt) (find R q (with_nothing ks))) ≡ (b || list_any (eq_by_cmp R q) ks)) [ true ↦ refl | false ↦ found ks q ]

module _ {K : Type 0} {R : K → K → Ordering} (o : IsTotalOrder R) where
  -- a look-up
  pub contains-keys_in : (s : BTreeSet K) (q : K) → set.contains (keys_in R s) q ≡ contains R s q
  unfolding keys_in
  contains-keys_in s q = set.contains-from_list o s.keys q

  same_members : IsAntisymmetric R → (ks ls : List K) → ((q : K) → list_any (eq_by_cmp R q) ks ≡ list_any (eq_by_cmp R q) ls) → fin.from_entries {R = R} (with_nothing ks) ≡ fin.from_entries {R = R} (with_nothing ls)
  same_members same ks ls alike = fin.same_map o same _ _ (λ q. fin.get-from_entries o (with_nothing ks) q ∙ there _ _ (found R ks q ∙ alike q ∙ sym (found R ls q)) ∙ sym (fin.get-from_entries o (with_nothing ls) q))

  -- its walk
  pub members-keys_in : IsAntisymmetric R → (s : BTreeSet K) → IsOrdered R s → members (keys_in R s) ≡ s.keys
  unfolding keys_in
  members-keys_in same s h =
      ap fin.keys (same_members same (set.items (set.from_list {R = R} s.keys)) s.keys (λ q. sym (set.contains-items (set.from_list s.keys) q) ∙ set.contains-from_list o s.keys q))
      ∙ ap keys_of (all_entries o (with_nothing s.keys) (let e : IsStrictlySortedBy R (keys_of (with_nothing s.keys)) = rw (keys_of-with_nothing s.keys) h in e))
      ∙ keys_of-with_nothing s.keys

  -- what comes
  pub insert-keys_in : IsAntisymmetric R → (s n : BTreeSet K) (k : K) → Updates R s n k true → keys_in R n ≡ set.insert (keys_in R s) k
  insert-keys_in same s n k u = set.same_set o same (keys_in R n) (set.insert (keys_in R s) k)
      (λ q. contains-keys_in n q ∙ u.0 q ∙ at_or (is_at (R k) q) _ ∙ (λ i. (eq_by_cmp_equiv o).symm k q i || sym (contains-keys_in s q) i) ∙ sym (set.contains-insert o (keys_in R s) k q))

  -- what goes
  pub remove-keys_in : IsAntisymmetric R → (s n : BTreeSet K) (k : K) → Updates R s n k false → keys_in R n ≡ set.remove (keys_in R s) k
  remove-keys_in same s n k u = set.same_set o same (keys_in R n) (set.remove (keys_in R s) k)
      (λ q. contains-keys_in n q ∙ u.0 q ∙ not_and (is_at (R k) q) _ ∙ (λ i. not ((eq_by_cmp_equiv o).symm k q i) && sym (contains-keys_in s q) i) ∙ sym (set.contains-remove o (keys_in R s) k q))

  -- what stays by a test
  pub retain-keys_in : IsAntisymmetric R → (s n : BTreeSet K) (p : K → Bool) → n.keys ≡ filter p s.keys → keys_in R n ≡ set.retain (keys_in R s) p
  retain-keys_in same s n p kept = set.same_set o same (keys_in R n) (set.retain (keys_in R s) p)
      (λ q. contains-keys_in n q ∙ ap (list_any (eq_by_cmp R q)) kept
      ∙ any-filter_same (eq_by_cmp R q) p (p q) (λ k t. ap p (sym (tied_is same q k t))) s.keys
      ∙ swap_and (p q) _ ∙ ap (λ b. b && p q) (sym (contains-keys_in s q))
      ∙ sym (set.contains-retain (keys_in R s) p q (λ x t. ap p (sym (same q x t)))))

-- no keys
pub keys_in-empty : {K : Type 0} (R : K → K → Ordering) (s : BTreeSet K) → s.keys ≡ [] → keys_in R s ≡ set.empty
unfolding keys_in
keys_in-empty R s h = ap (λ ks. set.from_list {R = R} ks) h
