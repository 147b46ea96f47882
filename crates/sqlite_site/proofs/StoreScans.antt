-- The first rows from a key on, in their order, are the first cells.
use Rattle.std.proofs.Common.{◌≡◌, ◌⊎◌, inl, inr, ℕ, suc, zero, ◌<◌, ◌==◌, Bool, true, false, List, [], ◌∷◌, ◌++◌, length, take, drop, get_or, filter, cond, refl, sym, ap, ◌∙◌, subst, true≢false, Less, Equal, Greater, Ordering, arith}
use Rattle.std.specs.Prelude.{Contains, IsPermutation, IsSorted}
use Rattle.std.specs.List.{AllByRecursion, IsDistinct}
use Rattle.std.specs.Ordering.{nat_cmp, is_lt, is_gt, is_eq, is_ge}
use Rattle.std.specs.Cmp.Lexicographic.{slice_cmp}
use Rattle.std.proofs.lemmas.Bool.{and_parts, and_from, eqb-true, eq-eqb}
use Rattle.std.proofs.lemmas.Cmp.{nat_list_cmp_total}
use Rattle.std.proofs.lemmas.List.{length-take, take-append-drop}
use Rattle.std.proofs.lemmas.List.Elements.{recursion_from_All}
use Rattle.std.proofs.lemmas.List.Sorted.{IsPermutation-sym, Contains-permutation, sorted_far, ranks_by}
use Rattle.std.proofs.lemmas.Map.Keys.{IsDistinct-IsPermutation, IsDistinct-cons, apart_from_distinct}
use Rattle.sqlite_trees.specs.Tree.{IsAscending}
use Rattle.sqlite_rules.specs.Lists.{Has}
use Rattle.sqlite_rules.proofs.ListLemmas.{all_has, all_from, has_contained, contains_had, has_filtered, has_kept, has_left, has_either}
use Rattle.cell_world.specs.ByteOrder.{byte_cmp}
use Rattle.cell_world.specs.Finding.{Rises, IsFromOn, IsScan}
use Rattle.cell_world.specs.Lists.{IsOneOf}
use Rattle.cell_world.specs.Orders.{cell_cmp, kind_number}
use Rattle.cell_world.specs.Spelled.{IsTypedKey}
use Rattle.cell_world.specs.Stores.{Store, own_key, Stands}
use Rattle.cell_world.specs.declared.cells.Cell.{Cell}
use Rattle.cell_world.specs.declared.cells.CellKey.{CellKey}
use Rattle.world_memory.proofs.SiteOrder.{flip}
use Rattle.record_form.specs.OrderBytes.{ordered}
use Rattle.cell_table.specs.Cells.{Entry, is_at, is_from, AreApart}
use Rattle.sqlite_site.specs.Contents.{AreRowsOf}
use Rattle.sqlite_site.specs.Entries.{IsEntryOf, AreEntriesOf, ArePageOf}
use Rattle.sqlite_site.proofs.OrderKeys.{one_cell, at_is, is_there}
use Rattle.sqlite_site.proofs.StoreFinds.{row_order, rows_order}
use Rattle.sqlite_site.proofs.StoreRows.{row_stands}

-- ---- rows that rise

abbrev pub Below : Entry → Entry → Type 0
Below e d = byte_cmp e.key d.key ≡ Less

abbrev is_same : Entry → Entry → Bool
is_same e d = is_at e.kind e.key d

same_flips : (e d : Entry) → is_same e d ≡ is_same d e
same_flips e d = both (is_same e d) (is_same d e) refl refl
  where
    turn : (a b : Entry) → is_same a b ≡ true → is_same b a ≡ true
    turn a b h = let at = at_is a.kind a.key b h in is_there b.kind b.key a (sym at.0) (sym at.1)

    both : (x y : Bool) → is_same e d ≡ x → is_same d e ≡ y → is_same e d ≡ is_same d e
    both true y p q = p ∙ sym (turn e d p)
    both false true p q = absurd (true≢false (sym (turn d e q) ∙ p))
    both false false p q = p ∙ sym q

distinct_kept : (p : Entry → Bool) (xs : List Entry) → AreApart xs → IsDistinct is_same (filter p xs)
unfolding IsDistinct
distinct_kept p [] apart = tt
distinct_kept p (x ∷ xs) apart = by (p x) (distinct_kept p xs apart.1)
  where
    by : (b : Bool) → IsDistinct is_same (filter p xs) → IsDistinct is_same (cond b (x ∷ filter p xs) (filter p xs))
    by true rest = IsDistinct-cons is_same x (filter p xs) (all_from (λ d. is_same x d ≡ false) (filter p xs) (λ d h. all_has (λ d. is_same x d ≡ false) xs d apart.0 (has_filtered p xs d h).0)) rest
    by false rest = rest

rising_from : (xs : List Entry) → ((i j : ℕ) (d : Entry) → i < j → j < length xs → Below (get_or xs i d) (get_or xs j d)) → IsAscending Below xs
rising_from [] h = tt
rising_from (x ∷ xs) h = (recursion_from_All (Below x) xs (λ k d less. h 0 (suc k) d (omega arith) (omega arith)), rising_from xs (λ i j d a b. h (suc i) (suc j) d (omega arith) (omega arith)))

less_is : (o : Ordering) → is_gt o ≡ false → is_eq o ≡ false → o ≡ Less
less_is Less p q = refl
less_is Equal p q = cc
less_is Greater p q = cc

-- ---- rows from some order bytes on

module _ (all sorted : List Entry) (kind : ℕ) (from : List ℕ) (same : IsPermutation (filter (is_from kind from) all) sorted) where
  pub from_sorted : (e : Entry) → Has sorted e → Contains all e × (e.kind ≡ kind) × (is_ge (byte_cmp e.key from) ≡ true)
  from_sorted e h =
      let back = Contains-permutation sorted (filter (is_from kind from) all) e (IsPermutation-sym _ _ same) (contains_had sorted e h) in
      let it = has_filtered (is_from kind from) all e (has_contained _ e back) in
      let parts = and_parts (e.kind == kind) _ it.1 in
      (contains_had all e it.0, eqb-true e.kind kind parts.0, parts.1)

  pub to_sorted : (e : Entry) → Contains all e → e.kind ≡ kind → is_ge (byte_cmp e.key from) ≡ true → Has sorted e
  to_sorted e h kinds low =
      let kept = has_kept (is_from kind from) all e (has_contained all e h) (and_from _ _ (eq-eqb e.kind kind kinds) low) in
      has_contained sorted e (Contains-permutation (filter (is_from kind from) all) sorted e same (contains_had _ e kept))

  -- they rise, since none has the key of another
  pub rising : AreApart all → IsSorted (λ a b. slice_cmp nat_cmp a.key b.key) sorted → IsAscending Below sorted
  rising apart up = rising_from sorted below
    where
      distinct : IsDistinct is_same sorted
      distinct = IsDistinct-IsPermutation is_same same_flips (filter (is_from kind from) all) sorted same (distinct_kept (is_from kind from) all apart)

      kind_at : (i : ℕ) (d : Entry) → i < length sorted → (get_or sorted i d).kind ≡ kind
      kind_at i d less = (from_sorted (get_or sorted i d) (at_place sorted i d less)).1
        where
          at_place : (xs : List Entry) (i : ℕ) (d : Entry) → i < length xs → Has xs (get_or xs i d)
          at_place [] i d less = omega arith
          at_place (x ∷ xs) zero d less = inl refl
          at_place (x ∷ xs) (suc i) d less = inr (at_place xs i d (omega arith))

      below : (i j : ℕ) (d : Entry) → i < j → j < length sorted → Below (get_or sorted i d) (get_or sorted j d)
      below i j d less within =
          let e = get_or sorted i d in
          let b = get_or sorted j d in
          let far : is_lt (byte_cmp b.key e.key) ≡ false = sorted_far (λ x y. is_lt (byte_cmp x.key y.key)) (ranks_by nat_list_cmp_total (λ (x : Entry). x.key)) sorted up i j d (omega arith) within in
          let kinds : e.kind ≡ b.kind = kind_at i d (omega arith) ∙ sym (kind_at j d within) in
          less_is (byte_cmp e.key b.key) (flip nat_list_cmp_total e.key b.key ∙ far) (unequal (is_eq (byte_cmp e.key b.key)) refl kinds)
        where
          unequal : (t : Bool) → is_eq (byte_cmp (get_or sorted i d).key (get_or sorted j d).key) ≡ t → (get_or sorted i d).kind ≡ (get_or sorted j d).kind → is_eq (byte_cmp (get_or sorted i d).key (get_or sorted j d).key) ≡ false
          unequal false h kinds = h
          unequal true h kinds = absurd (true≢false (sym (flip_at h kinds) ∙ apart_from_distinct is_same sorted i j d distinct less within))
            where
              flip_at : is_eq (byte_cmp (get_or sorted i d).key (get_or sorted j d).key) ≡ true → (get_or sorted i d).kind ≡ (get_or sorted j d).kind → is_same (get_or sorted i d) (get_or sorted j d) ≡ true
              flip_at h kinds = same_flips (get_or sorted i d) (get_or sorted j d) ∙ and_from _ _ (eq-eqb (get_or sorted i d).kind (get_or sorted j d).kind kinds) h

-- ---- cells of rows, one by one

one_entry : (kind : ℕ) (es : List Entry) (cs : List Cell) (c : Cell) → AreEntriesOf kind es cs → IsOneOf cs c → (e : Entry) × Has es e × IsEntryOf kind e c
one_entry kind [] [] c are one = absurd one
one_entry kind [] (b ∷ cs) c are one = absurd are
one_entry kind (e ∷ es) [] c are one = absurd are
one_entry kind (e ∷ es) (b ∷ cs) c are (inl same) = (e, inl refl, subst (IsEntryOf kind e) same are.0)
one_entry kind (e ∷ es) (b ∷ cs) c are (inr later) = let w = one_entry kind es cs c are.1 later in (w.0, inr w.1, w.2)

one_of_cells : (kind : ℕ) (es : List Entry) (cs : List Cell) (e : Entry) (c : Cell) → AreEntriesOf kind es cs → Has es e → e.kind ≡ kind → IsEntryOf e.kind e c → IsOneOf cs c
one_of_cells kind [] cs e c are has kinds is = absurd has
one_of_cells kind (d ∷ es) [] e c are has kinds is = absurd are
one_of_cells kind (d ∷ es) (b ∷ cs) e c are (inl same) kinds is =
    inl (one_cell e b c (subst (λ n. IsEntryOf n e b) (sym kinds) (subst (λ x. IsEntryOf kind x b) (sym same) are.0)) is)
one_of_cells kind (d ∷ es) (b ∷ cs) e c are (inr later) kinds is = inr (one_of_cells kind es cs e c are.1 later kinds is)

cells_of_rows : (kind : ℕ) (es : List Entry) (cs : List Cell) → AreEntriesOf kind es cs → length cs ≡ length es
cells_of_rows kind [] [] are = refl
cells_of_rows kind [] (b ∷ cs) are = absurd are
cells_of_rows kind (e ∷ es) [] are = absurd are
cells_of_rows kind (e ∷ es) (b ∷ cs) are = ap suc (cells_of_rows kind es cs are.1)

rising_front : (xs ys : List Entry) → IsAscending Below (xs ++ ys) → IsAscending Below xs
rising_front [] ys up = tt
rising_front (x ∷ xs) ys up = (front xs up.0, rising_front xs ys up.1)
  where
    front : (zs : List Entry) → AllByRecursion (Below x) (zs ++ ys) → AllByRecursion (Below x) zs
    front [] h = tt
    front (z ∷ zs) h = (h.0, front zs h.1)

rising_parts : (xs ys : List Entry) (x y : Entry) → IsAscending Below (xs ++ ys) → Has xs x → Has ys y → Below x y
rising_parts [] ys x y up h g = absurd h
rising_parts (z ∷ xs) ys x y up (inl same) g = subst (λ w. Below w y) (sym same) (all_has (Below z) (xs ++ ys) y up.0 (right xs g))
  where
    right : (ws : List Entry) → Has ys y → Has (ws ++ ys) y
    right [] k = k
    right (w ∷ ws) k = inr (right ws k)
rising_parts (z ∷ xs) ys x y up (inr later) g = rising_parts xs ys x y up.1 later g

-- what is left over comes after so many
left_over : (n : ℕ) (xs : List Entry) (x : Entry) → Has (drop n xs) x → length (take n xs) ≡ n
left_over zero xs x h = refl
left_over (suc n) [] x h = absurd h
left_over (suc n) (y ∷ ys) x h = ap suc (left_over n ys x h)

-- ---- a scan

from_is : (o : Ordering) → is_ge o ≡ true → is_lt o ≡ false
from_is Less h = absurd (true≢false (sym h))
from_is Equal h = refl
from_is Greater h = refl

from_on : (o : Ordering) → is_lt o ≡ false → is_ge o ≡ true
from_on Less h = absurd (true≢false h)
from_on Equal h = refl
from_on Greater h = refl

module _ (all : List Entry) (s : Store) (key : CellKey) (limit : ℕ) (found : List Cell) (are : AreRowsOf all s) (apart : AreApart all) (typed : IsTypedKey key) (page : ArePageOf all (kind_number key) (ordered key) limit found) where
  up : IsAscending Below page.0
  up = rising all page.0 (kind_number key) (ordered key) page.1 apart page.2

  parts_up : IsAscending Below (take limit page.0 ++ drop limit page.0)
  parts_up = subst (IsAscending Below) (sym (take-append-drop limit page.0)) up

  has_shown : (e : Entry) → Has (take limit page.0) e → Has page.0 e
  has_shown e h = subst (λ es. Has es e) (take-append-drop limit page.0) (has_left (take limit page.0) (drop limit page.0) e h)

  kind_of : (e : Entry) → Has (take limit page.0) e → e.kind ≡ kind_number key
  kind_of e h = (from_sorted all page.0 (kind_number key) (ordered key) page.1 e (has_shown e h)).1

  row_of : (e : Entry) (c : Cell) → Has (take limit page.0) e → IsEntryOf (kind_number key) e c → IsEntryOf e.kind e c
  row_of e c h is = subst (λ n. IsEntryOf n e c) (sym (kind_of e h)) is

  rises : (es : List Entry) (cs : List Cell) → ((e : Entry) → Has es e → e.kind ≡ kind_number key) → AreEntriesOf (kind_number key) es cs → IsAscending Below es → Rises cs
  rises [] [] kinds are rise = tt
  rises [] (c ∷ cs) kinds are rise = absurd are
  rises (e ∷ es) [] kinds are rise = absurd are
  rises (e ∷ []) (c ∷ []) kinds are rise = tt
  rises (e ∷ []) (c ∷ b ∷ cs) kinds are rise = absurd are.1
  rises (e ∷ d ∷ es) (c ∷ []) kinds are rise = absurd are.1
  rises (e ∷ d ∷ es) (c ∷ b ∷ cs) kinds are rise =
      let row = subst (λ n. IsEntryOf n e c) (sym (kinds e (inl refl))) are.0 in
      let next = subst (λ n. IsEntryOf n d b) (sym (kinds d (inr (inl refl)))) are.1.0 in
      (sym (rows_order e d c b row next (sym are.0.kind ∙ are.1.0.kind)) ∙ rise.0.0, rises (d ∷ es) (b ∷ cs) (λ x h. kinds x (inr h)) are.1 rise.1)

  stand : (c : Cell) → IsOneOf found c → Stands s c × IsFromOn key c
  stand c one =
      let w = one_entry (kind_number key) (take limit page.0) found c page.3 one in
      let row = row_of w.0 c w.1 w.2 in
      let it = from_sorted all page.0 (kind_number key) (ordered key) page.1 w.0 (has_shown w.0 w.1) in
      let kinds : kind_number (own_key c) ≡ kind_number key = sym w.2.kind in
      (row_stands all s are w.0 c it.0 row, record { kind = kinds; order = ap is_lt (sym (row_order w.0 c key typed row kinds)) ∙ from_is (byte_cmp w.0.key (ordered key)) it.2 })

  after_all : (e d : Entry) (c b : Cell) → Has (take limit page.0) d → Has (drop limit page.0) e → IsEntryOf e.kind e c → IsEntryOf (kind_number key) d b → kind_number (own_key c) ≡ kind_number key → cell_cmp (own_key b) (own_key c) ≡ Less
  after_all e d c b front back row is kinds =
      sym (rows_order d e b c (row_of d b front is) row (sym is.kind ∙ sym kinds)) ∙ rising_parts (take limit page.0) (drop limit page.0) d e parts_up front back

  pub scans : IsScan s key limit found
  scans = record {
    rises = rises (take limit page.0) found kind_of page.3 (rising_front (take limit page.0) (drop limit page.0) parts_up);
    stand = stand;
    at_most = omega (arith, cells_of_rows (kind_number key) (take limit page.0) found page.3, length-take limit page.0);
    all = λ c stands on.
        let w = are.cells c stands in
        let kinds : w.0.kind ≡ kind_number key = w.2.kind ∙ on.kind in
        let has = to_sorted all page.0 (kind_number key) (ordered key) page.1 w.0 w.1 kinds (from_on (byte_cmp w.0.key (ordered key)) (ap is_lt (row_order w.0 c key typed w.2 on.kind) ∙ on.order)) in
        by c w.0 kinds w.2 on.kind (has_either (take limit page.0) (drop limit page.0) w.0 (subst (λ es. Has es w.0) (sym (take-append-drop limit page.0)) has));
  }
    where
      by : (c : Cell) (e : Entry) → e.kind ≡ kind_number key → IsEntryOf e.kind e c → kind_number (own_key c) ≡ kind_number key → Has (take limit page.0) e ⊎ Has (drop limit page.0) e
          → IsOneOf found c ⊎ ((length found ≡ limit) × ((d : Cell) → IsOneOf found d → cell_cmp (own_key d) (own_key c) ≡ Less))
      by c e kinds row of_kind (inl front) = inl (one_of_cells (kind_number key) (take limit page.0) found e c page.3 front kinds row)
      by c e kinds row of_kind (inr back) = inr (
        cells_of_rows (kind_number key) (take limit page.0) found page.3 ∙ left_over limit page.0 e back,
        λ d one. let w = one_entry (kind_number key) (take limit page.0) found d page.3 one in after_all e w.0 c d w.1 back row w.2 of_kind,
      )
