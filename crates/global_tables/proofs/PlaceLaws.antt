-- What a binary search over rows in cell order finds, and what stands under a key by its place.
use Rattle.std.proofs.Common.{◌≡◌, inl, inr, ℕ, zero, suc, ◌+◌, ◌≤◌, ◌<◌, true, List, [], ◌∷◌, ◌++◌, map, length, take, drop, get_or, Option, Some, None, refl, sym, ap, ◌∙◌, subst, arith}
use Rattle.std.specs.Prelude.{IfOk, IfErr, Result, Ok, Err}
use Rattle.std.specs.FinMap.{slice_cmp-IsAntisymmetric}
use Rattle.std.specs.Ordering.{is_lt, nat_cmp, ordering_then, ordering_index, ordering_reverse}
use Rattle.std.specs.Cmp.Lexicographic.{slice_cmp}
use Rattle.std.specs.List.Sorted.{IsSearchInRange, IsBinarySearchResult, IsPartitionPoint, IsNonDecreasingBy, IsSortedBy}
use Rattle.std.specs.declared.cmp.Ordering.{Ordering}
use Rattle.std.specs.declared.cmp.Ordering.TheVariants.{Less, Equal, Greater}
use Rattle.std.proofs.lemmas.Cmp.{ranked}
use Rattle.std.proofs.lemmas.List.{get_or-map, length-map, take-map, drop-map, take-append-drop}
use Rattle.std.proofs.lemmas.List.Sorted.{searchable_from_sorted}
use Rattle.cell_world.specs.ByteOrder.{byte_cmp}
use Rattle.cell_world.specs.KeyOrder.{derived_cmp, same_order}
use Rattle.cell_world.specs.Lists.{IsOneOf}
use Rattle.cell_world.specs.Orders.{cell_cmp, kind_number, fields_of}
use Rattle.cell_world.specs.Stores.{Store, IsKeyed, cell_at, own_key}
use Rattle.cell_world.specs.contracts.cells.CellKeyOrd.TheImpl.Laws.{total-law}
use Rattle.cell_world.specs.declared.cells.Cell.{Cell}
use Rattle.cell_world.specs.declared.cells.CellKey.{CellKey}
use Rattle.cell_world.specs.declared.cells.CellKey.TheVariants as at
use Rattle.cell_world.proofs.OrderLaws.{exact_texts}
use Rattle.cell_world.proofs.KeyedLaws.{stands_under}
use Rattle.global_tables.specs.declared.groups.Group.{Group}
use Rattle.global_tables.specs.Groups.{is_in, cells_of}
use Rattle.global_tables.specs.Places.{StandsAt, GoesAt}
use Rattle.global_tables.proofs.Rising.{Rising, in_map, in_either}
use Rattle.global_tables.proofs.CellOrder.{Before, cell_total, key_not_itself}
use Rattle.global_tables.proofs.GroupCells.{rise, stand, there}

-- ---- only equal keys tie

both_equal : (r s : Ordering) → ordering_then r s ≡ Equal → (r ≡ Equal) × (s ≡ Equal)
both_equal Less s h = cc
both_equal Equal s h = (refl, h)
both_equal Greater s h = cc

same_fields : (a b : CellKey) → kind_number a ≡ kind_number b → fields_of a ≡ fields_of b → a ≡ b
same_fields (at.Map a) (at.Map b) k f = let e : a ≡ b = cc in ap at.Map e
same_fields (at.Shard a l) (at.Shard b m) k f = let e : a ≡ b = cc in let g : l ≡ m = cc in λ i. at.Shard (e i) (g i)
same_fields (at.Table a l) (at.Table b m) k f = let e : a ≡ b = cc in let g : l ≡ m = cc in λ i. at.Table (e i) (g i)
same_fields (at.Piece a l) (at.Piece b m) k f = let e : a ≡ b = cc in let g : l ≡ m = cc in λ i. at.Piece (e i) (g i)
same_fields (at.Log m) (at.Log n) k f = let e : m ≡ n = cc in ap at.Log e
same_fields (at.Job m) (at.Job n) k f = let e : m ≡ n = cc in ap at.Job e
same_fields at.Counter at.Counter k f = refl
same_fields (at.SiteState a) (at.SiteState b) k f = let e : a ≡ b = cc in ap at.SiteState e
same_fields (at.Local a l m) (at.Local b k n) e f = let p : a ≡ b = cc in let q : l ≡ k = cc in let r : m ≡ n = cc in λ i. at.Local (p i) (q i) (r i)
same_fields (at.Row r) (at.Row s) k f =
    let m : r.map ≡ s.map = cc in
    let q : r.key ≡ s.key = cc in
    let t : r.table ≡ s.table = cc in
    let n : r.number ≡ s.number = cc in
    λ i. at.Row (record { map = m i; key = q i; table = t i; number = n i })
same_fields a b k f = absurd (omega (arith, k))

pub exact_keys : (a b : CellKey) → cell_cmp a b ≡ Equal → a ≡ b
exact_keys a b h =
    let both = both_equal (nat_cmp (kind_number a) (kind_number b)) (slice_cmp byte_cmp (fields_of a) (fields_of b)) h in
    same_fields a b (ranked (kind_number a) (kind_number b) Equal (sym both.0)) (slice_cmp-IsAntisymmetric exact_texts (fields_of a) (fields_of b) both.1)

pub turned : (a b : CellKey) → cell_cmp a b ≡ Greater → cell_cmp b a ≡ Less
turned a b h = cell_total.antisymm b a ∙ ap ordering_reverse h

-- ---- members by their places

module _ {A : Type 0} where
  pub member_at : (xs : List A) (i : ℕ) (d : A) → i < length xs → IsOneOf xs (get_or xs i d)
  member_at [] i d lt = absurd (omega (arith, lt))
  member_at (x ∷ xs) zero d lt = inl refl
  member_at (x ∷ xs) (suc i) d lt = inr (member_at xs i d (omega (arith, lt)))

  taken : (P : A → Type 0) (xs : List A) (i : ℕ) → i ≤ length xs → ((k : ℕ) (d : A) → k < i → P (get_or xs k d)) → (x : A) → IsOneOf (take i xs) x → P x
  taken P xs zero le all x h = absurd h
  taken P [] (suc i) le all x h = absurd h
  taken P (y ∷ ys) (suc i) le all x (inl is) = subst P is (all 0 y (omega arith))
  taken P (y ∷ ys) (suc i) le all x (inr h) = taken P ys i (omega (arith, le)) (λ k d lt. all (suc k) d (omega (arith, lt))) x h

  left : (P : A → Type 0) (xs : List A) (i : ℕ) → ((k : ℕ) (d : A) → i ≤ k → k < length xs → P (get_or xs k d)) → (x : A) → IsOneOf (drop i xs) x → P x
  left P [] zero all x h = absurd h
  left P [] (suc i) all x h = absurd h
  left P (y ∷ ys) zero all x (inl is) = subst P is (all 0 y (omega arith) (omega arith))
  left P (y ∷ ys) zero all x (inr h) = left P ys zero (λ k d le lt. all (suc k) d (omega arith) (omega (arith, lt))) x h
  left P (y ∷ ys) (suc i) all x h = left P ys i (λ k d le lt. all (suc k) d (omega (arith, le)) (omega (arith, lt))) x h

-- each is before a later one
before_at : (cs : List Cell) → Rising Before cs → (i j : ℕ) (d : Cell) → i < j → j < length cs → Before (get_or cs i d) (get_or cs j d)
before_at [] r i j d lt within = absurd (omega (arith, within))
before_at (c ∷ cs) r i zero d lt within = absurd (omega (arith, lt))
before_at (c ∷ cs) r zero (suc j) d lt within = r.0 (get_or cs j d) (member_at cs j d (omega (arith, within)))
before_at (c ∷ cs) r (suc i) (suc j) d lt within = before_at cs r.1 i j d (omega (arith, lt)) (omega (arith, within))

-- ---- what the search finds

module _ {A : Type 0} (of : A → Cell) (key : CellKey) where
  abbrev own : A → CellKey
  own row = own_key (of row)

  abbrev Found : List A → Result ℕ ℕ → Type 0
  Found rows r = IsBinarySearchResult (λ row. derived_cmp (own row) key) rows r

  stands_at : (rows : List A) (i : ℕ) → i < length rows → ((d : A) → derived_cmp (own (get_or rows i d)) key ≡ Equal) → StandsAt (map of rows) key i
  stands_at [] i lt ties = absurd (omega (arith, lt))
  stands_at (row ∷ rows) i lt ties = record {
    within = omega (arith, lt, length-map (row ∷ rows) of);
    own = λ c. ap own_key (get_or-map of (row ∷ rows) i row c lt) ∙ exact_keys (own (get_or (row ∷ rows) i row)) key (sym (same_order (own (get_or (row ∷ rows) i row)) key) ∙ ties row);
  }

  pub found_place : (rows : List A) (r : Result ℕ ℕ) → IsSearchInRange r (length rows) → Found rows r → IfOk r (StandsAt (map of rows) key)
  found_place rows (Ok i) within found = stands_at rows i within found
  found_place rows (Err i) within found = tt

  sorted : (rows : List A) → Rising Before (map of rows) → IsSortedBy (λ a b. is_lt (derived_cmp (own a) (own b))) rows
  sorted rows rises k d le lt =
      let before : Before (get_or (map of rows) k (of d)) (get_or (map of rows) (k + 1) (of d)) = before_at (map of rows) rises k (k + 1) (of d) (omega arith) (omega (arith, lt, length-map rows of)) in
      let a = get_or rows k d in
      let b = get_or rows (k + 1) d in
      let less : cell_cmp (own a) (own b) ≡ Less = (λ i. cell_cmp (own_key (sym (get_or-map of rows k d (of d) (omega (arith, lt))) i)) (own_key (sym (get_or-map of rows (k + 1) d (of d) lt) i))) ∙ before in
      ap is_lt (same_order (own b) (own a) ∙ cell_total.antisymm (own b) (own a) ∙ ap ordering_reverse less)

  goes_at : (rows : List A) (i : ℕ) → i ≤ length rows → Rising Before (map of rows)
      → (IsNonDecreasingBy (λ row. ordering_index (derived_cmp (own row) key)) rows → IsPartitionPoint (λ row. derived_cmp (own row) key ≡ Less) (λ row. derived_cmp (own row) key ≡ Greater) rows i) → GoesAt (map of rows) key i
  goes_at rows i within rises parts =
      let p = parts (searchable_from_sorted total-law own rows key (sorted rows rises)) in
      record {
        within = omega (arith, within, length-map rows of);
        below = λ c h.
            let m = in_map of (take i rows) c (subst (λ cs. IsOneOf cs c) (take-map of i rows) h) in
            subst (λ x. cell_cmp (own_key x) key ≡ Less) m.2 (sym (same_order (own m.0) key) ∙ taken (λ row. derived_cmp (own row) key ≡ Less) rows i within (λ k d lt. p.0 k d (omega arith) lt) m.0 m.1);
        above = λ c h.
            let m = in_map of (drop i rows) c (subst (λ cs. IsOneOf cs c) (drop-map of i rows) h) in
            subst (λ x. cell_cmp key (own_key x) ≡ Less) m.2 (turned (own m.0) key (sym (same_order (own m.0) key) ∙ left (λ row. derived_cmp (own row) key ≡ Greater) rows i (λ k d le lt. p.1 k d le lt) m.0 m.1));
      }

  pub absent_place : (rows : List A) (r : Result ℕ ℕ) → IsSearchInRange r (length rows) → Found rows r → (s : Store) → IsKeyed s → (g : Group) → map of rows ≡ cells_of s g → IfErr r (GoesAt (map of rows) key)
  absent_place rows (Ok i) within found s keyed g is = tt
  absent_place rows (Err i) within found s keyed g is = goes_at rows i within (subst (Rising Before) (sym is) (rise s keyed g)) found

-- ---- what stands under the key

module _ (s : Store) (keyed : IsKeyed s) (g : Group) (key : CellKey) where
  pub stands_there : (cs : List Cell) (i : ℕ) (c : Cell) → cs ≡ cells_of s g → StandsAt cs key i → c ≡ get_or cs i c → Some c ≡ cell_at s key
  stands_there cs i c is place e =
      let among : IsOneOf (cells_of s g) c = subst (λ ds. IsOneOf ds c) is (subst (IsOneOf cs) (sym e) (member_at cs i c place.within)) in
      let own : own_key c ≡ key = ap own_key e ∙ place.own c in
      sym (subst (λ k. cell_at s k ≡ Some c) own (stand s keyed g c among).0)

  pub none_there : is_in g key ≡ true → (cs : List Cell) (i : ℕ) → cs ≡ cells_of s g → GoesAt cs key i → None ≡ cell_at s key
  none_there inside cs i is place = by (cell_at s key) refl
    where
      by : (o : Option Cell) → cell_at s key ≡ o → None ≡ cell_at s key
      by None e = sym e
      by (Some c) e =
          let own : own_key c ≡ key = stands_under s key c keyed e in
          let among : IsOneOf (cells_of s g) c = there s keyed g c (subst (λ k. cell_at s k ≡ Some c) (sym own) e) (subst (λ k. is_in g k ≡ true) (sym own) inside) in
          let parted : IsOneOf (take i cs ++ drop i cs) c = subst (λ ds. IsOneOf ds c) (sym is ∙ sym (take-append-drop i cs)) among in
          elim (in_either (take i cs) (drop i cs) c parted) [
            | inl m ↦ absurd (key_not_itself key (subst (λ k. cell_cmp k key ≡ Less) own (place.below c m)))
            | inr m ↦ absurd (key_not_itself key (subst (λ k. cell_cmp key k ≡ Less) own (place.above c m)))
          ]
