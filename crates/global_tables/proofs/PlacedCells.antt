-- A cell put in its place among the cells of a group, or taken out, gives the cells of the group after the put or the delete.
use Rattle.std.proofs.Common.{◌≡◌, ◌⊎◌, inl, inr, ℕ, suc, ◌<◌, true, List, ◌∷◌, ◌++◌, map, length, take, drop, get_or, Some, None, refl, sym, ap, ◌∙◌, subst}
use Rattle.std.specs.List.{insert, remove}
use Rattle.std.proofs.Math.ListN.{set}
use Rattle.std.specs.declared.cmp.Ordering.TheVariants.{Less}
use Rattle.std.proofs.lemmas.List.{set_split, set-get_or, take-append-drop, take-map, drop-map, map-append}
use Rattle.cell_world.specs.Lists.{IsOneOf}
use Rattle.cell_world.specs.Orders.{cell_cmp}
use Rattle.cell_world.specs.Stores.{Store, IsKeyed, Stands, cell_at, own_key, put, delete}
use Rattle.cell_world.specs.declared.cells.Cell.{Cell}
use Rattle.cell_world.specs.declared.cells.CellKey.{CellKey}
use Rattle.cell_world.proofs.StoreLaws.{cell_at-put_same, cell_at-put_other, cell_at-delete_same, cell_at-delete_other}
use Rattle.cell_world.proofs.KeyedLaws.{keyed_put, keyed_delete, stands_put, stands_delete}
use Rattle.global_tables.specs.declared.groups.Group.{Group}
use Rattle.global_tables.specs.Groups.{is_in, cells_of}
use Rattle.global_tables.specs.Places.{StandsAt, GoesAt}
use Rattle.global_tables.proofs.Rising.{Rising, rising_append, rising_front, rising_back, rising_across, same_rising, in_left, in_right, in_either}
use Rattle.global_tables.proofs.CellOrder.{Before, not_itself, key_not_itself, before_trans, cell_total}
use Rattle.global_tables.proofs.GroupCells.{rise, stand, there}

-- ---- cells on both sides of a key

record IsCut (cells : List Cell) (key : CellKey) (front back : List Cell) : Type 0 where
  front_rises : Rising Before front
  back_rises : Rising Before back
  below : (c : Cell) → IsOneOf front c → cell_cmp (own_key c) key ≡ Less
  above : (c : Cell) → IsOneOf back c → cell_cmp key (own_key c) ≡ Less
  -- they are of the cells, and all but the one under the key are among them
  among : (c : Cell) → IsOneOf front c ⊎ IsOneOf back c → IsOneOf cells c
  parts : (c : Cell) → IsOneOf cells c → IsOneOf front c ⊎ (IsOneOf back c ⊎ (own_key c ≡ key))

module _ (cs : List Cell) (rises : Rising Before cs) (key : CellKey) (i : ℕ) where
  cut_at : Cell → StandsAt cs key i → IsCut cs key (take i cs) (drop (suc i) cs)
  cut_at d place = record {
    front_rises = rising_front Before (take i cs) (c ∷ drop (suc i) cs) whole_rises;
    back_rises = (rising_back Before (take i cs) (c ∷ drop (suc i) cs) whole_rises).1;
    below = λ x h. subst (λ k. cell_cmp (own_key x) k ≡ Less) own (rising_across Before (take i cs) (c ∷ drop (suc i) cs) whole_rises x c h (inl refl));
    above = λ x h. subst (λ k. cell_cmp k (own_key x) ≡ Less) own ((rising_back Before (take i cs) (c ∷ drop (suc i) cs) whole_rises).0 x h);
    among = λ x h. subst (λ ds. IsOneOf ds x) whole (elim h [ inl m ↦ in_left (take i cs) (c ∷ drop (suc i) cs) x m | inr m ↦ in_right (take i cs) (c ∷ drop (suc i) cs) x (inr m) ]);
    parts = λ x h. elim (in_either (take i cs) (c ∷ drop (suc i) cs) x (subst (λ ds. IsOneOf ds x) (sym whole) h)) [
      | inl m ↦ inl m
      | inr m ↦ elim m [ inl is ↦ inr (inr (ap own_key (sym is) ∙ own)) | inr more ↦ inr (inl more) ]
    ];
  }
    where
      c : Cell
      c = get_or cs i d

      own : own_key c ≡ key
      own = place.own d

      whole : take i cs ++ c ∷ drop (suc i) cs ≡ cs
      whole = sym (set_split cs i c place.within) ∙ set-get_or cs i d

      whole_rises : Rising Before (take i cs ++ c ∷ drop (suc i) cs)
      whole_rises = subst (Rising Before) (sym whole) rises

  cut_for : GoesAt cs key i → IsCut cs key (take i cs) (drop i cs)
  cut_for place = record {
    front_rises = rising_front Before (take i cs) (drop i cs) whole_rises;
    back_rises = rising_back Before (take i cs) (drop i cs) whole_rises;
    below = place.below;
    above = place.above;
    among = λ x h. subst (λ ds. IsOneOf ds x) whole (elim h [ inl m ↦ in_left (take i cs) (drop i cs) x m | inr m ↦ in_right (take i cs) (drop i cs) x m ]);
    parts = λ x h. elim (in_either (take i cs) (drop i cs) x (subst (λ ds. IsOneOf ds x) (sym whole) h)) [ inl m ↦ inl m | inr m ↦ inr (inl m) ];
  }
    where
      whole : take i cs ++ drop i cs ≡ cs
      whole = take-append-drop i cs

      whole_rises : Rising Before (take i cs ++ drop i cs)
      whole_rises = subst (Rising Before) (sym whole) rises

-- ---- after a put and after a delete

module _ (s : Store) (keyed : IsKeyed s) (g : Group) (key : CellKey) (front back : List Cell) (cut : IsCut (cells_of s g) key front back) where
  other : (x : Cell) → IsOneOf front x ⊎ IsOneOf back x → own_key x ≡ key → ⊥
  other x (inl m) e = key_not_itself key (subst (λ k. cell_cmp k key ≡ Less) e (cut.below x m))
  other x (inr m) e = key_not_itself key (subst (λ k. cell_cmp key k ≡ Less) e (cut.above x m))

  old : (x : Cell) → IsOneOf front x ⊎ IsOneOf back x → Stands s x × (is_in g (own_key x) ≡ true)
  old x m = stand s keyed g x (cut.among x m)

  cell_removed : front ++ back ≡ cells_of (delete s key) g
  cell_removed = same_rising Before not_itself before_trans (front ++ back) (cells_of (delete s key) g)
      (rising_append Before front back cut.front_rises cut.back_rises (λ x y h m. cell_total.trans (own_key x) key (own_key y) (cut.below x h) (cut.above y m)))
      (rise (delete s key) (keyed_delete s key keyed) g)
      (λ x h. kept x (in_either front back x h))
      (λ x h.
      let st = stand (delete s key) (keyed_delete s key keyed) g x h in
      elim (cut.parts x (there s keyed g x (stands_delete s key x st.0) st.1)) [
        | inl m ↦ in_left front back x m
        | inr m ↦ elim m [
          | inl n ↦ in_right front back x n
          | inr e ↦ gone x e st.0
        ]
      ])
    where
      kept : (x : Cell) → IsOneOf front x ⊎ IsOneOf back x → IsOneOf (cells_of (delete s key) g) x
      kept x m = there (delete s key) (keyed_delete s key keyed) g x (cell_at-delete_other s key (own_key x) (other x m) ∙ (old x m).0) (old x m).1

      gone : (x : Cell) → own_key x ≡ key → Stands (delete s key) x → IsOneOf (front ++ back) x
      gone x e h = let none : None ≡ Some x = sym (cell_at-delete_same s key) ∙ subst (λ k. cell_at (delete s key) k ≡ Some x) e h in absurd (cc)

  module _ (c : Cell) (own : own_key c ≡ key) (inside : is_in g key ≡ true) where
    cell_placed : front ++ c ∷ back ≡ cells_of (put s c) g
    cell_placed = same_rising Before not_itself before_trans (front ++ c ∷ back) (cells_of (put s c) g)
        (rising_append Before front (c ∷ back) cut.front_rises (λ y m. after y m, cut.back_rises) (λ x y h m. elim m [ inl is ↦ subst (Before x) is (ahead x h) | inr n ↦ before_trans x c y (ahead x h) (after y n) ]))
        (rise (put s c) (keyed_put s c keyed) g)
        (λ x h. elim (in_either front (c ∷ back) x h) [
          | inl m ↦ kept x (inl m)
          | inr m ↦ elim m [
            | inl is ↦ subst (IsOneOf (cells_of (put s c) g)) is (there (put s c) (keyed_put s c keyed) g c (cell_at-put_same s c) (subst (λ k. is_in g k ≡ true) (sym own) inside))
            | inr n ↦ kept x (inr n)
          ]
        ])
        (λ x h.
        let st = stand (put s c) (keyed_put s c keyed) g x h in
        elim (stands_put s c x st.0) [
          | inl is ↦ in_right front (c ∷ back) x (inl is)
          | inr stood ↦ elim (cut.parts x (there s keyed g x stood st.1)) [
            | inl m ↦ in_left front (c ∷ back) x m
            | inr m ↦ elim m [
              | inl n ↦ in_right front (c ∷ back) x (inr n)
              | inr e ↦ in_right front (c ∷ back) x (inl (one x (e ∙ sym own) st.0))
            ]
          ]
        ])
      where
        ahead : (x : Cell) → IsOneOf front x → Before x c
        ahead x h = subst (λ k. cell_cmp (own_key x) k ≡ Less) (sym own) (cut.below x h)

        after : (y : Cell) → IsOneOf back y → Before c y
        after y h = subst (λ k. cell_cmp k (own_key y) ≡ Less) (sym own) (cut.above y h)

        kept : (x : Cell) → IsOneOf front x ⊎ IsOneOf back x → IsOneOf (cells_of (put s c) g) x
        kept x m = there (put s c) (keyed_put s c keyed) g x (cell_at-put_other s c (own_key x) (λ e. other x m (e ∙ own)) ∙ (old x m).0) (old x m).1

        one : (x : Cell) → own_key x ≡ own_key c → Stands (put s c) x → c ≡ x
        one x e h = let both : Some c ≡ Some x = sym (cell_at-put_same s c) ∙ subst (λ k. cell_at (put s c) k ≡ Some x) e h in let is : c ≡ x = cc in is

-- ---- rows in their places

module _ {A : Type 0} (of : A → Cell) (s : Store) (keyed : IsKeyed s) (g : Group) (rows : List A) (i : ℕ) (is : map of rows ≡ cells_of s g) where
  rises : Rising Before (map of rows)
  rises = subst (Rising Before) (sym is) (rise s keyed g)

  with_row : (row : A) (j : ℕ) → map of (take i rows ++ row ∷ drop j rows) ≡ take i (map of rows) ++ of row ∷ drop j (map of rows)
  with_row row j = map-append of (take i rows) (row ∷ drop j rows) ∙ (λ k. sym (take-map of i rows) k ++ of row ∷ sym (drop-map of j rows) k)

  without_row : (j : ℕ) → map of (take i rows ++ drop j rows) ≡ take i (map of rows) ++ drop j (map of rows)
  without_row j = map-append of (take i rows) (drop j rows) ∙ (λ k. sym (take-map of i rows) k ++ sym (drop-map of j rows) k)

  module _ (row : A) (inside : is_in g (own_key (of row)) ≡ true) where
    pub row_set : i < length rows → StandsAt (map of rows) (own_key (of row)) i → map of (set rows i row) ≡ cells_of (put s (of row)) g
    row_set lt place =
        ap (map of) (set_split rows i row lt) ∙ with_row row (suc i)
        ∙ cell_placed s keyed g (own_key (of row)) (take i (map of rows)) (drop (suc i) (map of rows)) (subst (λ cs. IsCut cs (own_key (of row)) (take i (map of rows)) (drop (suc i) (map of rows))) is (cut_at (map of rows) rises (own_key (of row)) i (of row) place)) (of row) refl inside

    pub row_inserted : GoesAt (map of rows) (own_key (of row)) i → map of (insert rows i row) ≡ cells_of (put s (of row)) g
    row_inserted place =
        with_row row i
        ∙ cell_placed s keyed g (own_key (of row)) (take i (map of rows)) (drop i (map of rows)) (subst (λ cs. IsCut cs (own_key (of row)) (take i (map of rows)) (drop i (map of rows))) is (cut_for (map of rows) rises (own_key (of row)) i place)) (of row) refl inside

  module _ (key : CellKey) where
    pub row_removed : Cell → StandsAt (map of rows) key i → map of (remove rows i) ≡ cells_of (delete s key) g
    row_removed d place =
        without_row (suc i)
        ∙ cell_removed s keyed g key (take i (map of rows)) (drop (suc i) (map of rows)) (subst (λ cs. IsCut cs key (take i (map of rows)) (drop (suc i) (map of rows))) is (cut_at (map of rows) rises key i d place))

    pub no_row_removed : GoesAt (map of rows) key i → map of rows ≡ cells_of (delete s key) g
    no_row_removed place =
        sym (take-append-drop i (map of rows))
        ∙ cell_removed s keyed g key (take i (map of rows)) (drop i (map of rows)) (subst (λ cs. IsCut cs key (take i (map of rows)) (drop i (map of rows))) is (cut_for (map of rows) rises key i place))
