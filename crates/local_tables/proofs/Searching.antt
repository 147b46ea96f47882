-- A search from a key downwards finds the counted row over it, and reads the log at most once for each marked row over it.
use Rattle.std.proofs.Common.{◌≡◌, inl, inr, ℕ, ◌+◌, ◌≤◌, Bool, true, false, cond, not, ◌&&◌, List, [], ◌∷◌, length, Option, Some, None, option_map, refl, sym, ap, ◌∙◌, subst, arith, true≢false}
use Rattle.std.specs.Prelude.{filter, find, Result, Ok, Err, IfOk}
use Rattle.std.specs.FinMap as fin
use Rattle.std.specs.Ordering.{is_gt, nat_cmp, ordering_then, ordering_reverse}
use Rattle.std.specs.declared.cmp.Ordering.{Ordering}
use Rattle.std.specs.declared.cmp.Ordering.TheVariants.{Less, Equal, Greater}
use Rattle.std.proofs.lemmas.Bool.{and_parts, and_from}
use Rattle.std.proofs.lemmas.Cmp.{upto}
use Rattle.cell_world.specs.Texts.{Text}
use Rattle.cell_world.specs.ByteOrder.{byte_cmp}
use Rattle.cell_world.specs.Keys.{same, contains, low_of, at_most}
use Rattle.cell_world.specs.Lists.{IsOneOf}
use Rattle.cell_world.specs.Orders.{local_cmp}
use Rattle.cell_world.specs.Spelled.{IsLocalRow}
use Rattle.cell_world.specs.Stores.{Store, IsStore, Stands, Log, local_key, own_key}
use Rattle.cell_world.specs.Finding.{IsFloor, IsAtOrBelow}
use Rattle.cell_world.specs.Orders.{cell_cmp, kind_number, map_of}
use Rattle.cell_world.specs.Meaning.{counts, counts_with}
use Rattle.cell_world.specs.Sound.{HasLocal}
use Rattle.cell_world.specs.declared.cells.Cell.TheVariants as cell
use Rattle.cell_world.specs.declared.cells.CellKey.{CellKey}
use Rattle.cell_world.specs.declared.cells.CellKey.TheVariants as at
use Rattle.cell_world.specs.declared.cells.LocalRow.{LocalRow}
use Rattle.cell_world.specs.declared.cells.Mark.{Mark}
use Rattle.cell_world.specs.declared.cells.Mark.TheVariants.{Plain, Old, New}
use Rattle.cell_world.proofs.OrderLaws.{locals_total, exact_locals}
use Rattle.cell_world.proofs.SpanLaws.{same_is, same_self, contains_between, at_most_trans}
use Rattle.image_laws.proofs.ValueLaws.{value_found, value_there}
use Rattle.global_tables.specs.declared.faults.StepFault.{StepFault}
use Rattle.global_tables.proofs.CellOrder.{cell_total, by_number}
use Rattle.global_tables.proofs.GroupCells as group_cells
use Rattle.local_tables.specs.declared.judging.Look.{Look}
use Rattle.local_tables.specs.declared.judging.Look.TheVariants.{Ends, Goes}
use Rattle.local_tables.specs.Resolving.{is_over, resolved, CountApart, log_reads, is_marked, is_up_to, marks_left, IsFrom, NoneAbove, IsBefore, IsBelowRow, Judges, reads_over, Looks, StaysFrom, left_after}
use Rattle.local_tables.proofs.BelowRows.{local_order}

-- ---- tests

both_true : (a b : Bool) → (a && b) ≡ true → (a ≡ true) × (b ≡ true)
both_true a b h = and_parts a b h

not_both : (a b : Bool) → (a && b) ≡ false → a ≡ true → b ≡ true → ⊥
not_both a b h f g = true≢false (sym (and_from a b f g) ∙ h)

is_not : (b : Bool) → not b ≡ true → b ≡ false
is_not true e = sym e
is_not false e = refl

-- ---- how many pass a test

module _ {A : Type 0} (f g : A → Bool) where
  pub longer : (x : A) (xs ys : List A) (a b : Bool) → (a ≡ true → b ≡ true) → length xs ≤ length ys → length (cond a (x ∷ xs) xs) ≤ length (cond b (x ∷ ys) ys)
  longer x xs ys true b h le = by b (h refl)
    where
      by : (b : Bool) → b ≡ true → length (x ∷ xs) ≤ length (cond b (x ∷ ys) ys)
      by true e = let m : length (x ∷ xs) ≡ length xs + 1 = omega arith in let n : length (x ∷ ys) ≡ length ys + 1 = omega arith in omega (arith, m, n, le)
      by false e = absurd (true≢false (sym e))
  longer x xs ys false true h le = let n : length (x ∷ ys) ≡ length ys + 1 = omega arith in omega (arith, n, le)
  longer x xs ys false false h le = le

  -- no more pass the narrower test
  pub fewer : (xs : List A) → ((x : A) → IsOneOf xs x → f x ≡ true → g x ≡ true) → length (filter f xs) ≤ length (filter g xs)
  fewer [] h = omega arith
  fewer (x ∷ xs) h = longer x (filter f xs) (filter g xs) (f x) (g x) (h x (inl refl)) (fewer xs (λ y m. h y (inr m)))

  -- and one less, where some element passes the other alone
  one_fewer : (xs : List A) → ((x : A) → IsOneOf xs x → f x ≡ true → g x ≡ true) → (w : A) → IsOneOf xs w → f w ≡ false → g w ≡ true → length (filter f xs) + 1 ≤ length (filter g xs)
  one_fewer [] h w among off on = absurd among
  one_fewer (x ∷ xs) h w (inl is) off on =
      let few = fewer xs (λ y m. h y (inr m)) in
      let n : length (x ∷ filter g xs) ≡ length (filter g xs) + 1 = omega arith in
      subst (λ b. length (cond b (x ∷ filter f xs) (filter f xs)) + 1 ≤ length (cond (g x) (x ∷ filter g xs) (filter g xs))) (sym (ap f is ∙ off))
      (subst (λ b. length (filter f xs) + 1 ≤ length (cond b (x ∷ filter g xs) (filter g xs))) (sym (ap g is ∙ on)) (omega (arith, few, n)))
  one_fewer (x ∷ xs) h w (inr among) off on = by (f x) (g x) (h x (inl refl)) (one_fewer xs (λ y m. h y (inr m)) w among off on)
    where
      by : (a b : Bool) → (a ≡ true → b ≡ true) → length (filter f xs) + 1 ≤ length (filter g xs) → length (cond a (x ∷ filter f xs) (filter f xs)) + 1 ≤ length (cond b (x ∷ filter g xs) (filter g xs))
      by true b h le = at b (h refl)
        where
          at : (b : Bool) → b ≡ true → length (x ∷ filter f xs) + 1 ≤ length (cond b (x ∷ filter g xs) (filter g xs))
          at true e = let m : length (x ∷ filter f xs) ≡ length (filter f xs) + 1 = omega arith in let n : length (x ∷ filter g xs) ≡ length (filter g xs) + 1 = omega arith in omega (arith, m, n, le)
          at false e = absurd (true≢false (sym e))
      by false true h le = let n : length (x ∷ filter g xs) ≡ length (filter g xs) + 1 = omega arith in omega (arith, n, le)
      by false false h le = le

-- ---- where things stand in one store

module _ (s : Store) (store : IsStore s) (log : Log) (name key : Text) where
  -- the search behind what is resolved
  abbrev counted : LocalRow → Bool
  counted row = counts log row && is_over name key row

  local_stands : (q : LocalRow) → HasLocal s.locals q → Stands s (cell.Local q)
  local_stands q h = ap (option_map cell.Local) h

  local_has : (q : LocalRow) → Stands s (cell.Local q) → HasLocal s.locals q
  local_has q h = back (fin.get s.locals (local_key q)) h
    where
      back : (o : Option LocalRow) → option_map cell.Local o ≡ Some (cell.Local q) → o ≡ Some q
      back None e = cc
      back (Some r) e = let is : r ≡ q = cc in ap Some is

  pub local_typed : (q : LocalRow) → HasLocal s.locals q → IsLocalRow q
  local_typed q h = (store.cells (cell.Local q) (local_stands q h)).typed

  value_has : (q : LocalRow) → IsOneOf (fin.values s.locals) q → HasLocal s.locals q
  value_has q h = group_cells.value_stands locals_total local_key s.locals store.keyed.locals q h

  has_value : (q : LocalRow) → HasLocal s.locals q → IsOneOf (fin.values s.locals) q
  has_value q h = group_cells.value_there locals_total local_key s.locals store.keyed.locals exact_locals (local_key q) q h

  -- rows of one name are one
  same_name : (q r : LocalRow) → HasLocal s.locals q → HasLocal s.locals r → local_key q ≡ local_key r → q ≡ r
  same_name q r h g e = let both : Some q ≡ Some r = sym h ∙ ap (fin.get s.locals) e ∙ g in cc

  -- ---- what is resolved

  no_row : ((q : LocalRow) → HasLocal s.locals q → counted q ≡ true → ⊥) → resolved log s.locals name key ≡ None
  no_row none = by (find counted (fin.values s.locals)) refl
    where
      by : (o : Option LocalRow) → find counted (fin.values s.locals) ≡ o → option_map (λ (row : LocalRow). row.status) (find counted (fin.values s.locals)) ≡ None
      by None e = ap (option_map (λ (row : LocalRow). row.status)) e
      by (Some q) e =
          let f = value_found local_cmp locals_total counted s.locals q e in
          let place : local_key q ≡ f.0 = group_cells.own locals_total local_key s.locals store.keyed.locals f.0 q f.1 in
          absurd (none q (subst (λ k. fin.get s.locals k ≡ Some q) (sym place) f.1) f.2)

  one_row : CountApart log s.locals name → (r : LocalRow) → HasLocal s.locals r → r.map ≡ name → counts log r ≡ true → contains r.span key ≡ true → resolved log s.locals name key ≡ Some r.status
  one_row apart r h e c o = by (find counted (fin.values s.locals)) refl
    where
      passes : counted r ≡ true
      passes = and_from (counts log r) (is_over name key r) c (and_from (same name r.map) (contains r.span key) (subst (λ n. same n r.map ≡ true) e (same_self r.map)) o)

      by : (found : Option LocalRow) → find counted (fin.values s.locals) ≡ found → option_map (λ (row : LocalRow). row.status) (find counted (fin.values s.locals)) ≡ Some r.status
      by None f = let some = value_there local_cmp locals_total counted s.locals (local_key r) r h passes in cc
      by (Some q) f =
          let g = value_found local_cmp locals_total counted s.locals q f in
          let place : local_key q ≡ g.0 = group_cells.own locals_total local_key s.locals store.keyed.locals g.0 q g.1 in
          let parts = both_true (counts log q) (is_over name key q) g.2 in
          let over = both_true (same name q.map) (contains q.span key) parts.1 in
          let has : HasLocal s.locals q = subst (λ k. fin.get s.locals k ≡ Some q) (sym place) g.1 in
          ap (option_map (λ (row : LocalRow). row.status)) f ∙ ap (λ (x : LocalRow). Some x.status) (apart.once q r key has h parts.0 c (sym (same_is name q.map over.0)) e over.1 o)

  -- ---- one step

  module _ (from : CellKey) (at_from : IsFrom name key from) where
    kind_from : kind_number from ≡ 9
    kind_from = ap kind_number at_from.is

    map_from : map_of from ≡ Some name
    map_from = ap map_of at_from.is

    at_or_below : (q : LocalRow) → q.map ≡ name → is_up_to from q ≡ true → IsAtOrBelow from (cell.Local q)
    at_or_below q e up = record { kind = sym kind_from; map = ap Some e ∙ sym map_from; order = is_not (is_gt (cell_cmp (own_key (cell.Local q)) from)) up }

    module _ (row : LocalRow) (floor : IsFloor s from (Some (cell.Local row))) where
      row_has : HasLocal s.locals row
      row_has = local_has row floor.0

      row_map : row.map ≡ name
      row_map = let e : Some row.map ≡ Some name = floor.1.map ∙ map_from in cc

      -- not above the row
      not_above : (q : LocalRow) → HasLocal s.locals q → q.map ≡ name → is_up_to from q ≡ true → is_gt (cell_cmp (own_key (cell.Local q)) (own_key (cell.Local row))) ≡ false
      not_above q h e up = floor.2 (cell.Local q) (local_stands q h) (at_or_below q e up)

      low_gt : (a b : Text) (m n : ℕ) (x y : Text) → x ≡ y → is_gt (cell_cmp (at.Local x a m) (at.Local y b n)) ≡ false → at_most a b ≡ true
      low_gt a b m n x y e h = first (byte_cmp a b) (nat_cmp m n) (ap is_gt (sym (local_order x y a b m n e)) ∙ h)
        where
          first : (r s : Ordering) → is_gt (ordering_then r s) ≡ false → not (is_gt r) ≡ true
          first Less s h = refl
          first Equal s h = refl
          first Greater s h = absurd (true≢false h)

      -- its low key isn't above the one that is looked for
      row_low : at_most (low_of row.span) key ≡ true
      row_low = at_most_trans (low_of row.span) at_from.low key (low_gt (low_of row.span) at_from.low row.number at_from.number row.map name row_map (subst (λ k. is_gt (cell_cmp (own_key (cell.Local row)) k) ≡ false) at_from.is floor.1.order)) at_from.below

      -- another row of the map that isn't above it is before it
      before_row : (q : LocalRow) → HasLocal s.locals q → q.map ≡ name → is_up_to from q ≡ true → (q ≡ row → ⊥) → IsBefore q row
      before_row q h e up other = by (cell_cmp (own_key (cell.Local q)) (own_key (cell.Local row))) refl
        where
          by : (r : Ordering) → cell_cmp (own_key (cell.Local q)) (own_key (cell.Local row)) ≡ r → IsBefore q row
          by Less f = f
          by Equal f = absurd (other (same_name q row h row_has (keys_same q row f)))
            where
              keys_same : (q r : LocalRow) → cell_cmp (own_key (cell.Local q)) (own_key (cell.Local r)) ≡ Equal → local_key q ≡ local_key r
              keys_same q r f = exact_locals (local_key q) (local_key r) (sym (ap (λ o. ordering_then (byte_cmp q.map r.map) (ordering_then (byte_cmp (low_of q.span) (low_of r.span)) o)) (by_number q.number r.number)) ∙ f)
          by Greater f = absurd (true≢false (ap is_gt (sym f) ∙ not_above q h e up))

      counted_parts : (q : LocalRow) → counted q ≡ true → (counts log q ≡ true) × (q.map ≡ name) × (contains q.span key ≡ true)
      counted_parts q h =
          let parts = both_true (counts log q) (is_over name key q) h in
          let over = both_true (same name q.map) (contains q.span key) parts.1 in
          (parts.0, sym (same_is name q.map over.0), over.1)

      not_the_row : (contains row.span key && counts log row) ≡ false → (q : LocalRow) → counted q ≡ true → q ≡ row → ⊥
      not_the_row off q h e =
          let c = counted_parts row (subst (λ (x : LocalRow). counted x ≡ true) e h) in
          not_both (contains row.span key) (counts log row) off c.2 c.0

      pub looks_row : CountApart log s.locals name → NoneAbove log s.locals name key from → (look : Look) → Judges log key row look → Looks log s.locals name key look
      looks_row apart none (Ends (Some status)) j = ap Some j.2 ∙ sym (one_row apart row row_has row_map j.1 j.0)
      looks_row apart none (Ends None) (inl j) = sym (no_row (λ q h c.
          let p = counted_parts q c in
          let up = none q h p.0 (both_true (counts log q) (is_over name key q) c).1 in
          let lower = low_gt (low_of q.span) (low_of row.span) q.number row.number q.map row.map (p.1 ∙ sym row_map) (not_above q h p.1 up) in
          let counts_row : counts log row ≡ true = ap (λ m. counts_with log m row.number) j.1 in
          let shared = contains_between q.span key (low_of row.span) p.2 lower row_low in
          let is : q ≡ row = apart.once q row (low_of row.span) h row_has p.0 counts_row p.1 row_map shared (apart.proper row row_has counts_row row_map) in
          true≢false (sym p.2 ∙ ap (λ (x : LocalRow). contains x.span key) is ∙ j.0)))
      looks_row apart none (Ends None) (inr j) = sym (no_row (λ q h c.
          let p = counted_parts q c in
          let up = none q h p.0 (both_true (counts log q) (is_over name key q) c).1 in
          j.1 q (local_typed q h) (p.1 ∙ sym row_map) (before_row q h p.1 up (not_the_row j.0 q c))))
      looks_row apart none (Goes next) j = λ q h c o.
          let passes : counted q ≡ true = and_from (counts log q) (is_over name key q) c o in
          let p = counted_parts q passes in
          j.1.all q (local_typed q h) (p.1 ∙ sym row_map) (before_row q h p.1 (none q h c o) (not_the_row j.0 q passes))

      pub stays_row : (look : Look) → Judges log key row look → StaysFrom name key look
      stays_row (Ends status) j = tt
      stays_row (Goes next) j = record { low = j.1.low; number = j.1.number; is = j.1.is ∙ ap (λ n. at.Local n j.1.low j.1.number) row_map; below = at_most_trans j.1.low (low_of row.span) key j.1.lower row_low }

      -- ---- reads

      abbrev left : CellKey → LocalRow → Bool
      left at_key q = (is_marked q.mark && is_over name key q) && is_up_to at_key q

      row_up : is_up_to from row ≡ true
      row_up = ap not floor.1.order

      row_left : is_marked row.mark ≡ true → contains row.span key ≡ true → left from row ≡ true
      row_left m o = and_from (is_marked row.mark && is_over name key row) (is_up_to from row) (and_from (is_marked row.mark) (is_over name key row) m (and_from (same name row.map) (contains row.span key) (subst (λ n. same n row.map ≡ true) row_map (same_self row.map)) o)) row_up

      -- the read that the row costs, if it costs one
      costs : (P : ℕ → Type 0) → (P 0) → (is_marked row.mark ≡ true → contains row.span key ≡ true → P 1) → P (reads_over key row)
      costs P free one = by (contains row.span key) refl
        where
          at : (m : Mark) → row.mark ≡ m → contains row.span key ≡ true → P (log_reads m)
          at Plain e o = free
          at (Old p) e o = one (ap is_marked e) o
          at New e o = one (ap is_marked e) o

          by : (b : Bool) → contains row.span key ≡ b → P (cond b (log_reads row.mark) 0)
          by true o = at row.mark refl o
          by false o = free

      some_left : reads_over key row ≤ marks_left s.locals name key from
      some_left = costs (λ n. n ≤ marks_left s.locals name key from) (omega arith)
          (λ m o. let one : length (filter (λ (q : LocalRow). false) (fin.values s.locals)) + 1 ≤ marks_left s.locals name key from = one_fewer (λ q. false) (left from) (fin.values s.locals) (λ x among e. absurd (true≢false (sym e))) row (has_value row row_has) refl (row_left m o) in omega (arith, one))

      next_left : (next : CellKey) → IsBelowRow row next → reads_over key row + marks_left s.locals name key next ≤ marks_left s.locals name key from
      next_left next below = costs (λ n. n + marks_left s.locals name key next ≤ marks_left s.locals name key from)
          (let few : marks_left s.locals name key next ≤ marks_left s.locals name key from = fewer (left next) (left from) (fin.values s.locals) narrows in omega (arith, few))
          (λ m o. let less : marks_left s.locals name key next + 1 ≤ marks_left s.locals name key from = one_fewer (left next) (left from) (fin.values s.locals) narrows row (has_value row row_has) off (row_left m o) in omega (arith, less))
        where
          passed : is_gt (cell_cmp (own_key (cell.Local row)) next) ≡ true
          passed = by (is_gt (cell_cmp (own_key (cell.Local row)) next)) below.less
            where
              by : (b : Bool) → not b ≡ false → b ≡ true
              by true e = refl
              by false e = sym e

          next_low : is_gt (cell_cmp next (own_key (cell.Local row))) ≡ false
          next_low = ap is_gt (cell_total.antisymm next (own_key (cell.Local row))) ∙ by (cell_cmp (own_key (cell.Local row)) next) passed
            where
              by : (r : Ordering) → is_gt r ≡ true → is_gt (ordering_reverse r) ≡ false
              by Less e = absurd (true≢false (sym e))
              by Equal e = refl
              by Greater e = refl

          up_more : (q : LocalRow) → is_up_to next q ≡ true → is_up_to from q ≡ true
          up_more q h = ap not (upto cell_total (own_key (cell.Local q)) (own_key (cell.Local row)) from (upto cell_total (own_key (cell.Local q)) next (own_key (cell.Local row)) (is_not (is_gt (cell_cmp (own_key (cell.Local q)) next)) h) next_low) floor.1.order)

          narrows : (q : LocalRow) → IsOneOf (fin.values s.locals) q → left next q ≡ true → left from q ≡ true
          narrows q among h = let both = both_true (is_marked q.mark && is_over name key q) (is_up_to next q) h in and_from (is_marked q.mark && is_over name key q) (is_up_to from q) both.0 (up_more q both.1)

          off : left next row ≡ false
          off = by (is_marked row.mark && is_over name key row)
            where
              by : (b : Bool) → (b && is_up_to next row) ≡ false
              by true = below.less
              by false = refl

      -- the read is made up for by what is left after it
      pub reads_row : (log : Log) (r : Result Look StepFault) → IfOk r (Judges log key row) → reads_over key row + left_after s.locals name key r ≤ marks_left s.locals name key from
      reads_row log (Ok (Goes next)) j = next_left next j.1
      reads_row log (Ok (Ends status)) j = let some = some_left in omega (arith, some)
      reads_row log (Err fault) j = let some = some_left in omega (arith, some)

    pub looks_nothing : IsFloor s from None → NoneAbove log s.locals name key from → None ≡ resolved log s.locals name key
    looks_nothing floor none = sym (no_row (λ q h c.
        let parts = both_true (counts log q) (is_over name key q) c in
        let over = both_true (same name q.map) (contains q.span key) parts.1 in
        floor (cell.Local q) (local_stands q h) (at_or_below q (sym (same_is name q.map over.0)) (none q h parts.0 parts.1))))
