-- The altered rows of a store, listed piece by piece.
use Rattle.std.proofs.Common.{◌≡◌, ◌⊎◌, inl, inr, ℕ, ◌≤◌, ◌<◌, Bool, true, false, cond, not, ◌&&◌, ◌||◌, List, [], ◌∷◌, ◌++◌, length, take, get_or, ◌-◌, ◌+◌, Option, Some, None, option_map, refl, sym, ap, ◌∙◌, subst, arith, true≢false}
use Rattle.std.specs.Prelude.{filter, option_to_list, Result, Ok, Err, IfOk}
use Rattle.std.specs.FinMap as fin
use Rattle.std.specs.Ordering.{is_lt, is_eq, is_gt, nat_cmp, ordering_then, ordering_reverse}
use Rattle.std.specs.declared.cmp.Ordering.{Ordering}
use Rattle.std.specs.declared.cmp.Ordering.TheVariants.{Less, Equal, Greater}
use Rattle.std.proofs.lemmas.Bool.{and_parts, and_from}
use Rattle.std.proofs.lemmas.Cmp.{nat_list_cmp_total}
use Rattle.std.proofs.lemmas.List.{take_more}
use Rattle.cell_world.specs.Texts.{Text}
use Rattle.cell_world.specs.ByteOrder.{byte_cmp}
use Rattle.cell_world.specs.Keys.{same, below, at_most, before, contains, low_of, overlaps}
use Rattle.cell_world.specs.Lists.{IsOneOf}
use Rattle.cell_world.specs.Orders.{local_cmp, cell_cmp}
use Rattle.cell_world.specs.Spelled.{IsLocalRow}
use Rattle.cell_world.specs.Stores.{Store, IsStore, Stands, local_key, own_key}
use Rattle.cell_world.specs.Finding.{IsScan, IsFromOn}
use Rattle.cell_world.specs.Images.{Image}
use Rattle.cell_world.specs.Outside.{Outside, IfContents, TellsCells, IsSite, store_at, place_at}
use Rattle.cell_world.specs.Sound.{HasLocal}
use Rattle.cell_world.specs.Sweep.{reaches}
use Rattle.cell_world.specs.declared.operations.Op.{Op}
use Rattle.cell_world.specs.declared.cells.Cell.{Cell}
use Rattle.cell_world.specs.declared.cells.Cell.TheVariants as cell
use Rattle.cell_world.specs.declared.cells.CellKey.{CellKey}
use Rattle.cell_world.specs.declared.cells.CellKey.TheVariants as at
use Rattle.cell_world.specs.declared.cells.LocalRow.{LocalRow}
use Rattle.cell_world.specs.declared.cells.Site.{Site}
use Rattle.cell_world.proofs.OrderLaws.{locals_total, exact_locals}
use Rattle.cell_world.specs.declared.spans.Span.{Span}
use Rattle.cell_world.specs.declared.spans.Span.TheVariants.{Range, Point}
use Rattle.cell_world.proofs.SpanLaws.{not_true, same_is, same_self, at_most_self, at_most_trans, at_most_below, at_most_before, low_at_most, shared_of_overlap}
use Rattle.global_tables.specs.declared.faults.StepFault.{StepFault}
use Rattle.global_tables.proofs.CellOrder.{Before, not_itself, before_trans, cell_total, as_rising, by_number, never_less, not_less, is_not_lt}
use Rattle.global_tables.proofs.Entries.{entries_rise, entry_stands}
use Rattle.global_tables.proofs.GroupCells as group_cells
use Rattle.global_tables.proofs.Least.{number_least, empty_least, name_least}
use Rattle.global_tables.proofs.Rising.{Rising, rising_append, rising_filter, rising_front, rising_across, rising_map_in, same_rising, in_left, in_right, in_either, in_filter, from_filter}
use Rattle.local_tables.specs.Altering.{alters, altered, begins_past, first_map, is_old_of, is_past, is_past_hull}
use Rattle.local_tables.specs.Resolving.{is_marked}
use Rattle.local_tables.specs.Scanning.{piece_size, altered_of, altered_in, LeadsOn, LeavesLast, TakesRows, is_before, IsUpTo, Lists}
use Rattle.local_tables.specs.declared.altering.Work.{Work}
use Rattle.local_tables.specs.declared.altering.Work.TheVariants.{ToMark, ToUndo, ToSettle}
use Rattle.local_tables.proofs.BelowRows.{local_order}
use Rattle.local_tables.proofs.KeysBelow.{is_less}
use Rattle.local_tables.proofs.SearchTells.{moved}
use Rattle.local_tables.proofs.SweepLaws.{all_taken}
use Rattle.local_tables.proofs.StepTells.{told_both, nothing_more, stored}

-- ---- orders

-- what is below a key is below what isn't
less_le : (a b c : CellKey) → cell_cmp a b ≡ Less → is_lt (cell_cmp c b) ≡ false → cell_cmp a c ≡ Less
less_le a b c h g = by (cell_cmp c b) refl g
  where
    by : (r : Ordering) → cell_cmp c b ≡ r → is_lt r ≡ false → cell_cmp a c ≡ Less
    by Less e g = absurd (true≢false g)
    by Equal e g = cell_total.antisymm a c ∙ ap ordering_reverse (cell_total.congr c b a e ∙ cell_total.antisymm b a ∙ ap ordering_reverse h)
    by Greater e g = cell_total.trans a b c h (cell_total.antisymm b c ∙ ap ordering_reverse e)

-- rows in cell order
abbrev pub RowBefore : LocalRow → LocalRow → Type 0
RowBefore a b = Before (cell.Local a) (cell.Local b)

row_not_itself : (row : LocalRow) → RowBefore row row → ⊥
row_not_itself row h = not_itself (cell.Local row) h

row_trans : (a b c : LocalRow) → RowBefore a b → RowBefore b c → RowBefore a c
row_trans a b c h g = before_trans (cell.Local a) (cell.Local b) (cell.Local c) h g

by_local : (a b : Text × (Text × ℕ)) → cell_cmp (at.Local a.0 a.1.0 a.1.1) (at.Local b.0 b.1.0 b.1.1) ≡ local_cmp a b
by_local a b = ap (λ r. ordering_then (byte_cmp a.0 b.0) (ordering_then (byte_cmp a.1.0 b.1.0) r)) (by_number a.1.1 b.1.1)

-- the map of a later row isn't below
later_map : (a b : LocalRow) → RowBefore a b → (byte_cmp a.map b.map ≡ Less) ⊎ (byte_cmp a.map b.map ≡ Equal)
later_map a b h = first (byte_cmp a.map b.map) (ordering_then (byte_cmp (low_of a.span) (low_of b.span)) (nat_cmp a.number b.number)) refl (sym (by_local (local_key a) (local_key b)) ∙ h)
  where
    first : (r s : Ordering) → byte_cmp a.map b.map ≡ r → ordering_then r s ≡ Less → (byte_cmp a.map b.map ≡ Less) ⊎ (byte_cmp a.map b.map ≡ Equal)
    first Less s e h = inl e
    first Equal s e h = inr e
    first Greater s e h = absurd (cc)

-- ---- past the rows that are altered

-- a row of a later map isn't of the hull
beyond : (op : Op) (q : LocalRow) → byte_cmp op.map q.map ≡ Less → reaches op q ≡ false
beyond op q h = by (same q.map op.map) refl
  where
    by : (b : Bool) → same q.map op.map ≡ b → reaches op q ≡ false
    by false e = ap (λ b. b && overlaps q.span op.hull) e
    by true e =
        let is : q.map ≡ op.map = same_is q.map op.map e in
        let no : byte_cmp op.map op.map ≡ Less = subst (λ m. byte_cmp op.map m ≡ Less) is h in
        absurd (true≢false (sym (same_self op.map) ∙ ap is_eq no))

past_map : (op : Op) (row q : LocalRow) → below op.map row.map ≡ true → (row ≡ q) ⊎ RowBefore row q → byte_cmp op.map q.map ≡ Less
past_map op row q past (inl is) = subst (λ (r : LocalRow). byte_cmp op.map r.map ≡ Less) is (is_less (byte_cmp op.map row.map) past)
past_map op row q past (inr h) = elim (later_map row q h) [
  | inl less ↦ nat_list_cmp_total.trans op.map row.map q.map (is_less (byte_cmp op.map row.map) past) less
  | inr tie ↦ (let is : row.map ≡ q.map = same_is row.map q.map (ap is_eq tie) in subst (λ m. byte_cmp op.map m ≡ Less) is (is_less (byte_cmp op.map row.map) past))
]

-- the low key of a later row of the same map isn't below
later_low : (row q : LocalRow) → row.map ≡ q.map → (row ≡ q) ⊎ RowBefore row q → at_most (low_of row.span) (low_of q.span) ≡ true
later_low row q e (inl is) = subst (λ (r : LocalRow). at_most (low_of row.span) (low_of r.span) ≡ true) is (at_most_self (low_of row.span))
later_low row q e (inr h) = first (byte_cmp (low_of row.span) (low_of q.span)) (nat_cmp row.number q.number) (sym (local_order row.map q.map (low_of row.span) (low_of q.span) row.number q.number e) ∙ h)
  where
    first : (r s : Ordering) → ordering_then r s ≡ Less → not (is_gt r) ≡ true
    first Less s h = refl
    first Equal s h = refl
    first Greater s h = cc

-- no key from there on is in the hull
none_past : (hull : Span) (low key : Text) → begins_past hull low ≡ true → at_most low key ≡ true → contains hull key ≡ true → ⊥
none_past (Range from high) low key past up holds =
    let inside = at_most_before low key high up (and_parts (at_most from key) (before key high) holds).1 in
    true≢false (sym inside ∙ not_true (before low high) past)
none_past (Point at) low key past up holds =
    let is : at ≡ key = same_is at key holds in
    let itself : below low low ≡ true = at_most_below low at low (subst (λ k. at_most low k ≡ true) (sym is) up) past in
    true≢false (sym (ap is_eq (sym (is_less (byte_cmp low low) itself)) ∙ same_self low))

past_reach : (op : Op) (row q : LocalRow) → is_past_hull op row ≡ true → (row ≡ q) ⊎ RowBefore row q → reaches op q ≡ false
past_reach op row q past h = by (below op.map row.map) refl past
  where
    off : same row.map op.map ≡ true → begins_past op.hull (low_of row.span) ≡ true → (b : Bool) → reaches op q ≡ b → reaches op q ≡ false
    off m p false e = e
    off m p true e =
        let parts = and_parts (same q.map op.map) (overlaps q.span op.hull) e in
        let shared = shared_of_overlap q.span op.hull parts.1 in
        let up = at_most_trans (low_of row.span) (low_of q.span) shared.0 (later_low row q (same_is row.map op.map m ∙ sym (same_is q.map op.map parts.0)) h) (low_at_most q.span shared.0 shared.1) in
        absurd (none_past op.hull (low_of row.span) shared.0 p up shared.2)

    by : (b : Bool) → below op.map row.map ≡ b → (b || (same row.map op.map && begins_past op.hull (low_of row.span))) ≡ true → reaches op q ≡ false
    by true e past = beyond op q (past_map op row q e h)
    by false e past = let parts = and_parts (same row.map op.map) (begins_past op.hull (low_of row.span)) past in off parts.0 parts.1 (reaches op q) refl

past_on : (work : Work) (op : Op) (row q : LocalRow) → is_past work op row ≡ true → (row ≡ q) ⊎ RowBefore row q → alters work op q ≡ false
past_on ToMark op row q past h = ap (λ b. b && not (is_old_of op.number q.mark)) (past_reach op row q past h)
past_on ToUndo op row q past h = ap (λ b. b && is_marked q.mark) (past_reach op row q past h)
past_on ToSettle op row q past h = absurd (true≢false (sym past))

-- ---- the altered rows in cells

module _ (work : Work) (op : Op) where
  row_of : (c : Cell) (q : LocalRow) → altered_of work op c ≡ Some q → (c ≡ cell.Local q) × (alters work op q ≡ true)
  row_of (cell.Local row) q e = by (alters work op row) refl e
    where
      by : (b : Bool) → alters work op row ≡ b → cond b (Some row) None ≡ Some q → (cell.Local row ≡ cell.Local q) × (alters work op q ≡ true)
      by true t h = let is : row ≡ q = cc in (ap cell.Local is, ap (alters work op) (sym is) ∙ t)
      by false t h = cc
  row_of c q e = cc

  pub in_altered : (cells : List Cell) (q : LocalRow) → IsOneOf (altered_in work op cells) q → IsOneOf cells (cell.Local q) × (alters work op q ≡ true)
  in_altered [] q h = absurd h
  in_altered (c ∷ cells) q h = elim (in_either (option_to_list (altered_of work op c)) (altered_in work op cells) q h) [
    | inl m ↦ (let r = of (altered_of work op c) refl m in (inl r.0, r.1))
    | inr m ↦ (let r = in_altered cells q m in (inr r.0, r.1))
  ]
    where
      of : (o : Option LocalRow) → altered_of work op c ≡ o → IsOneOf (option_to_list o) q → (c ≡ cell.Local q) × (alters work op q ≡ true)
      of None e m = absurd m
      of (Some r) e (inl is) = row_of c q (e ∙ ap Some is)
      of (Some r) e (inr m) = absurd m

  into_altered : (cells : List Cell) (q : LocalRow) → IsOneOf cells (cell.Local q) → alters work op q ≡ true → IsOneOf (altered_in work op cells) q
  into_altered [] q h t = absurd h
  into_altered (c ∷ cells) q (inl is) t =
      let one : altered_of work op c ≡ Some q = ap (altered_of work op) is ∙ ap (λ b. cond b (Some q) None) t in
      in_left (option_to_list (altered_of work op c)) (altered_in work op cells) q (subst (λ o. IsOneOf (option_to_list o) q) (sym one) (inl refl))
  into_altered (c ∷ cells) q (inr h) t = in_right (option_to_list (altered_of work op c)) (altered_in work op cells) q (into_altered cells q h t)

  rising_altered : (cells : List Cell) → Rising Before cells → Rising RowBefore (altered_in work op cells)
  rising_altered [] r = tt
  rising_altered (c ∷ cells) r = of (altered_of work op c) refl (rising_altered cells r.1)
    where
      of : (o : Option LocalRow) → altered_of work op c ≡ o → Rising RowBefore (altered_in work op cells) → Rising RowBefore (option_to_list o ++ altered_in work op cells)
      of None e more = more
      of (Some row) e more =
          (λ q m. let from = row_of c row e in subst (λ x. Before x (cell.Local q)) from.0 (r.0 (cell.Local q) (in_altered cells q m).0), more)

-- what is taken of a full piece
pub takes : (work : Work) (op : Op) (found : List Cell) (olds news : List LocalRow) (last : Cell) → piece_size ≤ length found → last ≡ get_or found (length found - 1) last → news ≡ olds ++ altered_in work op (take (length found - 1) found)
    → (r : Result (Option CellKey) StepFault) → IfOk r (λ next. (row : LocalRow) × (last ≡ cell.Local row) × LeadsOn work op row next) → IfOk r (λ next. TakesRows work op found olds news next)
takes work op found olds news last full is taken (Err e) h = tt
takes work op found olds news last full is taken (Ok next) h = by next h.2
  where
    leaves : LeavesLast work op found olds news
    leaves = record {
      front = take (length found - 1) found;
      last = h.0;
      full = full;
      split =
          let low : length found - 1 < length found = omega (arith, full) in
          let all : length found - 1 + 1 ≡ length found = omega (arith, full) in
          sym (all_taken found (length found) (omega arith)) ∙ ap (λ n. take n found) (sym all) ∙ take_more found (length found - 1) last low ∙ ap (λ c. take (length found - 1) found ++ c ∷ []) (sym is ∙ h.1);
      taken = taken;
    }

    by : (next : Option CellKey) → LeadsOn work op h.0 next → TakesRows work op found olds news next
    by None g = inr (leaves, g)
    by (Some k) g = (leaves, g)

pub none_pass : (f : LocalRow → Bool) (rows : List LocalRow) → ((q : LocalRow) → IsOneOf rows q → f q ≡ false) → [] ≡ filter f rows
none_pass f [] h = refl
none_pass f (row ∷ rows) h = none_pass f rows (λ q m. h q (inr m)) ∙ ap (λ b. cond b (row ∷ filter f rows) (filter f rows)) (sym (h row (inl refl)))

-- ---- the rows of a store

module _ (s : Store) (store : IsStore s) where
  local_stands : (q : LocalRow) → HasLocal s.locals q → Stands s (cell.Local q)
  local_stands q h = ap (option_map cell.Local) h

  local_has : (q : LocalRow) → Stands s (cell.Local q) → HasLocal s.locals q
  local_has q h = back (fin.get s.locals (local_key q)) h
    where
      back : (o : Option LocalRow) → option_map cell.Local o ≡ Some (cell.Local q) → o ≡ Some q
      back None e = cc
      back (Some r) e = let is : r ≡ q = cc in ap Some is

  local_typed : (q : LocalRow) → HasLocal s.locals q → IsLocalRow q
  local_typed q h = (store.cells (cell.Local q) (local_stands q h)).typed

  pub value_has : (q : LocalRow) → IsOneOf (fin.values s.locals) q → HasLocal s.locals q
  value_has q h = group_cells.value_stands locals_total local_key s.locals store.keyed.locals q h

  pub has_value : (q : LocalRow) → HasLocal s.locals q → IsOneOf (fin.values s.locals) q
  has_value q h = group_cells.value_there locals_total local_key s.locals store.keyed.locals exact_locals (local_key q) q h

  own_key_of : (k : Text × (Text × ℕ)) (q : LocalRow) → fin.get s.locals k ≡ Some q → local_key q ≡ k
  own_key_of k q h = group_cells.own locals_total local_key s.locals store.keyed.locals k q h

  pub values_rise : Rising RowBefore (fin.values s.locals)
  values_rise = rising_map_in (λ (e : (Text × (Text × ℕ)) × LocalRow). e.1) (λ a b. local_cmp a.0 b.0 ≡ Less) RowBefore (fin.entries s.locals)
      (λ a b p q h. by_local (local_key a.1) (local_key b.1)
      ∙ (λ i. local_cmp (own_key_of a.0 a.1 (entry_stands local_cmp locals_total s.locals a p) i) (own_key_of b.0 b.1 (entry_stands local_cmp locals_total s.locals b q) i)) ∙ h)
      (entries_rise local_cmp locals_total s.locals)

  module _ (work : Work) (op : Op) (from : CellKey) (listed : List LocalRow) (up : IsUpTo work op s.locals from listed) (found : List Cell) (scan : IsScan s from piece_size found) where
    abbrev early : LocalRow → Bool
    early row = alters work op row && is_before from row

    -- what is listed, and what is found after it
    module _ (goal : LocalRow → Bool) (part : List Cell) (part_rises : Rising Before part) (part_found : (c : Cell) → IsOneOf part c → IsOneOf found c)
        (goal_alters : (q : LocalRow) → goal q ≡ true → alters work op q ≡ true)
        (early_goal : (q : LocalRow) → alters work op q ≡ true → is_before from q ≡ true → goal q ≡ true)
        (part_goal : (q : LocalRow) → IsOneOf part (cell.Local q) → alters work op q ≡ true → goal q ≡ true)
        (rest : (q : LocalRow) → HasLocal s.locals q → goal q ≡ true → is_before from q ≡ false → IsOneOf part (cell.Local q)) where
      joins : filter early (fin.values s.locals) ++ altered_in work op part ≡ filter goal (fin.values s.locals)
      joins = same_rising RowBefore row_not_itself row_trans (filter early (fin.values s.locals) ++ altered_in work op part) (filter goal (fin.values s.locals))
          (rising_append RowBefore (filter early (fin.values s.locals)) (altered_in work op part)
          (rising_filter RowBefore early (fin.values s.locals) values_rise) (rising_altered work op part part_rises)
          (λ x y h m.
          let e = in_filter early (fin.values s.locals) x h in
          let b = and_parts (alters work op x) (is_before from x) e.1 in
          less_le (own_key (cell.Local x)) from (own_key (cell.Local y)) (is_less (cell_cmp (own_key (cell.Local x)) from) b.1) (scan.stand (cell.Local y) (part_found (cell.Local y) (in_altered work op part y m).0)).1.order))
          (rising_filter RowBefore goal (fin.values s.locals) values_rise)
          (λ q h. elim (in_either (filter early (fin.values s.locals)) (altered_in work op part) q h) [
            | inl m ↦ (let e = in_filter early (fin.values s.locals) q m in let b = and_parts (alters work op q) (is_before from q) e.1 in from_filter goal (fin.values s.locals) q e.0 (early_goal q b.0 b.1))
            | inr m ↦ (let a = in_altered work op part q m in from_filter goal (fin.values s.locals) q (has_value q (local_has q (scan.stand (cell.Local q) (part_found (cell.Local q) a.0)).0)) (part_goal q a.0 a.1))
          ])
          (λ q h. let f = in_filter goal (fin.values s.locals) q h in by q f.0 f.1 (is_before from q) refl)
        where
          by : (q : LocalRow) → IsOneOf (fin.values s.locals) q → goal q ≡ true → (b : Bool) → is_before from q ≡ b → IsOneOf (filter early (fin.values s.locals) ++ altered_in work op part) q
          by q among is true e = in_left (filter early (fin.values s.locals)) (altered_in work op part) q (from_filter early (fin.values s.locals) q among (and_from (alters work op q) (is_before from q) (goal_alters q is) e))
          by q among is false e = in_right (filter early (fin.values s.locals)) (altered_in work op part) q (into_altered work op part q (rest q (value_has q among) is e) (goal_alters q is))

    from_on : (q : LocalRow) → is_before from q ≡ false → IsFromOn from (cell.Local q)
    from_on q e = record { kind = sym up.kind; order = e }

    listed_joins : (news : List LocalRow) (part : List Cell) → news ≡ listed ++ altered_in work op part → news ≡ filter early (fin.values s.locals) ++ altered_in work op part
    listed_joins news part e = e ∙ ap (λ rows. rows ++ altered_in work op part) up.rows

    -- the piece isn't full
    ends_short : (news : List LocalRow) → length found < piece_size → news ≡ listed ++ altered_in work op found → news ≡ altered work op s.locals
    ends_short news few e = listed_joins news found e ∙ joins (alters work op) found (as_rising found scan.rises) (λ c h. h) (λ q h. h) (λ q h b. h) (λ q m h. h)
        (λ q has is e. elim (scan.all (cell.Local q) (local_stands q has) (from_on q e)) [
          | inl among ↦ among
          | inr more ↦ (let full = more.0 in absurd (omega (arith, few, full)))
        ])

    module _ (news : List LocalRow) (leaves : LeavesLast work op found listed news) where
      rises : Rising Before (leaves.front ++ cell.Local leaves.last ∷ [])
      rises = subst (Rising Before) leaves.split (as_rising found scan.rises)

      front_found : (c : Cell) → IsOneOf leaves.front c → IsOneOf found c
      front_found c h = subst (λ cs. IsOneOf cs c) (sym leaves.split) (in_left leaves.front (cell.Local leaves.last ∷ []) c h)

      last_found : IsOneOf found (cell.Local leaves.last)
      last_found = subst (λ cs. IsOneOf cs (cell.Local leaves.last)) (sym leaves.split) (in_right leaves.front (cell.Local leaves.last ∷ []) (cell.Local leaves.last) (inl refl))

      -- a row from the key on is in front, or it is the last one, or after it
      places : (q : LocalRow) → HasLocal s.locals q → is_before from q ≡ false → IsOneOf leaves.front (cell.Local q) ⊎ ((leaves.last ≡ q) ⊎ RowBefore leaves.last q)
      places q has e = elim (scan.all (cell.Local q) (local_stands q has) (from_on q e)) [
        | inl among ↦ elim (in_either leaves.front (cell.Local leaves.last ∷ []) (cell.Local q) (subst (λ cs. IsOneOf cs (cell.Local q)) leaves.split among)) [
          | inl m ↦ inl m
          | inr m ↦ elim m [ inl is ↦ (let one : leaves.last ≡ q = cc in inr (inl one)) | inr none ↦ absurd none ]
        ]
        | inr more ↦ inr (inr (more.1 (cell.Local leaves.last) last_found))
      ]

      -- its last row is past those that are altered
      ends_past : is_past work op leaves.last ≡ true → news ≡ altered work op s.locals
      ends_past past = listed_joins news leaves.front leaves.taken
          ∙ joins (alters work op) leaves.front (rising_front Before leaves.front (cell.Local leaves.last ∷ []) rises) front_found (λ q h. h) (λ q h b. h) (λ q m h. h)
          (λ q has is e. elim (places q has e) [
            | inl m ↦ m
            | inr later ↦ absurd (true≢false (sym is ∙ past_on work op leaves.last q past later))
          ])

      abbrev last_key : CellKey
      last_key = own_key (cell.Local leaves.last)

      -- the next piece begins with it
      goes_on : IsUpTo work op s.locals last_key news
      goes_on = record {
        kind = refl;
        rows = listed_joins news leaves.front leaves.taken
            ∙ joins (λ row. alters work op row && is_before last_key row) leaves.front (rising_front Before leaves.front (cell.Local leaves.last ∷ []) rises) front_found
            (λ q h. (and_parts (alters work op q) (is_before last_key q) h).0)
            (λ q h b. and_from (alters work op q) (is_before last_key q) h
            (ap is_lt (less_le (own_key (cell.Local q)) from last_key (is_less (cell_cmp (own_key (cell.Local q)) from) b) (scan.stand (cell.Local leaves.last) last_found).1.order)))
            (λ q m h. and_from (alters work op q) (is_before last_key q) h (ap is_lt (rising_across Before leaves.front (cell.Local leaves.last ∷ []) rises (cell.Local q) (cell.Local leaves.last) m (inl refl))))
            (λ q has is e.
            let less : RowBefore q leaves.last = is_less (cell_cmp (own_key (cell.Local q)) last_key) (and_parts (alters work op q) (is_before last_key q) is).1 in
            elim (places q has e) [
              | inl m ↦ m
              | inr later ↦ elim later [
                | inl one ↦ absurd (row_not_itself leaves.last (subst (λ (r : LocalRow). RowBefore r leaves.last) (sym one) less))
                | inr after ↦ absurd (row_not_itself q (row_trans q leaves.last q less after))
              ]
            ]);
      }

    -- A piece leads the list on, or to its end.
    pub piece_lists : (news : List LocalRow) (next : Option CellKey) → TakesRows work op found listed news next → Lists work op s.locals news next
    piece_lists news None (inl t) = ends_short news t.0 t.1
    piece_lists news None (inr t) = ends_past news t.0 t.1
    piece_lists news (Some next) t = subst (λ k. IsUpTo work op s.locals k news) (sym t.1) (goes_on news t.0)

  -- ---- the beginning

  -- no row of this map, or of a later one, is before its first key
  from_first : (name : Text) (q : LocalRow) → (byte_cmp q.map name ≡ Less → ⊥) → is_before (at.Local name [] 0) q ≡ false
  from_first name q h = not_less (byte_cmp q.map name) (ordering_then (byte_cmp (low_of q.span) []) (ordering_then (ordering_then (nat_cmp q.number 0) Equal) Equal)) h
      (not_less (byte_cmp (low_of q.span) []) (ordering_then (ordering_then (nat_cmp q.number 0) Equal) Equal) (never_less (byte_cmp (low_of q.span) []) (empty_least (low_of q.span)))
      (ap is_lt (by_number q.number 0) ∙ is_not_lt (nat_cmp q.number 0) (number_least q.number 0 (omega arith))))

  hull_map : (op : Op) (q : LocalRow) → reaches op q ≡ true → byte_cmp q.map op.map ≡ Less → ⊥
  hull_map op q h less =
      let same_map = (and_parts (same q.map op.map) (overlaps q.span op.hull) h).0 in
      true≢false (sym same_map ∙ ap is_eq less)

  alters_from : (work : Work) (op : Op) (q : LocalRow) → HasLocal s.locals q → alters work op q ≡ true → byte_cmp q.map (first_map work op) ≡ Less → ⊥
  alters_from ToMark op q has h = hull_map op q (and_parts (reaches op q) (not (is_old_of op.number q.mark)) h).0
  alters_from ToUndo op q has h = hull_map op q (and_parts (reaches op q) (is_marked q.mark) h).0
  alters_from ToSettle op q has h = name_least q.map (local_typed q has).map

  pub begins : (work : Work) (op : Op) → IsUpTo work op s.locals (at.Local (first_map work op) [] 0) []
  begins work op = record {
    kind = refl;
    rows = none_pass (λ row. alters work op row && is_before (at.Local (first_map work op) [] 0) row) (fin.values s.locals) (λ q m. by q (value_has q m) (alters work op q) refl);
  }
    where
      by : (q : LocalRow) → HasLocal s.locals q → (b : Bool) → alters work op q ≡ b → (alters work op q && is_before (at.Local (first_map work op) [] 0) q) ≡ false
      by q has true e = ap (λ b. b && is_before (at.Local (first_map work op) [] 0) q) e ∙ from_first (first_map work op) q (alters_from work op q has e)
      by q has false e = ap (λ b. b && is_before (at.Local (first_map work op) [] 0) q) e

-- ---- over what is told

-- the list has come so far
abbrev pub Up : Outside → Site → Work → Op → CellKey → List LocalRow → Image → Type 0
Up o site work op from rows image = IsUpTo work op (store_at o site image).locals from rows

module _ (o : Outside) (site : Site) (cells : TellsCells o.told) (is_site : IsSite o site) (work : Work) (op : Op) where
  pub piece_answers : (from : CellKey) (seen found : List Cell) (olds news : List LocalRow) (r : Result (Option CellKey) StepFault) → seen ≡ found → IfOk r (λ next. TakesRows work op seen olds news next)
      → IfContents o.told (λ image. IsScan (store_at o site image) from piece_size found)
      → IfOk r (λ next. IfContents o.told (λ image. IsUpTo work op (store_at o site image).locals from olds → Lists work op (store_at o site image).locals news next))
  piece_answers from seen found olds news (Err e) saw takes scan = tt
  piece_answers from seen found olds news (Ok next) saw takes scan = told_both o.told cells (λ image. IsScan (store_at o site image) from piece_size found) (λ image. Unit {0})
      (λ image. IsUpTo work op (store_at o site image).locals from olds → Lists work op (store_at o site image).locals news next)
      (λ image all is u up. piece_lists (store_at o site image) (stored (place_at o.locations site.0) image all is_site) work op from olds up found is news next (subst (λ cs. TakesRows work op cs olds news next) saw takes))
      scan (nothing_more o.told)

  pub begins_told : (from : CellKey) (rows : List LocalRow) → from ≡ at.Local (first_map work op) [] 0 → rows ≡ [] → IfContents o.told (Up o site work op from rows)
  begins_told from rows is none = told_both o.told cells (λ image. Unit {0}) (λ image. Unit {0}) (Up o site work op from rows)
      (λ image all u v. subst (λ k. IsUpTo work op (store_at o site image).locals k rows) (sym is) (subst (λ xs. IsUpTo work op (store_at o site image).locals (at.Local (first_map work op) [] 0) xs) (sym none)
      (begins (store_at o site image) (stored (place_at o.locations site.0) image all is_site) work op)))
      (nothing_more o.told) (nothing_more o.told)

  -- a piece that was listed later
  pub lists_on : (later : Outside) → later.told ≡ o.told → later.locations ≡ o.locations → (from : CellKey) (olds news : List LocalRow) (next : Option CellKey) → IfContents o.told (Up o site work op from olds)
      → IfContents later.told (λ image. IsUpTo work op (store_at later site image).locals from olds → Lists work op (store_at later site image).locals news next)
      → IfContents o.told (λ image. Lists work op (store_at o site image).locals news next)
  lists_on later told locations from olds news next up step = told_both o.told cells (Up o site work op from olds) (λ image. IsUpTo work op (store_at o site image).locals from olds → Lists work op (store_at o site image).locals news next)
      (λ image. Lists work op (store_at o site image).locals news next) (λ image all a f. f a) up
      (moved o later site told locations (λ image s. IsUpTo work op s.locals from olds → Lists work op s.locals news next) step)
