-- A piece of a scan leads the list of a group on, or to its end.
use Rattle.std.proofs.Common.{◌≡◌, inl, inr, ℕ, ◌+◌, ◌-◌, ◌≤◌, ◌<◌, Bool, true, false, cond, List, [], ◌∷◌, ◌++◌, length, take, get_or, Option, Some, None, refl, sym, ap, ◌∙◌, subst, arith, true≢false}
use Rattle.std.specs.Prelude.{IfOk, Result, Ok, Err}
use Rattle.std.specs.Ordering.{is_lt, is_gt, ordering_reverse}
use Rattle.std.specs.declared.cmp.Ordering.{Ordering}
use Rattle.std.specs.declared.cmp.Ordering.TheVariants.{Less, Equal, Greater}
use Rattle.std.proofs.lemmas.Cmp.{upto, tied_itself}
use Rattle.std.proofs.lemmas.List.{take_more}
use Rattle.cell_world.specs.Images.{Global, global, image_at, end_of_trail}
use Rattle.cell_world.specs.Lists.{IsOneOf}
use Rattle.cell_world.specs.Stores.{Store, IsStore, own_key}
use Rattle.cell_world.specs.Finding.{IsScan, IsFromOn}
use Rattle.cell_world.specs.Orders.{cell_cmp}
use Rattle.cell_world.specs.Outside.{Told, TellsNothing, TellsContents, TellsTrail, IfContents, TellsCells}
use Rattle.cell_world.specs.declared.cells.Cell.{Cell}
use Rattle.cell_world.specs.declared.cells.CellKey.{CellKey}
use Rattle.global_tables.specs.declared.groups.Group.{Group}
use Rattle.global_tables.specs.declared.faults.StepFault.{StepFault}
use Rattle.global_tables.specs.Groups.{least_of, is_in, inside, cells_of}
use Rattle.global_tables.specs.Listing.{piece_size, cells_before, IsUpTo, Lists, LeavesLast, TakesPiece}
use Rattle.global_tables.proofs.Rising.{Rising, same_rising, rising_filter, rising_append, rising_front, rising_across, in_filter, from_filter, in_left, in_right, in_either}
use Rattle.global_tables.proofs.CellOrder.{Before, cell_total, not_itself, before_trans, as_rising}
use Rattle.global_tables.proofs.GroupCells.{rise, stand, there}
use Rattle.global_tables.proofs.Neighbours.{IsNear, kind_in, kind_least, from_least, in_before, in_inside, into_inside, rising_inside, whole_inside, front_inside}

-- ---- below and not below a key

is_less : (r : Ordering) → is_lt r ≡ true → r ≡ Less
is_less Less h = refl
is_less Equal h = cc
is_less Greater h = cc

flipped : (r : Ordering) → is_lt (ordering_reverse r) ≡ is_gt r
flipped Less = refl
flipped Equal = refl
flipped Greater = refl

lt_gt : (a b : CellKey) → is_lt (cell_cmp a b) ≡ is_gt (cell_cmp b a)
lt_gt a b = ap is_lt (cell_total.antisymm a b) ∙ flipped (cell_cmp b a)

not_lt_trans : (a b c : CellKey) → is_lt (cell_cmp a b) ≡ false → is_lt (cell_cmp b c) ≡ false → is_lt (cell_cmp a c) ≡ false
not_lt_trans a b c h g = lt_gt a c ∙ upto cell_total c b a (sym (lt_gt b c) ∙ g) (sym (lt_gt a b) ∙ h)

-- what is below a key is below what isn't
less_le : (a b c : CellKey) → cell_cmp a b ≡ Less → is_lt (cell_cmp c b) ≡ false → cell_cmp a c ≡ Less
less_le a b c h g = by (cell_cmp c b) refl g
  where
    by : (r : Ordering) → cell_cmp c b ≡ r → is_lt r ≡ false → cell_cmp a c ≡ Less
    by Less e g = absurd (true≢false g)
    by Equal e g = cell_total.antisymm a c ∙ ap ordering_reverse (cell_total.congr c b a e ∙ cell_total.antisymm b a ∙ ap ordering_reverse h)
    by Greater e g = cell_total.trans a b c h (cell_total.antisymm b c ∙ ap ordering_reverse e)

module _ (s : Store) (store : IsStore s) (g : Group) (from : CellKey) (listed found : List Cell) (up : IsUpTo s g from listed) (scan : IsScan s from piece_size found) where
  all : List Cell
  all = cells_of s g

  near : (c : Cell) → IsOneOf found c → IsNear g c
  near c h = let f = (scan.stand c h).1 in (f.kind ∙ up.kind, not_lt_trans (own_key c) from (least_of g) f.order up.least)

  rest_rises : Rising Before (inside g found)
  rest_rises = rising_inside g found (as_rising found scan.rises)

  -- what is listed comes before all that is found
  across : (x y : Cell) → IsOneOf (cells_before from (cells_of s g)) x → IsOneOf found y → Before x y
  across x y h m = let f = in_filter (λ c. is_lt (cell_cmp (own_key c) from)) (cells_of s g) x h in less_le (own_key x) from (own_key y) (is_less (cell_cmp (own_key x) from) f.1) (scan.stand y m).1.order

  from_on : (c : Cell) → is_in g (own_key c) ≡ true → is_lt (cell_cmp (own_key c) from) ≡ false → IsFromOn from c
  from_on c e n = record { kind = kind_in g (own_key c) e ∙ sym up.kind; order = n }

  listed_rises : Rising Before (cells_before from (cells_of s g))
  listed_rises = rising_filter Before (λ c. is_lt (cell_cmp (own_key c) from)) (cells_of s g) (rise s store.keyed g)

  found_cell : (c : Cell) → IsOneOf (inside g found) c → IsOneOf (cells_of s g) c
  found_cell c h = let i = in_inside g found c h in there s store.keyed g c (scan.stand c i.0).0 i.1

  -- where some of a piece isn't of the group, or it isn't full, all is listed
  pub piece_ends : length (inside g found) < piece_size → cells_before from (cells_of s g) ++ inside g found ≡ cells_of s g
  piece_ends few = same_rising Before not_itself before_trans (cells_before from (cells_of s g) ++ inside g found) (cells_of s g)
      (rising_append Before (cells_before from (cells_of s g)) (inside g found) listed_rises rest_rises (λ x y h m. across x y h (in_inside g found y m).0))
      (rise s store.keyed g)
      (λ q h. elim (in_either (cells_before from (cells_of s g)) (inside g found) q h) [
        | inl m ↦ (in_filter (λ c. is_lt (cell_cmp (own_key c) from)) (cells_of s g) q m).0
        | inr m ↦ found_cell q m
      ])
      (λ q h. by q h (is_lt (cell_cmp (own_key q) from)) refl)
    where
      by : (q : Cell) → IsOneOf (cells_of s g) q → (b : Bool) → is_lt (cell_cmp (own_key q) from) ≡ b → IsOneOf (cells_before from (cells_of s g) ++ inside g found) q
      by q h true e = in_left (cells_before from (cells_of s g)) (inside g found) q (from_filter (λ c. is_lt (cell_cmp (own_key c) from)) (cells_of s g) q h e)
      by q h false e =
          let i = stand s store.keyed g q h in
          elim (scan.all q i.0 (from_on q i.1 e)) [
            | inl among ↦ in_right (cells_before from (cells_of s g)) (inside g found) q (into_inside g found (as_rising found scan.rises) near q among i.1)
            | inr rest ↦
                let whole : inside g found ≡ found = whole_inside g found (λ d m. let n = near d m in in_before g (own_key d) (own_key q) n.0 n.1 (rest.1 d m) i.1) in
                let full : length (inside g found) ≡ piece_size = ap length whole ∙ rest.0 in absurd (omega (arith, few, full))
          ]

  module _ (front : List Cell) (last : Cell) (full : piece_size ≤ length (inside g found)) (split : inside g found ≡ front ++ last ∷ []) where
    last_in : IsOneOf (inside g found) last
    last_in = subst (λ cs. IsOneOf cs last) (sym split) (in_right front (last ∷ []) last (inl refl))

    front_in : (c : Cell) → IsOneOf front c → IsOneOf (inside g found) c
    front_in c h = subst (λ cs. IsOneOf cs c) (sym split) (in_left front (last ∷ []) c h)

    split_rises : Rising Before (front ++ last ∷ [])
    split_rises = subst (Rising Before) split rest_rises

    -- else all before the last of the piece
    pub piece_goes_on : IsUpTo s g (own_key last) (cells_before from (cells_of s g) ++ front)
    piece_goes_on = record {
      kind = let i = in_inside g found last last_in in kind_in g (own_key last) i.1;
      least = (near last (in_inside g found last last_in).0).1;
      cells = same_rising Before not_itself before_trans (cells_before from (cells_of s g) ++ front) (cells_before (own_key last) (cells_of s g))
          (rising_append Before (cells_before from (cells_of s g)) front listed_rises (rising_front Before front (last ∷ []) split_rises) (λ x y h m. across x y h (in_inside g found y (front_in y m)).0))
          (rising_filter Before (λ c. is_lt (cell_cmp (own_key c) (own_key last))) (cells_of s g) (rise s store.keyed g))
          (λ q h. elim (in_either (cells_before from (cells_of s g)) front q h) [
            | inl m ↦ from_filter (λ c. is_lt (cell_cmp (own_key c) (own_key last))) (cells_of s g) q (in_filter (λ c. is_lt (cell_cmp (own_key c) from)) (cells_of s g) q m).0 (ap is_lt (across q last m (in_inside g found last last_in).0))
            | inr m ↦ from_filter (λ c. is_lt (cell_cmp (own_key c) (own_key last))) (cells_of s g) q (found_cell q (front_in q m)) (ap is_lt (rising_across Before front (last ∷ []) split_rises q last m (inl refl)))
          ])
          (λ q h. let f = in_filter (λ c. is_lt (cell_cmp (own_key c) (own_key last))) (cells_of s g) q h in by q f.0 (is_less (cell_cmp (own_key q) (own_key last)) f.1) (is_lt (cell_cmp (own_key q) from)) refl);
    }
      where
        by : (q : Cell) → IsOneOf (cells_of s g) q → Before q last → (b : Bool) → is_lt (cell_cmp (own_key q) from) ≡ b → IsOneOf (cells_before from (cells_of s g) ++ front) q
        by q h less true e = in_left (cells_before from (cells_of s g)) front q (from_filter (λ c. is_lt (cell_cmp (own_key c) from)) (cells_of s g) q h e)
        by q h less false e =
            let i = stand s store.keyed g q h in
            elim (scan.all q i.0 (from_on q i.1 e)) [
              | inl among ↦
                  elim (in_either front (last ∷ []) q (subst (λ cs. IsOneOf cs q) split (into_inside g found (as_rising found scan.rises) near q among i.1))) [
                    | inl m ↦ in_right (cells_before from (cells_of s g)) front q m
                    | inr m ↦ elim m [
                      | inl is ↦ absurd (not_itself last (subst (λ c. Before c last) (sym is) less))
                      | inr none ↦ absurd none
                    ]
                  ]
              | inr rest ↦ absurd (not_itself q (before_trans q last q less (rest.1 last (in_inside g found last last_in).0)))
            ]

  -- A piece leads the list on, or to its end.
  pub piece_lists : (news : List Cell) (next : Option CellKey) → TakesPiece g found listed news next → Lists s g news next
  piece_lists news None t = t.1 ∙ ap (λ cs. cs ++ inside g found) up.cells ∙ piece_ends t.0
  piece_lists news (Some next) t =
      subst (λ cs. IsUpTo s g next cs) (sym (t.listed ∙ ap (λ cs. cs ++ t.front) up.cells)) (subst (λ k. IsUpTo s g k (cells_before from (cells_of s g) ++ t.front)) (sym t.from) (piece_goes_on t.front t.last t.whole t.split))

-- ---- what is taken of a piece

pub goes_on : (g : Group) (found olds news : List Cell) (count : ℕ) (last : Cell) (next : CellKey) → count ≡ length (inside g found) → count ≤ length found → piece_size ≤ count
    → last ≡ get_or found (count - 1) last → news ≡ olds ++ take (count - 1) found → next ≡ own_key last → LeavesLast g found olds news next
goes_on g found olds news count last next is within full at listed key =
    let one : count - 1 + 1 ≡ count = omega (arith, full) in
    let low : count - 1 < length found = omega (arith, full, within) in
    record {
      front = take (count - 1) found;
      last = last;
      whole = subst (λ n. piece_size ≤ n) is full;
      split = sym (ap (λ n. take n found) is ∙ front_inside g found) ∙ ap (λ n. take n found) (sym one) ∙ take_more found (count - 1) last low ∙ ap (λ c. take (count - 1) found ++ c ∷ []) (sym at);
      listed = listed;
      from = key;
    }

-- ---- the beginning

nothing_before : (s : Store) (store : IsStore s) (g : Group) (cs : List Cell) → ((c : Cell) → IsOneOf cs c → IsOneOf (cells_of s g) c) → [] ≡ cells_before (least_of g) cs
nothing_before s store g [] h = refl
nothing_before s store g (c ∷ cs) h =
    let i = stand s store.keyed g c (h c (inl refl)) in
    nothing_before s store g cs (λ d m. h d (inr m)) ∙ sym (ap (λ b. cond b (c ∷ cells_before (least_of g) cs) (cells_before (least_of g) cs)) (from_least g c (store.cells c i.0).typed i.1))

pub list_begins : (s : Store) (store : IsStore s) (g : Group) → IsUpTo s g (least_of g) []
list_begins s store g = record { kind = kind_least g; least = ap is_lt (tied_itself cell_total (least_of g)); cells = nothing_before s store g (cells_of s g) (λ c h. h) }

-- ---- over what is told

pub piece_tells : (told : Told) (g : Group) (from : CellKey) (seen found olds news : List Cell) (next : Option CellKey) → TellsCells told → seen ≡ found → TakesPiece g seen olds news next → IfContents told (λ image. IsScan (global image) from piece_size found)
    → IfContents told (λ image. IsUpTo (global image) g from olds → Lists (global image) g news next)
piece_tells TellsNothing g from seen found olds news next cells saw takes scan = tt
piece_tells (TellsContents image) g from seen found olds news next cells saw takes scan = λ up. piece_lists (global image) (cells Global) g from olds found up scan news next (subst (λ cs. TakesPiece g cs olds news next) saw takes)
piece_tells (TellsTrail trail) g from seen found olds news next cells saw takes scan =
    λ up. piece_lists (global (image_at trail (end_of_trail trail))) (cells (end_of_trail trail) Global) g from olds found up scan news next (subst (λ cs. TakesPiece g cs olds news next) saw takes)

pub piece_answers : (told : Told) (g : Group) (from : CellKey) (seen found olds news : List Cell) (r : Result (Option CellKey) StepFault) → TellsCells told → seen ≡ found → IfOk r (λ next. TakesPiece g seen olds news next) → IfContents told (λ image. IsScan (global image) from piece_size found)
    → IfOk r (λ next. IfContents told (λ image. IsUpTo (global image) g from olds → Lists (global image) g news next))
piece_answers told g from seen found olds news (Ok next) cells saw takes scan = piece_tells told g from seen found olds news next cells saw takes scan
piece_answers told g from seen found olds news (Err e) cells saw takes scan = tt

pub begins_told : (told : Told) (g : Group) (from : CellKey) (listed : List Cell) → TellsCells told → from ≡ least_of g → listed ≡ [] → IfContents told (λ image. IsUpTo (global image) g from listed)
begins_told TellsNothing g from listed cells is none = tt
begins_told (TellsContents image) g from listed cells is none = subst (λ k. IsUpTo (global image) g k listed) (sym is) (subst (λ cs. IsUpTo (global image) g (least_of g) cs) (sym none) (list_begins (global image) (cells Global) g))
begins_told (TellsTrail trail) g from listed cells is none =
    let image = image_at trail (end_of_trail trail) in
    subst (λ k. IsUpTo (global image) g k listed) (sym is) (subst (λ cs. IsUpTo (global image) g (least_of g) cs) (sym none) (list_begins (global image) (cells (end_of_trail trail) Global) g))
