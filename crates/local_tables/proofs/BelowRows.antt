-- The key just below that of a local row, in the same map.
use Rattle.std.proofs.Common.{◌≡◌, inl, inr, ℕ, ◌-◌, ◌≤◌, ◌<◌, true, false, not, [], refl, sym, ap, ◌∙◌, subst, arith, true≢false}
use Rattle.std.specs.Ordering.{is_lt, is_gt, nat_cmp, ordering_then, ordering_reverse}
use Rattle.std.specs.declared.cmp.Ordering.{Ordering}
use Rattle.std.specs.declared.cmp.Ordering.TheVariants.{Less, Equal, Greater}
use Rattle.std.proofs.lemmas.Cmp.{tied_itself, nat_list_cmp_total, nat_cmp_total}
use Rattle.cell_world.specs.Texts.{Text}
use Rattle.cell_world.specs.ByteOrder.{byte_cmp}
use Rattle.cell_world.specs.Keys.{at_most, low_of}
use Rattle.cell_world.specs.Spelled.{IsLocalRow, IsSpan}
use Rattle.cell_world.specs.Stores.{own_key}
use Rattle.cell_world.specs.Orders.{cell_cmp}
use Rattle.cell_world.specs.declared.cells.Cell.TheVariants as cell
use Rattle.cell_world.specs.declared.cells.CellKey.TheVariants as at
use Rattle.cell_world.specs.declared.cells.LocalRow.{LocalRow}
use Rattle.cell_world.specs.declared.spans.Span.{Span}
use Rattle.cell_world.specs.declared.spans.Span.TheVariants.{Range, Point}
use Rattle.cell_world.specs.Texts.{is_key_form}
use Rattle.global_tables.proofs.CellOrder.{by_number}
use Rattle.local_tables.specs.Below.{IsJustBelow}
use Rattle.local_tables.specs.Resolving.{is_up_to, IsBefore, IsBelowRow, IsLowest}
use Rattle.local_tables.proofs.KeysBelow.{less_cases, number_of, not_greater, not_greater_number, no_less_than_nothing, is_less}

text_tie : (a : Text) → byte_cmp a a ≡ Equal
text_tie a = tied_itself nat_list_cmp_total a

-- rows of one map are ordered by low key, and then by number
pub local_order : (a b low key : Text) (m n : ℕ) → a ≡ b → cell_cmp (at.Local a low m) (at.Local b key n) ≡ ordering_then (byte_cmp low key) (nat_cmp m n)
local_order a b low key m n e =
    ap (λ r. ordering_then r (ordering_then (byte_cmp low key) (ordering_then (ordering_then (nat_cmp m n) Equal) Equal))) (subst (λ x. byte_cmp a x ≡ Equal) e (text_tie a))
    ∙ ap (ordering_then (byte_cmp low key)) (by_number m n)

pub low_form : (row : LocalRow) → IsLocalRow row → is_key_form (low_of row.span) ≡ true
low_form row typed = by row.span typed.span
  where
    by : (s : Span) → IsSpan s → is_key_form (low_of s) ≡ true
    by (Range low high) h = h.0
    by (Point at) h = h

pub not_gt_is : (r : Ordering) → is_gt r ≡ false → not (is_gt r) ≡ true
not_gt_is r e = ap not e

up_less : (r : Ordering) → r ≡ Less → not (is_gt r) ≡ true
up_less r e = ap (λ r. not (is_gt r)) e

flipped_less : (a b : Text) → byte_cmp a b ≡ Less → byte_cmp b a ≡ Greater
flipped_less a b h = nat_list_cmp_total.antisymm b a ∙ ap ordering_reverse h

pub number_up : (m n : ℕ) → m ≤ n → is_gt (nat_cmp m n) ≡ false
number_up m n le = by (nat_cmp m n) refl
  where
    by : (r : Ordering) → nat_cmp m n ≡ r → is_gt (nat_cmp m n) ≡ false
    by Less e = ap is_gt e
    by Equal e = ap is_gt e
    by Greater e = absurd (not_greater_number m n le e)

pub not_gt_no : (r : Ordering) → not (is_gt r) ≡ true → r ≡ Greater → ⊥
not_gt_no Less h e = cc
not_gt_no Equal h e = cc
not_gt_no Greater h e = true≢false (sym h)

module _ (row : LocalRow) where
  order_of : (q : LocalRow) → q.map ≡ row.map → IsBefore q row → ordering_then (byte_cmp (low_of q.span) (low_of row.span)) (nat_cmp q.number row.number) ≡ Less
  order_of q e h = sym (local_order q.map row.map (low_of q.span) (low_of row.span) q.number row.number e) ∙ h

  up_to_at : (low : Text) (number : ℕ) (q : LocalRow) → q.map ≡ row.map → is_gt (ordering_then (byte_cmp (low_of q.span) low) (nat_cmp q.number number)) ≡ false → is_up_to (at.Local row.map low number) q ≡ true
  up_to_at low number q e h = not_gt_is (cell_cmp (own_key (cell.Local q)) (at.Local row.map low number)) (ap is_gt (local_order q.map row.map (low_of q.span) low q.number number e) ∙ h)

  -- the same low key, and one number less
  pub number_below : (low : Text) → low ≡ low_of row.span → 1 ≤ row.number → IsBelowRow row (at.Local row.map low (row.number - 1))
  number_below low is one = record {
    low = low;
    number = row.number - 1;
    is = refl;
    lower = subst (λ l. at_most l (low_of row.span) ≡ true) (sym is) (up_self (low_of row.span));
    less = ap (λ r. not (is_gt r)) (local_order row.map row.map (low_of row.span) low row.number (row.number - 1) refl ∙ (λ i. ordering_then (tie i) (bigger i)));
    all = λ q typed e h. up_to_at low (row.number - 1) q e (elim (less_cases (byte_cmp (low_of q.span) (low_of row.span)) (nat_cmp q.number row.number) (order_of q e h)) [
      | inl f ↦ ap (λ r. is_gt (ordering_then r (nat_cmp q.number (row.number - 1)))) (subst (λ l. byte_cmp (low_of q.span) l ≡ Less) (sym is) f)
      | inr f ↦
          let lt : q.number < row.number = number_of q.number row.number Less f.1 in
          let le : q.number ≤ row.number - 1 = omega (arith, lt) in
          not_greater (byte_cmp (low_of q.span) low) (nat_cmp q.number (row.number - 1)) (λ g. let no : Equal ≡ Greater = sym f.0 ∙ subst (λ l. byte_cmp (low_of q.span) l ≡ Greater) is g in absurd (cc)) (λ g. number_up q.number (row.number - 1) le)
    ]);
  }
    where
      up_self : (a : Text) → at_most a a ≡ true
      up_self a = ap (λ r. not (is_gt r)) (text_tie a)

      tie : byte_cmp (low_of row.span) low ≡ Equal
      tie = subst (λ l. byte_cmp (low_of row.span) l ≡ Equal) (sym is) (text_tie (low_of row.span))

      bigger : nat_cmp row.number (row.number - 1) ≡ Greater
      bigger = nat_cmp_total.antisymm row.number (row.number - 1) ∙ ap ordering_reverse (smaller (nat_cmp (row.number - 1) row.number) refl)
        where
          smaller : (r : Ordering) → nat_cmp (row.number - 1) row.number ≡ r → nat_cmp (row.number - 1) row.number ≡ Less
          smaller Less e = e
          smaller Equal e = let f : row.number - 1 ≡ row.number = number_of (row.number - 1) row.number Equal e in absurd (omega (arith, f, one))
          smaller Greater e = let f : row.number < row.number - 1 = number_of (row.number - 1) row.number Greater e in absurd (omega (arith, f, one))

  -- the next lower key, and the greatest number
  pub key_below_row : (low lower : Text) → low ≡ low_of row.span → row.number ≡ 0 → IsJustBelow lower low → IsBelowRow row (at.Local row.map lower 18446744073709551615)
  key_below_row low lower is none just = record {
    low = lower;
    number = 18446744073709551615;
    is = refl;
    lower = subst (λ l. at_most lower l ≡ true) is (up_less (byte_cmp lower low) (is_less (byte_cmp lower low) just.less));
    less = ap (λ r. not (is_gt r)) (local_order row.map row.map (low_of row.span) lower row.number 18446744073709551615 refl ∙ ap (λ r. ordering_then r (nat_cmp row.number 18446744073709551615)) above);
    all = λ q typed e h. up_to_at lower 18446744073709551615 q e (elim (less_cases (byte_cmp (low_of q.span) (low_of row.span)) (nat_cmp q.number row.number) (order_of q e h)) [
      | inl f ↦ not_greater (byte_cmp (low_of q.span) lower) (nat_cmp q.number 18446744073709551615)
          (not_gt_no (byte_cmp (low_of q.span) lower) (just.greatest (low_of q.span) (low_form q typed) (ap is_lt (subst (λ l. byte_cmp (low_of q.span) l ≡ Less) (sym is) f))))
          (λ g. number_up q.number 18446744073709551615 (let lt : q.number < 18446744073709551616 = typed.number in omega (arith, lt)))
      | inr f ↦ (let lt : q.number < row.number = number_of q.number row.number Less f.1 in absurd (omega (arith, lt, none)))
    ]);
  }
    where
      above : byte_cmp (low_of row.span) lower ≡ Greater
      above = subst (λ l. byte_cmp l lower ≡ Greater) is (flipped_less lower low (is_less (byte_cmp lower low) just.less))

  -- nothing is below the empty key and the number 0
  pub lowest_row : (low : Text) → low ≡ low_of row.span → low ≡ [] → row.number ≡ 0 → IsLowest row
  lowest_row low is empty none q typed e h = elim (less_cases (byte_cmp (low_of q.span) (low_of row.span)) (nat_cmp q.number row.number) (order_of q e h)) [
    | inl f ↦ no_less_than_nothing (low_of q.span) (subst (λ l. byte_cmp (low_of q.span) l ≡ Less) (sym is ∙ empty) f)
    | inr f ↦ (let lt : q.number < row.number = number_of q.number row.number Less f.1 in absurd (omega (arith, lt, none)))
  ]
