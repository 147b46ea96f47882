-- A scan, cell by cell.
use Rattle.std.proofs.Common.{◌≡◌, ℕ, ◌≤◌, ◌<◌, Bool, true, false, List, [], ◌∷◌, ◌++◌, length, refl, sym, ap, ◌∙◌, subst, Some, None, arith, ◌⊎◌, inl, inr, ⊎_elim, length-append}
use Rattle.std.specs.declared.cmp.Ordering.{Ordering}
use Rattle.std.specs.declared.cmp.Ordering.TheVariants.{Less, Equal, Greater}
use Rattle.std.specs.Ordering.{is_lt, is_gt}
use Rattle.std.specs.Cmp.{IsTotalOrder}
use Rattle.std.proofs.lemmas.Cmp.{upto, tied_itself}
use Rattle.cell_world.specs.Lists.{IsOneOf}
use Rattle.cell_world.specs.Finding.{Rises, IsScan, IsFromOn}
use Rattle.cell_world.specs.Orders.{cell_cmp, kind_number}
use Rattle.cell_world.specs.Stores.{Store, own_key, cell_at, Stands}
use Rattle.cell_world.specs.declared.cells.Cell.{Cell}
use Rattle.cell_world.specs.declared.cells.CellKey.{CellKey}
use Rattle.world_memory.specs.First.{IsOn, IsFrom, IsFirst}
use Rattle.world_memory.proofs.SiteOrder.{flip, cell_total, cell_exact}

-- ---- lists

one_of_front : {A : Type 0} (xs ys : List A) (a : A) → IsOneOf xs a → IsOneOf (xs ++ ys) a
one_of_front [] ys a h = absurd h
one_of_front (x ∷ xs) ys a h = ⊎_elim (λ e. inl e) (λ t. inr (one_of_front xs ys a t)) h

one_of_last : {A : Type 0} (xs : List A) (x a : A) → x ≡ a → IsOneOf (xs ++ x ∷ []) a
one_of_last [] x a e = inl e
one_of_last (y ∷ xs) x a e = inr (one_of_last xs x a e)

one_of_parts : {A : Type 0} (xs : List A) (x a : A) → IsOneOf (xs ++ x ∷ []) a → IsOneOf xs a ⊎ (x ≡ a)
one_of_parts [] x a h = ⊎_elim (λ e. inr e) (λ t. absurd t) h
one_of_parts (y ∷ xs) x a h = ⊎_elim (λ e. inl (inl e)) (λ t. ⊎_elim (λ u. inl (inr u)) (λ e. inr e) (one_of_parts xs x a t)) h

rises_added : (cs : List Cell) (f : Cell) → Rises cs → ((d : Cell) → IsOneOf cs d → cell_cmp (own_key d) (own_key f) ≡ Less) → Rises (cs ++ f ∷ [])
rises_added [] f rises before = tt
rises_added (c ∷ []) f rises before = (before c (inl refl), tt)
rises_added (c ∷ d ∷ cs) f rises before = (rises.0, rises_added (d ∷ cs) f rises.1 (λ e is. before e (inr is)))

-- ---- orders

below_then : {K : Type 0} {R : K → K → Ordering} → IsTotalOrder R → (x y z : K) → is_gt (R x y) ≡ false → R y z ≡ Less → R x z ≡ Less
below_then {R = R} o x y z p q = elim (R x y) as (λ r. R x y ≡ r → is_gt r ≡ false → R x z ≡ Less) [
  | Less ↦ λ e g. o.trans x y z e q
  | Equal ↦ λ e g. o.congr x y z e ∙ q
  | Greater ↦ λ e g. cc
] refl p

pub on_not_above : (past : Bool) (key k : CellKey) → IsOn past key k → is_gt (cell_cmp key k) ≡ false
on_not_above true key k h = ap is_gt h
on_not_above false key k h = flip cell_total key k ∙ h

past_is_below : (past : Bool) (key k : CellKey) → past ≡ true → IsOn past key k → cell_cmp key k ≡ Less
past_is_below true key k e h = h
past_is_below false key k e h = cc

-- ---- the scan so far

pub record IsScanning (s : Store) (key : CellKey) (limit : ℕ) (at : CellKey) (past : Bool) (found : List Cell) : Type 0 where
  -- what is found is right so far
  pub rises : Rises found
  pub stand : (c : Cell) → IsOneOf found c → Stands s c × IsFromOn key c
  pub few : length found ≤ limit
  -- the search goes on from a key of the same kind that is not below the first
  pub kind : kind_number at ≡ kind_number key
  pub above : is_gt (cell_cmp key at) ≡ false
  -- each cell that is looked for is found, or is still to come
  pub done : (c : Cell) → Stands s c → IsFromOn key c → IsOneOf found c ⊎ IsFrom at past c
  -- what is found is not above that key, which is then passed
  pub ends : (c : Cell) → IsOneOf found c → (past ≡ true) × (is_gt (cell_cmp (own_key c) at) ≡ false)

pub scan_begins : (s : Store) (key : CellKey) (limit : ℕ) → IsScanning s key limit key false []
scan_begins s key limit = record {
  rises = tt;
  stand = λ c is. absurd is;
  few = omega arith;
  kind = refl;
  above = ap is_gt (tied_itself cell_total key);
  done = λ c stands from. inr (record { kind = from.kind; order = from.order });
  ends = λ c is. absurd is;
}

module _ (s : Store) (key : CellKey) (limit : ℕ) (at : CellKey) (past : Bool) (found : List Cell) (so_far : IsScanning s key limit at past found) where
  -- what is found comes before what is still to come
  before : (c d : Cell) → IsOneOf found c → IsFrom at past d → cell_cmp (own_key c) (own_key d) ≡ Less
  before c d is from = let e = so_far.ends c is in below_then cell_total (own_key c) at (own_key d) e.1 (past_is_below past at (own_key d) e.0 from.order)

  pub scan_more : (f : Cell) → length found < limit → IsFirst s at past (Some f) → IsScanning s key limit (own_key f) true (found ++ f ∷ [])
  scan_more f room first = record {
    rises = rises_added found f so_far.rises (λ d is. before d f is first.1);
    stand = λ c is. ⊎_elim (λ h. so_far.stand c h) (λ e. subst (λ x. Stands s x × IsFromOn key x) e (first.0, from_on)) (one_of_parts found f c is);
    few = omega (arith, length-append found (f ∷ []), room);
    kind = first.1.kind ∙ so_far.kind;
    above = over;
    done = λ c stands from. ⊎_elim (λ h. inl (one_of_front found (f ∷ []) c h)) (λ h. rest c stands h (first.2 c stands h)) (so_far.done c stands from);
    ends = λ c is. (refl, ⊎_elim (λ h. ap is_gt (before c f h first.1)) (λ e. subst (λ (x : Cell). is_gt (cell_cmp (own_key x) (own_key f)) ≡ false) e (ap is_gt (tied_itself cell_total (own_key f)))) (one_of_parts found f c is));
  }
    where
      over : is_gt (cell_cmp key (own_key f)) ≡ false
      over = upto cell_total key at (own_key f) so_far.above (on_not_above past at (own_key f) first.1.order)

      from_on : IsFromOn key f
      from_on = record { kind = first.1.kind ∙ so_far.kind; order = sym (flip cell_total key (own_key f)) ∙ over }

      -- a cell that is still to come is this one, or comes after it
      rest : (c : Cell) → Stands s c → IsFrom at past c → is_lt (cell_cmp (own_key c) (own_key f)) ≡ false → IsOneOf (found ++ f ∷ []) c ⊎ IsFrom (own_key f) true c
      rest c stands from least = by (cell_cmp (own_key f) (own_key c)) refl
        where
          by : (r : Ordering) → cell_cmp (own_key f) (own_key c) ≡ r → IsOneOf (found ++ f ∷ []) c ⊎ IsFrom (own_key f) true c
          by Less e = inr (record { kind = from.kind ∙ sym first.1.kind; order = e })
          by Equal e =
              let key_is : own_key f ≡ own_key c = cell_exact (own_key f) (own_key c) e in
              let both : Some f ≡ Some c = sym first.0 ∙ ap (cell_at s) key_is ∙ stands in
              let is : f ≡ c = cc in
              inl (one_of_last found f c is)
          by Greater e = let above : is_gt (cell_cmp (own_key f) (own_key c)) ≡ false = flip cell_total (own_key f) (own_key c) ∙ least in cc

  pub scan_ends : IsFirst s at past None → IsScan s key limit found
  scan_ends none = record {
    rises = so_far.rises;
    stand = so_far.stand;
    at_most = so_far.few;
    all = λ c stands from. ⊎_elim (λ h. inl h) (λ h. absurd (none c stands h)) (so_far.done c stands from);
  }

  pub scan_full : limit ≤ length found → IsScan s key limit found
  scan_full full = record {
    rises = so_far.rises;
    stand = so_far.stand;
    at_most = so_far.few;
    all = λ c stands from. ⊎_elim (λ h. inl h) (λ h. inr ((let few = so_far.few in omega (arith, few, full)), λ d is. before d c is h)) (so_far.done c stands from);
  }
