-- What a search of the table finds.
use Rattle.std.proofs.Common.{◌≡◌, ℕ, Bool, true, false, List, [], ◌∷◌, ◌++◌, refl, sym, ap, ◌∙◌, subst, Some, None, Option, IsSome, IfSome}
use Rattle.std.specs.List.{slice_get}
use Rattle.std.specs.Ordering.{is_gt}
use Rattle.std.specs.declared.ops.Bound.{Bound}
use Rattle.std.specs.declared.ops.Bound.TheVariants.{Included, Unbounded}
use Rattle.std.specs.BTreeMap.{BTreeMap, get}
use Rattle.std.specs.BTreeMap.Range.{IsRangeOf, IsInRange, IsFromStart}
use Rattle.cell_world.specs.Finding.{IsFloor, IsAtOrBelow}
use Rattle.cell_world.specs.Orders.{cell_cmp, kind_number, map_of}
use Rattle.cell_world.specs.Stores.{Store, IsKeyed, own_key, cell_at, Stands}
use Rattle.cell_world.specs.declared.cells.Cell.{Cell}
use Rattle.cell_world.specs.declared.cells.CellKey.{CellKey}
use Rattle.cell_world.proofs.KeyedLaws.{stands_under}
use Rattle.world_memory.specs.declared.contents.SiteKey.{SiteKey}
use Rattle.world_memory.specs.contracts.contents.SiteKeyOrd.TheImpl.{ghosts}
use Rattle.world_memory.specs.contracts.contents.SiteKeyOrd.TheImpl.Laws.{total-law}
use Rattle.world_memory.specs.Kept.{Holds}
use Rattle.world_memory.specs.First.{IsOn, IsFrom, IsFirst, begin_at}
use Rattle.world_memory.proofs.SiteOrder.{flip, cell_total, one_site, site_between, kind_between, map_between}

-- where the key stands at a site
abbrev here : ℕ → CellKey → SiteKey
here site key = record { site = site; key = key }

on_begin : (past : Bool) (from : SiteKey) (k : CellKey) → IsOn past from.key k → IsFromStart ghosts.cmp (begin_at past from) (here from.site k)
on_begin true from k h = one_site from (here from.site k) refl ∙ h
on_begin false from k h = ap is_gt (one_site from (here from.site k) refl) ∙ flip cell_total from.key k ∙ h

begin_on : (past : Bool) (from at : SiteKey) → from.site ≡ at.site → IsFromStart ghosts.cmp (begin_at past from) at → IsOn past from.key at.key
begin_on true from at is h = sym (one_site from at is) ∙ h
begin_on false from at is h = sym (flip cell_total from.key at.key) ∙ sym (ap is_gt (one_site from at is)) ∙ h

-- where a search begins is not above what it finds
begin_below : (past : Bool) (from at : SiteKey) → IsFromStart ghosts.cmp (begin_at past from) at → is_gt (ghosts.cmp from at) ≡ false
begin_below true from at h = ap is_gt h
begin_below false from at h = h

is_there : {A : Type 0} (x : Option A) (v : A) → x ≡ Some v → IsSome x
is_there None v e = cc
is_there (Some w) v e = refl

module _ (m : BTreeMap SiteKey Cell) (stores : ℕ → Store) (site : ℕ) (holds : Holds m stores) (keyed : IsKeyed (stores site)) where
  -- what the table has at a site stands in its store
  stands_here : (at : SiteKey) (c : Cell) → at.site ≡ site → get ghosts.cmp m at ≡ Some c → (own_key c ≡ at.key) × Stands (stores site) c
  stands_here at c is found =
      let there : cell_at (stores site) at.key ≡ Some c = ap (λ n. cell_at (stores n) at.key) (sym is) ∙ sym (holds at) ∙ found in
      let own : own_key c ≡ at.key = stands_under (stores site) at.key c keyed there in
      (own, ap (cell_at (stores site)) own ∙ there)

  -- and the other way round
  has_here : (c : Cell) → Stands (stores site) c → get ghosts.cmp m (here site (own_key c)) ≡ Some c
  has_here c stands = holds (here site (own_key c)) ∙ stands

-- ---- the first from a key on

module _ (m : BTreeMap SiteKey Cell) (stores : ℕ → Store) (from : SiteKey) (past : Bool) (lo : Bound SiteKey) (begins : lo ≡ begin_at past from) (r : List (SiteKey × Cell))
    (range : IsRangeOf ghosts.cmp lo Unbounded m r) (holds : Holds m stores) (keyed : IsKeyed (stores from.site)) where
  within : (c : Cell) → IsFrom from.key past c → IsInRange ghosts.cmp lo Unbounded (here from.site (own_key c))
  within c is = (subst (λ b. IsFromStart ghosts.cmp b (here from.site (own_key c))) (sym begins) (on_begin past from (own_key c) is.order), tt)

  pub none_first : r ≡ [] → IsFirst (stores from.site) from.key past None
  none_first empty c stands is =
      let gone : get ghosts.cmp m (here from.site (own_key c)) ≡ None = range.5 empty (here from.site (own_key c)) (within c is) in
      let found : get ghosts.cmp m (here from.site (own_key c)) ≡ Some c = has_here m stores from.site holds keyed c stands in
      cc

  module _ (at : SiteKey) (f : Cell) (rest : List (SiteKey × Cell)) (is : r ≡ (at, f) ∷ rest) where
    head : slice_get r 0 ≡ Some (at, f)
    head = ap (λ xs. slice_get xs 0) is

    entry : IsInRange ghosts.cmp lo Unbounded at × (get ghosts.cmp m at ≡ Some f)
    entry = subst (λ x. IfSome x (λ e. IsInRange ghosts.cmp lo Unbounded e.0 × (get ghosts.cmp m e.0 ≡ Some e.1))) head range.1

    least : (c : Cell) → Stands (stores from.site) c → IsFrom from.key past c → is_gt (ghosts.cmp at (here from.site (own_key c))) ≡ false
    least c stands g = subst (λ x. IfSome x (λ e. is_gt (ghosts.cmp e.0 (here from.site (own_key c))) ≡ false)) head (range.2 (here from.site (own_key c)) (within c g) (is_there _ c (has_here m stores from.site holds keyed c stands)))

    start : IsFromStart ghosts.cmp (begin_at past from) at
    start = subst (λ b. IsFromStart ghosts.cmp b at) begins entry.0.0

    pub other_first : ((at.site ≡ from.site) × (kind_number at.key ≡ kind_number from.key) → ⊥) → IsFirst (stores from.site) from.key past None
    other_first other c stands g =
        let below = begin_below past from at start in
        let above = least c stands g in
        let site : at.site ≡ from.site = site_between from at (here from.site (own_key c)) below above refl in
        let kind : kind_number at.key ≡ kind_number (own_key c) = kind_between from.key at.key (own_key c) (sym (ap is_gt (one_site from at (sym site))) ∙ below) (sym (ap is_gt (one_site at (here from.site (own_key c)) site)) ∙ above) (sym g.kind) in
        other (site, kind ∙ g.kind)

    pub is_first : (at.site ≡ from.site) × (kind_number at.key ≡ kind_number from.key) → IsFirst (stores from.site) from.key past (Some f)
    is_first same =
        let own = stands_here m stores from.site holds keyed at f same.0 entry.1 in (
          own.1,
          record { kind = ap kind_number own.0 ∙ same.1; order = subst (IsOn past from.key) (sym own.0) (begin_on past from at (sym same.0) start) },
          λ c stands g. sym (flip cell_total (own_key f) (own_key c)) ∙ ap (λ k. is_gt (cell_cmp k (own_key c))) own.0 ∙ sym (ap is_gt (one_site at (here from.site (own_key c)) same.0)) ∙ least c stands g,
        )

-- ---- the last up to a key

module _ (m : BTreeMap SiteKey Cell) (stores : ℕ → Store) (from : SiteKey) (r : List (SiteKey × Cell))
    (range : IsRangeOf ghosts.cmp Unbounded (Included from) m r) (holds : Holds m stores) (keyed : IsKeyed (stores from.site)) where
  up_to : (c : Cell) → IsAtOrBelow from.key c → IsInRange ghosts.cmp Unbounded (Included from) (here from.site (own_key c))
  up_to c is = (tt, ap is_gt (one_site (here from.site (own_key c)) from refl) ∙ is.order)

  pub none_last : r ≡ [] → IsFloor (stores from.site) from.key None
  none_last empty c stands is =
      let gone : get ghosts.cmp m (here from.site (own_key c)) ≡ None = range.5 empty (here from.site (own_key c)) (up_to c is) in
      let found : get ghosts.cmp m (here from.site (own_key c)) ≡ Some c = has_here m stores from.site holds keyed c stands in
      cc

  module _ (at : SiteKey) (f : Cell) (front : List (SiteKey × Cell)) (is : r ≡ front ++ (at, f) ∷ []) where
    last_entry : IsInRange ghosts.cmp Unbounded (Included from) at × (get ghosts.cmp m at ≡ Some f)
    last_entry = range.3 (at, f) front is

    greatest : (c : Cell) → Stands (stores from.site) c → IsAtOrBelow from.key c → is_gt (ghosts.cmp (here from.site (own_key c)) at) ≡ false
    greatest c stands g = flip total-law (here from.site (own_key c)) at ∙ range.4 (at, f) front is (here from.site (own_key c)) (up_to c g) (is_there _ c (has_here m stores from.site holds keyed c stands))

    pub other_last : ((at.site ≡ from.site) × (kind_number at.key ≡ kind_number from.key) × (map_of at.key ≡ map_of from.key) → ⊥) → IsFloor (stores from.site) from.key None
    other_last other c stands g =
        let below = greatest c stands g in
        let above = last_entry.0.1 in
        let site : at.site ≡ from.site = site_between (here from.site (own_key c)) at from below above refl in
        let a = sym (ap is_gt (one_site (here from.site (own_key c)) at (sym site))) ∙ below in
        let b = sym (ap is_gt (one_site at from site)) ∙ above in
        other (site, kind_between (own_key c) at.key from.key a b g.kind, map_between (own_key c) at.key from.key a b g.kind g.map)

    pub is_last : (at.site ≡ from.site) × (kind_number at.key ≡ kind_number from.key) × (map_of at.key ≡ map_of from.key) → IsFloor (stores from.site) from.key (Some f)
    is_last same =
        let own = stands_here m stores from.site holds keyed at f same.0 last_entry.1 in (
          own.1,
          record { kind = ap kind_number own.0 ∙ same.1; map = ap map_of own.0 ∙ same.2; order = ap (λ k. is_gt (cell_cmp k from.key)) own.0 ∙ sym (ap is_gt (one_site at from same.0)) ∙ last_entry.0.1 },
          λ c stands g. ap (λ k. is_gt (cell_cmp (own_key c) k)) own.0 ∙ sym (ap is_gt (one_site (here from.site (own_key c)) at (sym same.0))) ∙ greatest c stands g,
        )

-- what a test that fails refuses
pub refused : {A : Type 0} (b : Bool) → (A → b ≡ true) → b ≡ false → A → ⊥
refused b holds is a = let t : b ≡ true = holds a in cc
