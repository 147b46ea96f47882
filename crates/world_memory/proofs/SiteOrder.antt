-- The order of the table: by site, and then in cell order.
use Rattle.std.proofs.Common.{◌≡◌, ℕ, ◌≤◌, ◌<◌, ◌==◌, ◌||◌, if◌then◌else◌, Bool, true, false, List, [], ◌∷◌, refl, sym, ap, ◌∙◌, subst, Some, None, Option, arith}
use Rattle.std.specs.declared.cmp.Ordering.{Ordering}
use Rattle.std.specs.declared.cmp.Ordering.TheVariants.{Less, Equal, Greater}
use Rattle.std.specs.Ordering.{is_lt, is_gt, is_eq, ordering_then, ordering_reverse, nat_cmp, MatchOrdering}
use Rattle.std.specs.Cmp.{IsTotalOrder}
use Rattle.std.specs.Cmp.Lexicographic.{slice_cmp}
use Rattle.std.proofs.lemmas.Cmp.{tied_itself, nat_cmp_total, ranked, nat_list_cmp_total}
use Rattle.cell_world.specs.Texts.{Text}
use Rattle.cell_world.specs.ByteOrder.{byte_cmp}
use Rattle.cell_world.specs.KeyOrder.{same_order}
use Rattle.cell_world.specs.Orders.{cell_cmp, kind_number, fields_of, map_of}
use Rattle.cell_world.specs.declared.cells.CellKey.{CellKey}
use Rattle.cell_world.specs.declared.cells.CellKey.TheVariants as at
use Rattle.cell_world.specs.contracts.cells.CellKeyOrd.TheImpl.Laws.{total-law}
use Rattle.cell_world.proofs.OrderLaws.{exact_texts}
use Rattle.world_memory.specs.declared.contents.SiteKey.{SiteKey}
use Rattle.world_memory.specs.contracts.contents.SiteKeyOrd.TheImpl.{ghosts}
use Rattle.world_memory.proofs.Table.{tied_is}

-- ---- orders

reversed : (r : Ordering) → is_gt (ordering_reverse r) ≡ is_lt r
reversed Less = refl
reversed Equal = refl
reversed Greater = refl

-- x is above y as y is below x
pub flip : {K : Type 0} {R : K → K → Ordering} → IsTotalOrder R → (x y : K) → is_gt (R x y) ≡ is_lt (R y x)
flip {R = R} o x y = ap is_gt (o.antisymm x y) ∙ reversed (R y x)

-- neither is above the other
between : {K : Type 0} {R : K → K → Ordering} → IsTotalOrder R → (x y : K) → is_gt (R x y) ≡ false → is_gt (R y x) ≡ false → R x y ≡ Equal
between {R = R} o x y p q = elim (R x y) as (λ r. is_gt r ≡ false → is_lt r ≡ false → r ≡ Equal) [
  | Less ↦ λ a b. cc
  | Equal ↦ λ a b. refl
  | Greater ↦ λ a b. cc
] p (sym (flip o y x) ∙ q)

then_first : (o p : Ordering) → is_gt (ordering_then o p) ≡ false → is_gt o ≡ false
then_first Less p h = refl
then_first Equal p h = refl
then_first Greater p h = h

-- what follows from the first of two comparisons, of numbers
number_first : (x y : ℕ) (o : Ordering) → is_gt (ordering_then (nat_cmp x y) o) ≡ false → x ≤ y
number_first x y o h = by (nat_cmp x y) (ranked x y (nat_cmp x y) refl) h
  where
    by : (r : Ordering) → MatchOrdering r (x < y) (x ≡ y) (y < x) → is_gt (ordering_then r o) ≡ false → x ≤ y
    by Less m g = omega (arith, m)
    by Equal m g = omega (arith, m)
    by Greater m g = cc

pub same_number : (x y : ℕ) (o : Ordering) → x ≡ y → ordering_then (nat_cmp x y) o ≡ o
same_number x y o is = ap (λ r. ordering_then r o) (ap (nat_cmp x) (sym is) ∙ tied_itself nat_cmp_total x)

-- ---- cell order

pub cell_total : IsTotalOrder cell_cmp
cell_total = subst IsTotalOrder (λ i a b. same_order a b i) total-law

-- a key between two of one kind is of that kind
pub kind_between : (j k l : CellKey) → is_gt (cell_cmp j k) ≡ false → is_gt (cell_cmp k l) ≡ false → kind_number j ≡ kind_number l → kind_number k ≡ kind_number l
kind_between j k l below above same =
    let a = number_first (kind_number j) (kind_number k) _ below in
    let b = number_first (kind_number k) (kind_number l) _ above in
    omega (arith, a, b, same)

first_field : List Text → Option Text
first_field [] = None
first_field (t ∷ ts) = Some t

-- which kinds have a map beside other fields
abbrev kind_has_map : ℕ → Bool
kind_has_map n = (n == 2) || ((n == 3) || ((n == 4) || ((n == 9) || (n == 10))))

-- the map is the first field, where the kind has one
map_is_first : (k : CellKey) → map_of k ≡ (if kind_has_map (kind_number k) then first_field (fields_of k) else None)
unfolding first_field
map_is_first (at.Map name) = refl
map_is_first (at.Shard name location) = refl
map_is_first (at.Table name table) = refl
map_is_first (at.Piece name low) = refl
map_is_first (at.Log number) = refl
map_is_first (at.Job number) = refl
map_is_first at.Counter = refl
map_is_first (at.SiteState location) = refl
map_is_first (at.Local name low number) = refl
map_is_first (at.Row row) = refl

-- fields between two lists of fields with one first field begin with it too
first_between : (fs gs hs : List Text) → is_gt (slice_cmp byte_cmp fs gs) ≡ false → is_gt (slice_cmp byte_cmp gs hs) ≡ false → first_field fs ≡ first_field hs → first_field gs ≡ first_field hs
unfolding first_field
first_between [] [] [] below above same = refl
first_between [] (g ∷ gs) [] below above same = cc
first_between [] gs (h ∷ hs) below above same = cc
first_between (f ∷ fs) gs [] below above same = cc
first_between (f ∷ fs) [] (h ∷ hs) below above same = cc
first_between (f ∷ fs) (g ∷ gs) (h ∷ hs) below above same =
    let is : f ≡ h = cc in
    let a : is_gt (byte_cmp f g) ≡ false = then_first (byte_cmp f g) (slice_cmp byte_cmp fs gs) below in
    let b : is_gt (byte_cmp g h) ≡ false = then_first (byte_cmp g h) (slice_cmp byte_cmp gs hs) above in
    ap Some (exact_texts g h (between nat_list_cmp_total g h b (subst (λ x. is_gt (byte_cmp x g) ≡ false) is a)))

-- of two keys of one kind the fields decide
fields_decide : (j k : CellKey) → kind_number j ≡ kind_number k → cell_cmp j k ≡ slice_cmp byte_cmp (fields_of j) (fields_of k)
fields_decide j k is = same_number (kind_number j) (kind_number k) _ is

-- a key between two of one kind and one map has that map
pub map_between : (j k l : CellKey) → is_gt (cell_cmp j k) ≡ false → is_gt (cell_cmp k l) ≡ false → kind_number j ≡ kind_number l → map_of j ≡ map_of l → map_of k ≡ map_of l
map_between j k l below above kinds maps =
    map_is_first k ∙ ap (λ n. if kind_has_map n then first_field (fields_of k) else None) middle ∙ by (kind_has_map (kind_number l)) (sym (ap (λ n. if kind_has_map n then first_field (fields_of j) else None) kinds) ∙ sym (map_is_first j) ∙ maps ∙ map_is_first l) ∙ sym (map_is_first l)
  where
    middle : kind_number k ≡ kind_number l
    middle = kind_between j k l below above kinds

    a : is_gt (slice_cmp byte_cmp (fields_of j) (fields_of k)) ≡ false
    a = sym (ap is_gt (fields_decide j k (kinds ∙ sym middle))) ∙ below

    b : is_gt (slice_cmp byte_cmp (fields_of k) (fields_of l)) ≡ false
    b = sym (ap is_gt (fields_decide k l middle)) ∙ above

    by : (t : Bool) → (if t then first_field (fields_of j) else None) ≡ (if t then first_field (fields_of l) else None) → (if t then first_field (fields_of k) else None) ≡ (if t then first_field (fields_of l) else None)
    by true same = first_between (fields_of j) (fields_of k) (fields_of l) a b same
    by false same = refl

-- ---- the table's order

-- two keys by their sites, and then as cells
pub by_site : (a b : SiteKey) → ghosts.cmp a b ≡ ordering_then (nat_cmp a.site b.site) (cell_cmp a.key b.key)
by_site a b = ap (ordering_then (nat_cmp a.site b.site)) (same_order a.key b.key)

pub one_site : (a b : SiteKey) → a.site ≡ b.site → ghosts.cmp a b ≡ cell_cmp a.key b.key
one_site a b is = by_site a b ∙ same_number a.site b.site (cell_cmp a.key b.key) is

-- a key between two of one site is of that site
pub site_between : (a b c : SiteKey) → is_gt (ghosts.cmp a b) ≡ false → is_gt (ghosts.cmp b c) ≡ false → a.site ≡ c.site → b.site ≡ c.site
site_between a b c below above same =
    let x = number_first a.site b.site _ (sym (ap is_gt (by_site a b)) ∙ below) in
    let y = number_first b.site c.site _ (sym (ap is_gt (by_site b c)) ∙ above) in
    omega (arith, x, y, same)

-- only one key ties with a key
pub cell_exact : (j k : CellKey) → cell_cmp j k ≡ Equal → j ≡ k
cell_exact j k h = ap (λ (x : SiteKey). x.key) (tied_is (record { site = 0; key = j }) (record { site = 0; key = k }) (ap is_eq (one_site (record { site = 0; key = j }) (record { site = 0; key = k }) refl ∙ h)))
