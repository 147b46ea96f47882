-- What stands in a table of a few entries is one of them, and who owns a key there.
use Rattle.std.proofs.Common.{◌≡◌, Bool, true, false, true≢false, cond, refl, sym, ap, ◌∙◌, subst, Some, None, Option, List, [], ◌∷◌, map, T, is_some, not, ◌||◌, ◌⊎◌, inl, inr}
use Rattle.std.specs.Prelude.{IsTrue, IsSome, IfSome}
use Rattle.std.specs.List.{AllByRecursion, list_any}
use Rattle.std.specs.Ordering.{eq_by_cmp, ordering_reverse, is_lt, is_gt}
use Rattle.std.specs.declared.cmp.Ordering.{Ordering}
use Rattle.std.specs.declared.cmp.Ordering.TheVariants.{Less, Equal, Greater}
use Rattle.std.specs.Cmp.{IsTotalOrder}
use Rattle.std.specs.FinMap as fin
use Rattle.std.specs.FinMap.{IsAntisymmetric, is_sorted}
use Rattle.std.specs.FinSet as set
use Rattle.std.proofs.lemmas.Bool.{and_parts, and_from}
use Rattle.std.proofs.lemmas.Cmp.{nat_list_cmp_total}
use Rattle.cell_world.specs.Texts.{Text}
use Rattle.cell_world.specs.ByteOrder.{byte_cmp}
use Rattle.cell_world.specs.Orders.{pair_cmp}
use Rattle.cell_world.specs.Keys.{same, below, at_most, contains, overlaps, is_among}
use Rattle.cell_world.specs.KeyForms.{is_normal}
use Rattle.cell_world.specs.Plain.{owner_in}
use Rattle.cell_world.specs.Stores.{Mappings, piece_key}
use Rattle.cell_world.specs.Sound.{HasMap}
use Rattle.cell_world.specs.declared.cells.KeyType.{KeyType}
use Rattle.cell_world.specs.declared.cells.KeyType.TheVariants.{Int}
use Rattle.cell_world.specs.declared.cells.MapKind.{MapKind}
use Rattle.cell_world.specs.declared.cells.MapKind.TheVariants as kind
use Rattle.cell_world.specs.declared.operations.Piece.{Piece}
use Rattle.cell_world.specs.declared.spans.High.{High}
use Rattle.cell_world.specs.declared.spans.High.TheVariants.{At}
use Rattle.cell_world.specs.declared.spans.Span.{Span}
use Rattle.cell_world.specs.declared.spans.Span.TheVariants.{Range}
use Rattle.cell_world.proofs.OrderLaws.{exact_text_pairs, tied_is}
use Rattle.cell_world.proofs.SpanLaws.{same_is, overlaps_shared}
use Rattle.image_laws.proofs.OwnerLaws.{PlacedAlone, AllDisjoint, owner_is, owner_stands}
use Rattle.world_examples.specs.Examples.{map_m, entries_m, maps_m, keyed_pieces, mappings_of}
use Rattle.world_examples.proofs.Tables.{get_of}

-- ---- tables

-- what passes a test that nothing passes
pub not_both : (b : Bool) → b ≡ false → b ≡ true → ⊥
not_both b f t = true≢false (sym t ∙ f)

pub some_in : {X : Type 0} (o : Option X) → is_some o ≡ true → (v : X) × (o ≡ Some v)
some_in None e = cc
some_in (Some v) e = (v, refl)

module _ {K X : Type 0} {R : K → K → Ordering} (exact : IsAntisymmetric R) (P : K → X → Type 0) where
  found : (entries : List (K × X)) → AllByRecursion (λ e. P e.0 e.1) entries → (key : K) (v : X) → fin.find R key entries ≡ Some v → P key v
  found [] all key v f = cc
  found (e ∷ es) all key v f = by (eq_by_cmp R key e.0) refl f (found es all.1 key v)
    where
      by : (b : Bool) → eq_by_cmp R key e.0 ≡ b → cond b (Some e.1) (fin.find R key es) ≡ Some v → (fin.find R key es ≡ Some v → P key v) → P key v
      by true t f later = let is : e.1 ≡ v = cc in subst (λ k. P k v) (sym (tied_is exact key e.0 t)) (subst (P e.0) is all.0)
      by false t f later = later f

  -- What holds of each entry of the list holds of what stands in the table.
  pub standing : (entries : List (K × X)) → T (is_sorted R entries) → AllByRecursion (λ e. P e.0 e.1) entries → (key : K) (v : X) → fin.get (fin.from_sorted {R = R} entries) key ≡ Some v → P key v
  standing entries sorted all key v f = found entries all key v (sym (get_of R entries sorted key) ∙ f)

-- the same of the keys alone
pub keys_standing : {K X : Type 0} {R : K → K → Ordering} → IsAntisymmetric R → (P : K → Type 0) (entries : List (K × X)) → T (is_sorted R entries) → AllByRecursion (λ e. P e.0) entries → (key : K) → IsSome (fin.get (fin.from_sorted {R = R} entries) key) → P key
keys_standing exact P entries sorted all key h = let v = some_in _ h in standing exact (λ k x. P k) entries sorted all key v.0 v.1

-- what holds of each two of a list
abbrev pub AllTwo : {X : Type 0} → (X → X → Type 0) → List X → Type 0
AllTwo P xs = AllByRecursion (λ x. AllByRecursion (P x) xs) xs

module _ {K X : Type 0} {R : K → K → Ordering} (exact : IsAntisymmetric R) (P : X → X → Type 0) where
  -- What holds of each two entries holds of each two that stand.
  pub two_standing : (entries : List (K × X)) → T (is_sorted R entries) → AllTwo (λ d e. P d.1 e.1) entries → (j k : K) (v w : X)
      → fin.get (fin.from_sorted {R = R} entries) j ≡ Some v → fin.get (fin.from_sorted {R = R} entries) k ≡ Some w → P v w
  two_standing entries sorted all j k v w f g =
      standing exact (λ l x. P v x) entries sorted
      (standing exact (λ l x. AllByRecursion (λ e. P x e.1) entries) entries sorted all j v f)
      k w g

-- What holds of each of a list holds of each member of the set.
pub members : {K : Type 0} {R : K → K → Ordering} → IsTotalOrder R → IsAntisymmetric R → (P : K → Type 0) (keys : List K) → AllByRecursion P keys → (key : K) → IsTrue (set.contains (set.from_list {R = R} keys) key) → P key
members {K} {R} total exact P keys all key h = among keys all (sym (set.contains-from_list total keys key) ∙ h)
  where
    among : (keys : List K) → AllByRecursion P keys → list_any (eq_by_cmp R key) keys ≡ true → P key
    among [] all e = cc
    among (k ∷ ks) all e = by (eq_by_cmp R key k) refl e (among ks all.1)
      where
        by : (b : Bool) → eq_by_cmp R key k ≡ b → (b || list_any (eq_by_cmp R key) ks) ≡ true → (list_any (eq_by_cmp R key) ks ≡ true → P key) → P key
        by true t e later = subst P (sym (tied_is exact key k t)) all.0
        by false t e later = later e

-- What holds at each of some locations holds at each that is among them.
pub each_site : (P : Text → Type 0) (sites : List Text) → AllByRecursion P sites → (location : Text) → IsTrue (is_among sites location) → P location
each_site P [] all location e = cc
each_site P (s ∷ ss) all location e = by (same location s) refl e (each_site P ss all.1 location)
  where
    by : (b : Bool) → same location s ≡ b → (b || is_among ss location) ≡ true → (is_among ss location ≡ true → P location) → P location
    by true t e later = subst P (sym (same_is location s t)) all.0
    by false t e later = later e

-- ---- spans

at_most_of : (a b : Text) → below a b ≡ false → at_most b a ≡ true
at_most_of a b = by (byte_cmp a b) (nat_list_cmp_total.antisymm b a)
  where
    by : (r : Ordering) → byte_cmp b a ≡ ordering_reverse r → is_lt r ≡ false → at_most b a ≡ true
    by Less e f = cc
    by Equal e f = ap (λ r. not (is_gt r)) e
    by Greater e f = ap (λ r. not (is_gt r)) e

-- A key of a range is below a key, or from it on.
pub cut : (low middle : Text) (high : High) (key : Text) → IsTrue (contains (Range low high) key) → IsTrue (contains (Range low (At middle)) key) ⊎ IsTrue (contains (Range middle high) key)
cut low middle high key h = by (below key middle) refl
  where
    by : (b : Bool) → below key middle ≡ b → IsTrue (contains (Range low (At middle)) key) ⊎ IsTrue (contains (Range middle high) key)
    by true e = inl (and_from _ _ (and_parts _ _ h).0 e)
    by false e = inr (and_from _ _ (at_most_of key middle e) (and_parts _ _ h).1)

-- ---- owners

pub m_stands : HasMap maps_m map_m kind.Range Int
m_stands = get_of byte_cmp entries_m tt map_m

abbrev type_in : Option (MapKind × KeyType) → KeyType
type_in None = Int
type_in (Some m) = m.1

-- the key type of `m` is that of the numbers
pub is_int : (found : MapKind) (type : KeyType) → HasMap maps_m map_m found type → type ≡ Int
is_int found type h = ap type_in (sym h ∙ m_stands)

-- of two mappings of one map that share a key both are one
abbrev pub OneAtAKey : Piece → Piece → Type 0
OneAtAKey p q = p.map ≡ q.map → IsTrue (overlaps p.span q.span) → p ≡ q

-- each value of a table stands under its own key
keyed : {K X : Type 0} (key_of : X → K) (xs : List X) → AllByRecursion (λ (e : K × X). key_of e.1 ≡ e.0) (map (λ x. (key_of x, x)) xs)
keyed key_of [] = tt
keyed key_of (x ∷ xs) = (refl, keyed key_of xs)

pub each_keyed : {K X : Type 0} {R : K → K → Ordering} → IsAntisymmetric R → (key_of : X → K) (xs : List X) → T (is_sorted R (map (λ x. (key_of x, x)) xs)) → (key : K) → IfSome (fin.get (fin.from_sorted {R = R} (map (λ x. (key_of x, x)) xs)) key) (λ v. key_of v ≡ key)
each_keyed {X = X} exact key_of xs sorted key = by _ (standing exact (λ k v. key_of v ≡ k) (map (λ x. (key_of x, x)) xs) sorted (keyed key_of xs) key)
  where
    by : (o : Option X) → ((v : X) → o ≡ Some v → key_of v ≡ key) → IfSome o (λ v. key_of v ≡ key)
    by None h = tt
    by (Some v) h = h v refl

module _ (pieces : List Piece) (sorted : T (is_sorted pair_cmp (keyed_pieces pieces))) where
  abbrev mappings : Mappings
  mappings = mappings_of pieces

  pub each_alone : PlacedAlone mappings
  each_alone = each_keyed exact_text_pairs piece_key pieces sorted

  -- A key of a span that overlaps no mapping has no owner.
  pub nobody_there : (span : Span) → AllByRecursion (λ e. overlaps e.1.span span ≡ false) (keyed_pieces pieces) → (key : Text) → IsTrue (contains span key) → owner_in maps_m mappings map_m key ≡ None
  nobody_there span apart key h = by (owner_in maps_m mappings map_m key) refl
    where
      by : (o : Option Piece) → owner_in maps_m mappings map_m key ≡ o → o ≡ None
      by None e = refl
      by (Some p) e =
          let there = owner_stands maps_m mappings each_alone map_m key p e in
          absurd (not_both (overlaps p.span span) (standing exact_text_pairs (λ k q. overlaps q.span span ≡ false) (keyed_pieces pieces) sorted apart (piece_key p) p there.0) (overlaps_shared p.span span key there.2 h))

  module _ (disjoint : AllTwo (λ d e. OneAtAKey d.1 e.1) (keyed_pieces pieces)) where
    pub all_disjoint : AllDisjoint mappings
    all_disjoint p q f g = two_standing exact_text_pairs OneAtAKey (keyed_pieces pieces) sorted disjoint (piece_key p) (piece_key q) p q f g

    -- A mapping of `m` that contains the key owns it.
    pub owner_there : (p : Piece) → fin.find pair_cmp (piece_key p) (keyed_pieces pieces) ≡ Some p → p.map ≡ map_m → (key : Text) → IsTrue (is_normal Int key) → IsTrue (contains p.span key) → owner_in maps_m mappings map_m key ≡ Some p
    owner_there p stands of_m key normal h = owner_is maps_m mappings each_alone map_m key all_disjoint (kind.Range, Int, m_stands, normal) p (get_of pair_cmp (keyed_pieces pieces) sorted (piece_key p) ∙ stands) of_m h
