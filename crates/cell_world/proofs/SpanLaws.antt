-- Keys in order, and spans.
use Rattle.std.proofs.Common.{◌≡◌, Bool, true, false, cond, not, ◌&&◌, refl, sym, ap, ◌∙◌, subst, ◌↔◌}
use Rattle.std.specs.Prelude.{IsTrue}
use Rattle.std.specs.Ordering.{is_lt, is_gt, is_eq, ordering_reverse}
use Rattle.std.specs.declared.cmp.Ordering.{Ordering}
use Rattle.std.specs.declared.cmp.Ordering.TheVariants.{Less, Equal, Greater}
use Rattle.std.proofs.lemmas.Cmp.{nat_list_cmp_total, upto, tied_itself}
use Rattle.std.proofs.lemmas.Bool.{and_parts, and_from}
use Rattle.cell_world.specs.Texts.{Text}
use Rattle.cell_world.specs.ByteOrder.{byte_cmp}
use Rattle.cell_world.specs.Keys.{same, below, at_most, before, contains, low_of, greater, overlaps}
use Rattle.cell_world.specs.KeyForms.{is_span_of}
use Rattle.cell_world.specs.declared.spans.High.{High}
use Rattle.cell_world.specs.declared.spans.High.TheVariants.{At, Max}
use Rattle.cell_world.specs.declared.spans.Span.{Span}
use Rattle.cell_world.specs.declared.spans.Span.TheVariants.{Range, Point}
use Rattle.cell_world.specs.declared.cells.MapKind.{MapKind}
use Rattle.cell_world.specs.declared.cells.MapKind.TheVariants as kind
use Rattle.cell_world.specs.declared.cells.KeyType.{KeyType}
use Rattle.cell_world.proofs.OrderLaws.{exact_texts}

pub not_true : (b : Bool) → not b ≡ true → b ≡ false
not_true true e = sym e
not_true false e = refl

pub not_false : (b : Bool) → b ≡ false → not b ≡ true
not_false b e = ap not e

pub same_is : (a b : Text) → same a b ≡ true → a ≡ b
same_is a b h = by (byte_cmp a b) refl h
  where
    by : (r : Ordering) → byte_cmp a b ≡ r → is_eq r ≡ true → a ≡ b
    by Less e h = cc
    by Equal e h = exact_texts a b e
    by Greater e h = cc

pub same_self : (a : Text) → same a a ≡ true
same_self a = ap is_eq (tied_itself nat_list_cmp_total a)

pub at_most_self : (a : Text) → at_most a a ≡ true
at_most_self a = ap (λ r. not (is_gt r)) (tied_itself nat_list_cmp_total a)

pub at_most_trans : (a b c : Text) → at_most a b ≡ true → at_most b c ≡ true → at_most a c ≡ true
at_most_trans a b c h g = not_false _ (upto nat_list_cmp_total a b c (not_true _ h) (not_true _ g))

pub at_most_below : (a b c : Text) → at_most a b ≡ true → below b c ≡ true → below a c ≡ true
at_most_below a b c h g = by (byte_cmp a b) (byte_cmp b c) refl refl h g
  where
    by : (r s : Ordering) → byte_cmp a b ≡ r → byte_cmp b c ≡ s → not (is_gt r) ≡ true → is_lt s ≡ true → below a c ≡ true
    by Less Less e f h g = ap is_lt (nat_list_cmp_total.trans a b c e f)
    by Equal Less e f h g = ap is_lt (nat_list_cmp_total.congr a b c e ∙ f)
    by Greater s e f h g = cc
    by r Equal e f h g = cc
    by r Greater e f h g = cc

pub at_most_before : (a b : Text) (end : High) → at_most a b ≡ true → before b end ≡ true → before a end ≡ true
at_most_before a b (At high) h g = at_most_below a b high h g
at_most_before a b Max h g = refl

-- the greater of two keys is above both, and below what is above both
greater_cases : (a b : Text) (P : Text → Type 0) → (at_most b a ≡ true → P a) → (at_most a b ≡ true → P b) → P (greater a b)
greater_cases a b P f g = by (byte_cmp a b) refl
  where
    flipped : byte_cmp b a ≡ ordering_reverse (byte_cmp a b)
    flipped = nat_list_cmp_total.antisymm b a

    by : (r : Ordering) → byte_cmp a b ≡ r → P (greater a b)
    by Less e = subst P (sym (ap (λ r. cond (is_lt r) b a) e)) (g (ap (λ r. not (is_gt r)) e))
    by Equal e = subst P (sym (ap (λ r. cond (is_lt r) b a) e)) (f (ap (λ r. not (is_gt r)) (flipped ∙ ap ordering_reverse e)))
    by Greater e = subst P (sym (ap (λ r. cond (is_lt r) b a) e)) (f (ap (λ r. not (is_gt r)) (flipped ∙ ap ordering_reverse e)))

pub at_most_antisymm : (a b : Text) → at_most a b ≡ true → at_most b a ≡ true → a ≡ b
at_most_antisymm a b h g = by (byte_cmp a b) refl h
  where
    flipped : byte_cmp b a ≡ ordering_reverse (byte_cmp a b)
    flipped = nat_list_cmp_total.antisymm b a

    by : (r : Ordering) → byte_cmp a b ≡ r → not (is_gt r) ≡ true → a ≡ b
    by Less e h = absurd (impossible (sym (ap (λ r. not (is_gt r)) (flipped ∙ ap ordering_reverse e)) ∙ g))
      where
        impossible : false ≡ true → ⊥
        impossible e = cc
    by Equal e h = exact_texts a b e
    by Greater e h = cc

pub greater_comm : (a b : Text) → greater a b ≡ greater b a
greater_comm a b = greater_cases a b (λ x. x ≡ greater b a)
    (λ h. greater_cases b a (λ y. a ≡ y) (λ g. at_most_antisymm a b g h) (λ g. refl))
    (λ h. greater_cases b a (λ y. b ≡ y) (λ g. refl) (λ g. at_most_antisymm b a g h))

and_comm : (x y : Bool) → (x && y) ≡ (y && x)
and_comm true true = refl
and_comm true false = refl
and_comm false true = refl
and_comm false false = refl

pub overlaps_comm : (a b : Span) → overlaps a b ≡ overlaps b a
overlaps_comm a b = let low = greater (low_of a) (low_of b) in and_comm (contains a low) (contains b low) ∙ ap (λ low. contains b low && contains a low) (greater_comm (low_of a) (low_of b))

-- a span holds each key from its low key up to one that it holds
pub contains_between : (s : Span) (key top : Text) → contains s key ≡ true → at_most (low_of s) top ≡ true → at_most top key ≡ true → contains s top ≡ true
contains_between (Range low high) key top h f g = and_from _ _ f (at_most_before top key high g (and_parts _ _ h).1)
contains_between (Point at) key top h f g =
    let e : at ≡ key = same_is at key h in
    subst (λ x. same at x ≡ true) (at_most_antisymm at top f (subst (λ k. at_most top k ≡ true) (sym e) g)) (same_self at)

pub low_at_most : (s : Span) (key : Text) → contains s key ≡ true → at_most (low_of s) key ≡ true
low_at_most (Range low high) key h = (and_parts _ _ h).0
low_at_most (Point at) key h = subst (λ k. at_most at k ≡ true) (same_is at key h) (at_most_self at)

pub overlaps_shared : (a b : Span) (key : Text) → IsTrue (contains a key) → IsTrue (contains b key) → IsTrue (overlaps a b)
overlaps_shared a b key h g = greater_cases (low_of a) (low_of b) (λ top. (contains a top && contains b top) ≡ true)
    (λ f. and_from _ _ (contains_between a key (low_of a) h (at_most_self (low_of a)) (low_at_most a key h)) (contains_between b key (low_of a) g f (low_at_most a key h)))
    (λ f. and_from _ _ (contains_between a key (low_of b) h f (low_at_most b key g)) (contains_between b key (low_of b) g (at_most_self (low_of b)) (low_at_most b key g)))

-- a span of a map holds its low key
pub holds_low : (k : MapKind) (type : KeyType) (s : Span) → IsTrue (is_span_of k type s) → contains s (low_of s) ≡ true
holds_low kind.Range type (Range low high) h = and_from _ _ (at_most_self low) (and_parts _ _ (and_parts _ _ h).1).1
holds_low kind.Range type (Point at) h = cc
holds_low kind.List type (Range low high) h = cc
holds_low kind.List type (Point at) h = same_self at

-- ---- overlap is a shared key

pub shared_of_overlap : (a b : Span) → IsTrue (overlaps a b) → (key : Text) × IsTrue (contains a key) × IsTrue (contains b key)
shared_of_overlap a b h = (greater (low_of a) (low_of b), (and_parts _ _ h).0, (and_parts _ _ h).1)

pub overlap_is_shared : (a b : Span) → IsTrue (overlaps a b) ↔ ((key : Text) × IsTrue (contains a key) × IsTrue (contains b key))
overlap_is_shared a b = (shared_of_overlap a b, λ s. overlaps_shared a b s.0 s.1 s.2)

-- two tests that hold in the same cases
same_tests : (x y : Bool) → (x ≡ true → y ≡ true) → (y ≡ true → x ≡ true) → x ≡ y
same_tests true y f g = sym (f refl)
same_tests false true f g = g refl
same_tests false false f g = refl

-- a span overlaps a point exactly where it contains it
pub overlaps_point : (s : Span) (key : Text) → overlaps s (Point key) ≡ contains s key
overlaps_point s key = same_tests _ _ from to
  where
    from : overlaps s (Point key) ≡ true → contains s key ≡ true
    from h = let shared = shared_of_overlap s (Point key) h in subst (λ k. contains s k ≡ true) (sym (same_is key shared.0 shared.2)) shared.1

    to : contains s key ≡ true → overlaps s (Point key) ≡ true
    to h = overlaps_shared s (Point key) key h (same_self key)

pub point_overlaps : (s : Span) (key : Text) → overlaps (Point key) s ≡ contains s key
point_overlaps s key = overlaps_comm (Point key) s ∙ overlaps_point s key

-- two points overlap exactly where they are one
pub points_overlap : (a b : Text) → IsTrue (overlaps (Point a) (Point b)) ↔ (a ≡ b)
points_overlap a b = (λ h. same_is a b (sym (overlaps_point (Point a) b) ∙ h), λ e. overlaps_point (Point a) b ∙ subst (λ k. same a k ≡ true) e (same_self a))
