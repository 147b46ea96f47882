-- Each shape has the law of the shapes.
use Rattle.std.proofs.Common.{◌≡◌, ◌⊎◌, Bool, true, false, cond, not, refl, sym, ap, ◌∙◌, subst, Some, inl, inr, List, [], ◌∷◌, ◌++◌}
use Rattle.std.specs.Prelude.{IsTrue}
use Rattle.std.specs.Ordering.{is_lt, is_gt, ordering_reverse}
use Rattle.std.specs.declared.cmp.Ordering.{Ordering}
use Rattle.std.specs.declared.cmp.Ordering.TheVariants.{Less, Equal, Greater}
use Rattle.std.proofs.lemmas.Cmp.{nat_list_cmp_total, tied_itself}
use Rattle.std.proofs.lemmas.Bool.{and_parts, and_from, false_from_ne_true}
use Rattle.std.proofs.lemmas.Option.{same_Some}
use Rattle.cell_world.specs.Texts.{Text}
use Rattle.cell_world.specs.ByteOrder.{byte_cmp}
use Rattle.cell_world.specs.Lists.{IsOneOf}
use Rattle.cell_world.specs.Keys.{below, contains, overlaps, before, end_below, at_most}
use Rattle.cell_world.specs.KeyForms.{is_span_of}
use Rattle.cell_world.specs.Stores.{Rows}
use Rattle.cell_world.specs.Operations.{joined, hull_of}
use Rattle.cell_world.specs.Lawful.{HasShape, Cuts}
use Rattle.cell_world.specs.declared.operations.Piece.{Piece}
use Rattle.cell_world.specs.declared.cells.Status.{Status}
use Rattle.cell_world.specs.declared.cells.Status.TheVariants.{Online, Offline}
use Rattle.cell_world.specs.declared.cells.MapKind.{MapKind}
use Rattle.cell_world.specs.declared.cells.MapKind.TheVariants as kind
use Rattle.cell_world.specs.declared.spans.High.{High}
use Rattle.cell_world.specs.declared.spans.High.TheVariants.{At}
use Rattle.cell_world.specs.declared.spans.Span.{Span}
use Rattle.cell_world.specs.declared.spans.Span.TheVariants.{Range, Point}
use Rattle.cell_world.proofs.SpanLaws.{at_most_trans, at_most_below, at_most_before, shared_of_overlap}
use Rattle.image_laws.specs.Shapes.{HasAt, HasSome, IsSpanned, IsShaped}

-- ---- lists of one and of two

pub of_one : {A : Type 0} {a : A} (P : A → Type 0) → P a → (x : A) → IsOneOf (a ∷ []) x → P x
of_one P p x (inl e) = subst P e p
of_one P p x (inr e) = absurd e

pub of_two : {A : Type 0} {a b : A} (P : A → Type 0) → P a → P b → (x : A) → IsOneOf (a ∷ b ∷ []) x → P x
of_two P p q x (inl e) = subst P e p
of_two P p q x (inr (inl e)) = subst P e q
of_two P p q x (inr (inr e)) = absurd e

-- ---- order

either : {A : Type 0} (b : Bool) (x : A) → cond b x x ≡ x
either true x = refl
either false x = refl

pub below_at_most : (a b : Text) → below a b ≡ true → at_most a b ≡ true
below_at_most a b = by (byte_cmp a b)
  where
    by : (r : Ordering) → is_lt r ≡ true → not (is_gt r) ≡ true
    by Less h = refl
    by Equal h = refl
    by Greater h = h

pub below_or : (a b : Text) → (below a b ≡ true) ⊎ (at_most b a ≡ true)
below_or a b = by (byte_cmp a b) (byte_cmp b a) (nat_list_cmp_total.antisymm b a)
  where
    by : (r s : Ordering) → s ≡ ordering_reverse r → (is_lt r ≡ true) ⊎ (not (is_gt s) ≡ true)
    by Less s e = inl refl
    by Equal s e = inr (ap (λ o. not (is_gt o)) e)
    by Greater s e = inr (ap (λ o. not (is_gt o)) e)

pub not_below_self : (a : Text) → below a a ≡ true → ⊥
not_below_self a h = let e : false ≡ true = sym (ap is_lt (tied_itself nat_list_cmp_total a)) ∙ h in cc

-- a key below another one isn't above it
pub not_back : (a b : Text) → below a b ≡ true → at_most b a ≡ true → ⊥
not_back a b h g = not_below_self b (at_most_below b a b g h)

-- ---- hulls

pub joined_self : (s : Span) → joined s s ≡ s
joined_self (Range low high) = λ i. Range (either (below low low) low i) (either (end_below high high) high i)
joined_self (Point at) = refl

-- a span that is cut in two
pub record IsCut (whole low high : Span) : Type 0 where
  pub left : (key : Text) → IsTrue (contains low key) → IsTrue (contains whole key)
  pub right : (key : Text) → IsTrue (contains high key) → IsTrue (contains whole key)
  pub parts : (key : Text) → IsTrue (contains whole key) → IsTrue (contains low key) ⊎ IsTrue (contains high key)
  pub apart : (key : Text) → IsTrue (contains low key) → IsTrue (contains high key) → ⊥
  pub hull : joined whole (joined low high) ≡ whole
  pub hull_back : joined low (joined high whole) ≡ whole

pub cut_at : (from key : Text) (to : High) → below from key ≡ true → before key to ≡ true → IsCut (Range from to) (Range from (At key)) (Range key to)
cut_at from key to low high = record {
  left = λ k h. let b = and_parts (at_most from k) (below k key) h in and_from _ _ b.0 (at_most_before k key to (below_at_most k key b.1) high);
  right = λ k h. let b = and_parts (at_most key k) (before k to) h in and_from _ _ (at_most_trans from key k (below_at_most from key low) b.0) b.1;
  parts = λ k h. elim (below_or k key) [
    | inl b ↦ inl (and_from _ _ (and_parts (at_most from k) (before k to) h).0 b)
    | inr b ↦ inr (and_from _ _ b (and_parts (at_most from k) (before k to) h).1)
  ];
  apart = λ k h g. not_back k key (and_parts (at_most from k) (below k key) h).1 (and_parts (at_most key k) (before k to) g).0;
  hull = ap (joined (Range from to)) parts ∙ joined_self (Range from to);
  hull_back = ap (joined (Range from (At key))) back ∙ front;
}
  where
    parts : joined (Range from (At key)) (Range key to) ≡ Range from to
    parts = λ i. Range (cond (low i) from key) (cond (high i) to (At key))

    not_lower : below key from ≡ false
    not_lower = false_from_ne_true _ (λ h. not_back key from h (below_at_most from key low))

    back : joined (Range key to) (Range from to) ≡ Range from to
    back = λ i. Range (cond (not_lower i) key from) (either (end_below to to) to i)

    front : joined (Range from (At key)) (Range from to) ≡ Range from to
    front = λ i. Range (either (below from from) from i) (cond (high i) to (At key))

-- the span of a range map has its low key below its end
pub before_end : (low : Text) (high : High) → IsSpanned (Range low high) → before low high ≡ true
before_end low high s = by s.0 s.2
  where
    by : (k : MapKind) → IsTrue (is_span_of k s.1 (Range low high)) → before low high ≡ true
    by kind.Range h = (and_parts _ _ (and_parts _ _ h).1).1
    by kind.List h = cc

-- the parts of a cut mapping
pub cut_of : (whole low high : Piece) → Cuts whole low high → IsSpanned low.span → IsSpanned high.span → IsCut whole.span low.span high.span
cut_of whole low high c l h =
    let low_is : low.span ≡ Range c.from (At c.key) = ap (λ (p : Piece). p.span) c.lower in
    let high_is : high.span ≡ Range c.key c.to = ap (λ (p : Piece). p.span) c.upper in
    let from = before_end c.from (At c.key) (subst IsSpanned low_is l) in
    let to = before_end c.key c.to (subst IsSpanned high_is h) in
    subst (λ (s : Span × (Span × Span)). IsCut s.0 s.1.0 s.1.1) (λ i. (sym c.range i, (sym low_is i, sym high_is i))) (cut_at c.from c.key c.to from to)

-- ---- shapes

not_both : (s : Status) → s ≡ Offline → s ≡ Online → ⊥
not_both s off on = let e : Offline ≡ Online = sym off ∙ on in cc

added : (n : Piece) → IsShaped n.span [] (n ∷ [])
added n = record {
  old_in = λ o h. absurd h;
  new_in = of_one (λ (p : Piece). (key : Text) → IsTrue (contains p.span key) → IsTrue (contains n.span key)) (λ key h. h);
  in_olds = λ key h. inr refl;
  in_news = λ key h. inl (record { piece = n; among = inl refl; holds = h });
  apart = of_one (λ (a : Piece). (b : Piece) → IsOneOf (n ∷ []) b → IsTrue (overlaps a.span b.span) → a ≡ b) (of_one (λ (b : Piece). IsTrue (overlaps n.span b.span) → n ≡ b) (λ h. refl));
  followed = λ o h. absurd h;
  follows = λ m h on key inside. inr refl;
}

deleted : (o : Piece) → o.status ≡ Offline → IsShaped o.span (o ∷ []) []
deleted o off = record {
  old_in = of_one (λ (p : Piece). (key : Text) → IsTrue (contains p.span key) → IsTrue (contains o.span key)) (λ key h. h);
  new_in = λ n h. absurd h;
  in_olds = λ key h. inl (record { piece = o; among = inl refl; holds = h });
  in_news = λ key h. inr refl;
  apart = λ a h. absurd h;
  followed = of_one (λ (p : Piece). p.status ≡ Online → (key : Text) → IsTrue (contains p.span key) → HasAt [] p.location key) (λ on. absurd (not_both o.status off on));
  follows = λ n h. absurd h;
}

-- one mapping for another one of the same keys, at the same site unless it is offline
pub replaced : (o n : Piece) → n.span ≡ o.span → (o.status ≡ Online → n.location ≡ o.location) → (n.status ≡ Online → n.location ≡ o.location) → IsShaped o.span (o ∷ []) (n ∷ [])
replaced o n span old_stays new_stays = record {
  old_in = of_one (λ (p : Piece). (key : Text) → IsTrue (contains p.span key) → IsTrue (contains o.span key)) (λ key h. h);
  new_in = of_one (λ (p : Piece). (key : Text) → IsTrue (contains p.span key) → IsTrue (contains o.span key)) (λ key h. subst (λ s. IsTrue (contains s key)) span h);
  in_olds = λ key h. inl (record { piece = o; among = inl refl; holds = h });
  in_news = λ key h. inl (record { piece = n; among = inl refl; holds = over key h });
  apart = of_one (λ (a : Piece). (b : Piece) → IsOneOf (n ∷ []) b → IsTrue (overlaps a.span b.span) → a ≡ b) (of_one (λ (b : Piece). IsTrue (overlaps n.span b.span) → n ≡ b) (λ h. refl));
  followed = of_one (λ (p : Piece). p.status ≡ Online → (key : Text) → IsTrue (contains p.span key) → HasAt (n ∷ []) p.location key)
      (λ on key h. record { piece = n; among = inl refl; there = old_stays on; holds = over key h });
  follows = of_one (λ (p : Piece). p.status ≡ Online → (key : Text) → IsTrue (contains p.span key) → HasAt (o ∷ []) p.location key ⊎ ((o ∷ []) ≡ []))
      (λ on key h. inl (record { piece = o; among = inl refl; there = sym (new_stays on); holds = subst (λ s. IsTrue (contains s key)) span h }));
}
  where
    over : (key : Text) → IsTrue (contains o.span key) → IsTrue (contains n.span key)
    over key h = subst (λ s. IsTrue (contains s key)) (sym span) h

-- a mapping, and its two parts at its site
module _ (whole low high : Piece) (cut : IsCut whole.span low.span high.span) (low_there : low.location ≡ whole.location) (high_there : high.location ≡ whole.location) where
  abbrev parts : List Piece
  parts = low ∷ high ∷ []

  whole_in : (p : Piece) → IsOneOf (whole ∷ []) p → (key : Text) → IsTrue (contains p.span key) → IsTrue (contains whole.span key)
  whole_in = of_one (λ (p : Piece). (key : Text) → IsTrue (contains p.span key) → IsTrue (contains whole.span key)) (λ key h. h)

  part_in : (p : Piece) → IsOneOf parts p → (key : Text) → IsTrue (contains p.span key) → IsTrue (contains whole.span key)
  part_in = of_two (λ (p : Piece). (key : Text) → IsTrue (contains p.span key) → IsTrue (contains whole.span key)) cut.left cut.right

  in_whole : (key : Text) → IsTrue (contains whole.span key) → HasSome (whole ∷ []) key
  in_whole key h = record { piece = whole; among = inl refl; holds = h }

  in_parts : (key : Text) → IsTrue (contains whole.span key) → HasAt parts whole.location key
  in_parts key h = elim (cut.parts key h) [
    | inl l ↦ record { piece = low; among = inl refl; there = low_there; holds = l }
    | inr r ↦ record { piece = high; among = inr (inl refl); there = high_there; holds = r }
  ]

  some_part : (key : Text) → IsTrue (contains whole.span key) → HasSome parts key
  some_part key h = let p = in_parts key h in record { piece = p.piece; among = p.among; holds = p.holds }

  at_whole : (p : Piece) → IsOneOf parts p → (key : Text) → IsTrue (contains p.span key) → HasAt (whole ∷ []) p.location key
  at_whole = of_two (λ (p : Piece). (key : Text) → IsTrue (contains p.span key) → HasAt (whole ∷ []) p.location key)
      (λ key h. record { piece = whole; among = inl refl; there = sym low_there; holds = cut.left key h })
      (λ key h. record { piece = whole; among = inl refl; there = sym high_there; holds = cut.right key h })

  at_parts : (p : Piece) → IsOneOf (whole ∷ []) p → (key : Text) → IsTrue (contains p.span key) → HasAt parts p.location key
  at_parts = of_one (λ (p : Piece). (key : Text) → IsTrue (contains p.span key) → HasAt parts p.location key) in_parts

  split : IsShaped whole.span (whole ∷ []) parts
  split = record {
    old_in = whole_in;
    new_in = part_in;
    in_olds = λ key h. inl (in_whole key h);
    in_news = λ key h. inl (some_part key h);
    apart = of_two (λ (a : Piece). (b : Piece) → IsOneOf parts b → IsTrue (overlaps a.span b.span) → a ≡ b)
        (of_two (λ (b : Piece). IsTrue (overlaps low.span b.span) → low ≡ b) (λ h. refl) (λ h. let k = shared_of_overlap low.span high.span h in absurd (cut.apart k.0 k.1 k.2)))
        (of_two (λ (b : Piece). IsTrue (overlaps high.span b.span) → high ≡ b) (λ h. let k = shared_of_overlap high.span low.span h in absurd (cut.apart k.0 k.2 k.1)) (λ h. refl));
    followed = λ o among on. at_parts o among;
    follows = λ n among on key h. inl (at_whole n among key h);
  }

  merged : IsShaped whole.span parts (whole ∷ [])
  merged = record {
    old_in = part_in;
    new_in = whole_in;
    in_olds = λ key h. inl (some_part key h);
    in_news = λ key h. inl (in_whole key h);
    apart = of_one (λ (a : Piece). (b : Piece) → IsOneOf (whole ∷ []) b → IsTrue (overlaps a.span b.span) → a ≡ b) (of_one (λ (b : Piece). IsTrue (overlaps whole.span b.span) → whole ≡ b) (λ h. refl));
    followed = λ o among on. at_whole o among;
    follows = λ n among on key h. inl (at_parts n among key h);
  }

same_hull : {a hull : Span} → Some a ≡ Some hull → a ≡ hull
same_hull {a = a} {hull = hull} e = same_Some a hull e

pub shaped : (rows : Text → Rows) (hull : Span) (olds news : List Piece) → HasShape rows olds news → hull_of (olds ++ news) ≡ Some hull
    → ((p : Piece) → IsOneOf olds p → IsSpanned p.span) → ((p : Piece) → IsOneOf news p → IsSpanned p.span) → IsShaped hull olds news
shaped rows hull [] (n ∷ []) s e so sn = subst (λ h. IsShaped h [] (n ∷ [])) (same_hull e) (added n)
shaped rows hull (o ∷ []) [] s e so sn = subst (λ h. IsShaped h (o ∷ []) []) (same_hull e) (deleted o s.0)
shaped rows hull (o ∷ []) (n ∷ []) (inl t) e so sn =
    let span : n.span ≡ o.span = ap (λ (p : Piece). p.span) t.rest in
    let there : n.location ≡ o.location = ap (λ (p : Piece). p.location) t.rest in
    let is : o.span ≡ hull = sym (joined_self o.span) ∙ ap (joined o.span) (sym span) ∙ same_hull e in
    subst (λ h. IsShaped h (o ∷ []) (n ∷ [])) is (replaced o n span (λ on. there) (λ on. there))
shaped rows hull (o ∷ []) (n ∷ []) (inr m) e so sn =
    let span : n.span ≡ o.span = ap (λ (p : Piece). p.span) m.rest in
    let status : n.status ≡ o.status = ap (λ (p : Piece). p.status) m.rest in
    let is : o.span ≡ hull = sym (joined_self o.span) ∙ ap (joined o.span) (sym span) ∙ same_hull e in
    subst (λ h. IsShaped h (o ∷ []) (n ∷ [])) is (replaced o n span (λ on. absurd (not_both o.status m.offline on)) (λ on. absurd (not_both o.status m.offline (sym status ∙ on))))
shaped rows hull (o ∷ []) (l ∷ h ∷ []) c e so sn =
    let cut = cut_of o l h c (sn l (inl refl)) (sn h (inr (inl refl))) in
    let low_there : l.location ≡ o.location = ap (λ (p : Piece). p.location) c.lower in
    let high_there : h.location ≡ o.location = ap (λ (p : Piece). p.location) c.upper in
    subst (λ s. IsShaped s (o ∷ []) (l ∷ h ∷ [])) (sym cut.hull ∙ same_hull e) (split o l h cut low_there high_there)
shaped rows hull (l ∷ h ∷ []) (n ∷ []) c e so sn =
    let cut = cut_of n l h c (so l (inl refl)) (so h (inr (inl refl))) in
    let low_there : l.location ≡ n.location = ap (λ (p : Piece). p.location) c.lower in
    let high_there : h.location ≡ n.location = ap (λ (p : Piece). p.location) c.upper in
    subst (λ s. IsShaped s (l ∷ h ∷ []) (n ∷ [])) (sym cut.hull_back ∙ same_hull e) (merged n l h cut low_there high_there)
shaped rows hull olds news s e so sn = absurd s
