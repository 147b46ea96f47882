-- A lawful operation fits the mappings; what its commit makes of them, and who owns the keys then.
use Rattle.std.proofs.Common.{◌≡◌, ◌⊎◌, refl, sym, ap, ◌∙◌, subst, Some, None, Option, inl, inr, List, [], ◌++◌}
use Rattle.std.specs.Prelude.{IsTrue, IsSome, IfSome}
use Rattle.std.specs.List.{AllByRecursion}
use Rattle.std.specs.FinMap as map
use Rattle.std.proofs.lemmas.Option.{none-some}
use Rattle.cell_world.specs.Texts.{Text}
use Rattle.cell_world.specs.Lists.{IsOneOf}
use Rattle.cell_world.specs.Keys.{contains, overlaps, low_of}
use Rattle.cell_world.specs.KeyForms.{is_span_of}
use Rattle.cell_world.specs.Spelled.{listed}
use Rattle.cell_world.specs.Stores.{Maps, Mappings, piece_key, exchanged}
use Rattle.cell_world.specs.Plain.{owner_in}
use Rattle.cell_world.specs.Operations.{hull_of}
use Rattle.cell_world.specs.Lawful.{ReadTables, LawfulOn}
use Rattle.cell_world.specs.Sound.{HasPiece, IsSpanOf, IsKeyOf, AreMappings}
use Rattle.cell_world.specs.declared.operations.Piece.{Piece}
use Rattle.cell_world.specs.declared.operations.Op.{Op}
use Rattle.cell_world.specs.declared.spans.Span.{Span}
use Rattle.cell_world.specs.declared.cells.MapKind.{MapKind}
use Rattle.cell_world.specs.declared.cells.KeyType.{KeyType}
use Rattle.cell_world.proofs.SpanLaws.{overlaps_shared, overlaps_comm, holds_low, shared_of_overlap}
use Rattle.image_laws.proofs.OwnerLaws.{AllDisjoint, owner_is, owner_stands, owner_key}
use Rattle.cell_world.proofs.ListLaws.{all_at, in_first, in_second}
use Rattle.image_laws.specs.Exchange.{IsExchanged}
use Rattle.image_laws.specs.Fits.{IsFit}
use Rattle.image_laws.specs.Shapes.{IsShaped, HasSome}
use Rattle.image_laws.proofs.ExchangeLaws.{HaveOwnKeys, is_exchanged, placed_exchanged}
use Rattle.image_laws.proofs.Lists.{any_from}
use Rattle.image_laws.proofs.ShapeLaws.{shaped}

-- a span of a map holds its low key
pub low_in : (maps : Maps) (name : Text) (s : Span) → IsSpanOf maps name s → IsTrue (contains s (low_of s))
low_in maps name s h = holds_low h.0 h.1 s h.3

-- ---- a lawful operation fits

module _ (t : ReadTables) (m : AreMappings t.maps t.mappings) (op : Op) (law : LawfulOn t op) where
  old_stands : (o : Piece) → IsOneOf (listed op.olds) o → HasPiece t.mappings o
  old_stands = all_at (λ (o : Piece). map.get t.mappings (piece_key o) ≡ Some o) (listed op.olds) law.olds_stand

  old_of_map : (o : Piece) → IsOneOf (listed op.olds) o → o.map ≡ op.map
  old_of_map o h = all_at (λ (p : Piece). p.map ≡ op.map) (listed op.olds ++ listed op.news) law.of_map o (in_first (listed op.olds) (listed op.news) o h)

  new_of_map : (n : Piece) → IsOneOf (listed op.news) n → n.map ≡ op.map
  new_of_map n h = all_at (λ (p : Piece). p.map ≡ op.map) (listed op.olds ++ listed op.news) law.of_map n (in_second (listed op.olds) (listed op.news) n h)

  new_spanned : (n : Piece) → IsOneOf (listed op.news) n → IsSpanOf t.maps n.map n.span
  new_spanned n h = by (map.get t.maps op.map) refl law.map_stands law.spans
    where
      by : (o : Option (MapKind × KeyType)) → map.get t.maps op.map ≡ o → IsSome o → IfSome o (λ k. AllByRecursion (λ (p : Piece). IsTrue (is_span_of k.0 k.1 p.span)) (listed op.news)) → IsSpanOf t.maps n.map n.span
      by None e some s = cc
      by (Some k) e some s = (k.0, k.1, ap (map.get t.maps) (new_of_map n h) ∙ e, all_at (λ (p : Piece). IsTrue (is_span_of k.0 k.1 p.span)) (listed op.news) s n h)

  lawful_shaped : IsShaped op.hull (listed op.olds) (listed op.news)
  lawful_shaped = shaped t.rows_at op.hull (listed op.olds) (listed op.news) law.shape law.hull
      (λ o h. let s = m.spans o (old_stands o h) in (s.0, s.1, s.3))
      (λ n h. let s = new_spanned n h in (s.0, s.1, s.3))

  lawful_all_olds : (q : Piece) → HasPiece t.mappings q → q.map ≡ op.map → IsTrue (overlaps q.span op.hull) → IsOneOf (listed op.olds) q
  lawful_all_olds q has of_map over = by (lawful_shaped.in_news shared.0 shared.2) (lawful_shaped.in_olds shared.0 shared.2)
    where
      shared : (key : Text) × IsTrue (contains q.span key) × IsTrue (contains op.hull key)
      shared = shared_of_overlap q.span op.hull over

      of_old : (o : Piece) → IsOneOf (listed op.olds) o → IsTrue (contains o.span shared.0) → IsOneOf (listed op.olds) q
      of_old o among holds = subst (IsOneOf (listed op.olds)) (m.disjoint o q (old_stands o among) has (old_of_map o among ∙ sym of_map) (overlaps_shared o.span q.span shared.0 holds shared.1)) among

      never : (listed op.olds ≡ []) → (listed op.news ≡ []) → Some op.hull ≡ None
      never a b = sym law.hull ∙ (λ i. hull_of (a i ++ b i))

      by : HasSome (listed op.news) shared.0 ⊎ (listed op.news ≡ []) → HasSome (listed op.olds) shared.0 ⊎ (listed op.olds ≡ []) → IsOneOf (listed op.olds) q
      by (inl s) o = law.free q has of_map (any_from (λ (n : Piece). overlaps n.span q.span) (listed op.news) s.piece s.among (overlaps_shared s.piece.span q.span shared.0 s.holds shared.1))
      by (inr none) (inl o) = of_old o.piece o.among o.holds
      by (inr none) (inr bare) = absurd (none-some op.hull (sym (never bare none)))

  pub fit_of_lawful : IsFit t.maps t.mappings op.map op.hull (listed op.olds) (listed op.news)
  fit_of_lawful = record {
    shaped = lawful_shaped;
    stand = old_stands;
    old_map = old_of_map;
    new_map = new_of_map;
    new_spans = new_spanned;
    all_olds = lawful_all_olds;
  }

-- ---- the commit

module _ (maps : Maps) (mappings : Mappings) (m : AreMappings maps mappings) (name : Text) (hull : Span) (olds news : List Piece) (fit : IsFit maps mappings name hull olds news) where
  abbrev after : Mappings
  after = exchanged mappings olds news

  -- a mapping that has a key of the hull is an old one
  pub old_of_key : (q : Piece) → HasPiece mappings q → q.map ≡ name → (key : Text) → IsTrue (contains q.span key) → IsTrue (contains hull key) → IsOneOf olds q
  old_of_key q has of_map key holds inside = fit.all_olds q has of_map (overlaps_shared q.span hull key holds inside)

  new_low : (n : Piece) → IsOneOf news n → IsTrue (contains n.span (low_of n.span))
  new_low n h = low_in maps n.map n.span (fit.new_spans n h)

  pub own_keys : HaveOwnKeys news
  own_keys a i b j e =
      let low : IsTrue (contains b.span (low_of a.span)) = subst (λ l. IsTrue (contains b.span l)) (ap (λ k. k.1) (sym e)) (new_low b j) in
      fit.shaped.apart a i b j (overlaps_shared a.span b.span (low_of a.span) (new_low a i) low)

  free_key : (q : Piece) → HasPiece mappings q → (n : Piece) → IsOneOf news n → piece_key n ≡ piece_key q → IsOneOf olds q
  free_key q has n among e =
      let low : IsTrue (contains n.span (low_of q.span)) = subst (λ l. IsTrue (contains n.span l)) (ap (λ k. k.1) e) (new_low n among) in
      old_of_key q has (sym (ap (λ k. k.0) e) ∙ fit.new_map n among) (low_of q.span) (low_in maps q.map q.span (m.spans q has)) (fit.shaped.new_in n among (low_of q.span) low)

  pub exchange : IsExchanged olds news mappings after
  exchange = is_exchanged olds news mappings fit.stand own_keys free_key

  -- a new one overlaps no mapping that stays
  pub new_apart : (n q : Piece) → IsOneOf news n → HasPiece mappings q → (IsOneOf olds q → ⊥) → n.map ≡ q.map → IsTrue (overlaps n.span q.span) → ⊥
  new_apart n q among has not_old of_map over =
      let k = shared_of_overlap n.span q.span over in
      not_old (old_of_key q has (sym of_map ∙ fit.new_map n among) k.0 k.2 (fit.shaped.new_in n among k.0 k.1))

  disjoint_after : AllDisjoint after
  disjoint_after a b h g = by (exchange.back a h) (exchange.back b g)
    where
      by : IsOneOf news a ⊎ (HasPiece mappings a × (IsOneOf olds a → ⊥)) → IsOneOf news b ⊎ (HasPiece mappings b × (IsOneOf olds b → ⊥)) → a.map ≡ b.map → IsTrue (overlaps a.span b.span) → a ≡ b
      by (inl x) (inl y) e f = fit.shaped.apart a x b y f
      by (inr x) (inr y) e f = m.disjoint a b x.0 y.0 e f
      by (inl x) (inr y) e f = absurd (new_apart a b x y.0 y.1 e f)
      by (inr x) (inl y) e f = absurd (new_apart b a y x.0 x.1 (sym e) (overlaps_comm b.span a.span ∙ f))

  spans_after : (p : Piece) → HasPiece after p → IsSpanOf maps p.map p.span
  spans_after p h = elim (exchange.back p h) [ inl new ↦ fit.new_spans p new | inr old ↦ m.spans p old.0 ]

  pub are_mappings_after : AreMappings maps after
  are_mappings_after = record { placed = placed_exchanged olds news mappings m.placed; spans = spans_after; disjoint = disjoint_after }

  -- ---- owners

  -- an old one owned its keys
  pub old_owned : (o : Piece) → IsOneOf olds o → (key : Text) → IsKeyOf maps name key → IsTrue (contains o.span key) → owner_in maps mappings name key ≡ Some o
  old_owned o among key of_type holds = owner_is maps mappings m.placed name key m.disjoint of_type o (fit.stand o among) (fit.old_map o among) holds

  -- a new one owns its keys
  pub new_owns : (n : Piece) → IsOneOf news n → (key : Text) → IsKeyOf maps name key → IsTrue (contains n.span key) → owner_in maps after name key ≡ Some n
  new_owns n among key of_type holds = owner_is maps after are_mappings_after.placed name key disjoint_after of_type n (exchange.new n among) (fit.new_map n among) holds

  -- the owner of a key of the hull was an old one, and is a new one
  pub owner_was_old : (p : Piece) (key : Text) → IsTrue (contains hull key) → owner_in maps mappings name key ≡ Some p → IsOneOf olds p
  owner_was_old p key inside e = let s = owner_stands maps mappings m.placed name key p e in old_of_key p s.0 s.1 key s.2 inside

  pub owner_is_new : (p : Piece) (key : Text) → IsTrue (contains hull key) → owner_in maps after name key ≡ Some p → IsOneOf news p
  owner_is_new p key inside e =
      let s = owner_stands maps after are_mappings_after.placed name key p e in
      elim (exchange.back p s.0) [ inl new ↦ new | inr old ↦ absurd (old.1 (old_of_key p old.0 s.1 key s.2 inside)) ]

  -- every other key keeps its owner
  pub owner_stays : (other key : Text) → (other ≡ name → IsTrue (contains hull key) → ⊥) → owner_in maps after other key ≡ owner_in maps mappings other key
  owner_stays other key out = by (owner_in maps mappings other key) refl
    where
      by : (o : Option Piece) → owner_in maps mappings other key ≡ o → owner_in maps after other key ≡ owner_in maps mappings other key
      by (Some p) e =
          let s = owner_stands maps mappings m.placed other key p e in
          elim (exchange.kept p s.0) [
            | inl old ↦ absurd (out (sym s.1 ∙ fit.old_map p old) (fit.shaped.old_in p old key s.2))
            | inr has ↦ owner_is maps after are_mappings_after.placed other key disjoint_after (owner_key maps mappings m.placed other key p e) p has s.1 s.2 ∙ sym e
          ]
      by None e = none (owner_in maps after other key) refl
        where
          none : (o : Option Piece) → owner_in maps after other key ≡ o → owner_in maps after other key ≡ owner_in maps mappings other key
          none None f = f ∙ sym e
          none (Some q) f =
              let s = owner_stands maps after are_mappings_after.placed other key q f in
              elim (exchange.back q s.0) [
                | inl new ↦ absurd (out (sym s.1 ∙ fit.new_map q new) (fit.shaped.new_in q new key s.2))
                | inr old ↦ f ∙ sym (owner_is maps mappings m.placed other key m.disjoint (owner_key maps after are_mappings_after.placed other key q f) q old.0 s.1 s.2)
              ]

  -- a key of the hull of an operation without olds had no owner, and of one without news has none
  pub unowned_before : olds ≡ [] → (key : Text) → IsTrue (contains hull key) → owner_in maps mappings name key ≡ None
  unowned_before bare key inside = by (owner_in maps mappings name key) refl
    where
      by : (o : Option Piece) → owner_in maps mappings name key ≡ o → owner_in maps mappings name key ≡ None
      by None e = e
      by (Some p) e = absurd (subst (λ ps. IsOneOf ps p) bare (owner_was_old p key inside e))

  pub unowned_after : news ≡ [] → (key : Text) → IsTrue (contains hull key) → owner_in maps after name key ≡ None
  unowned_after bare key inside = by (owner_in maps after name key) refl
    where
      by : (o : Option Piece) → owner_in maps after name key ≡ o → owner_in maps after name key ≡ None
      by None e = e
      by (Some p) e = absurd (subst (λ ps. IsOneOf ps p) bare (owner_is_new p key inside e))
