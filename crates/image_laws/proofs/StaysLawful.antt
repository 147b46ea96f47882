-- Two lawful operations whose hulls are apart leave each other lawful.
use Rattle.std.proofs.Common.{◌≡◌, true, false, refl, sym, ◌∙◌, subst, Option, Some, inl, inr, true≢false, List, [], ◌∷◌}
use Rattle.std.specs.Prelude.{IsTrue}
use Rattle.std.specs.List.{list_any}
use Rattle.std.specs.FinMap as map
use Rattle.cell_world.specs.Texts.{Text}
use Rattle.cell_world.specs.Lists.{IsOneOf}
use Rattle.cell_world.specs.Keys.{same, overlaps, low_of}
use Rattle.cell_world.specs.Operations.{conflicts, reach_of}
use Rattle.cell_world.specs.Spelled.{listed}
use Rattle.cell_world.specs.Stores.{Maps, Mappings, Jobs, piece_key, exchanged}
use Rattle.cell_world.specs.Lawful.{ReadTables, LawfulOn, IsOfJob, job_of_pieces}
use Rattle.cell_world.specs.Sound.{HasPiece, IsSpanOf, AreMappings}
use Rattle.cell_world.specs.declared.operations.Piece.{Piece}
use Rattle.cell_world.specs.declared.operations.Op.{Op}
use Rattle.cell_world.specs.declared.spans.Span.{Span}
use Rattle.std.proofs.lemmas.Bool.{and_from}
use Rattle.cell_world.proofs.SpanLaws.{same_self, overlaps_shared, shared_of_overlap}
use Rattle.cell_world.specs.declared.cells.Token.{Token}
use Rattle.cell_world.proofs.ListLaws.{all_from}
use Rattle.image_laws.specs.Fits.{IsFit, Fits}
use Rattle.image_laws.proofs.FitLaws.{fit_of_lawful, exchange, low_in}
use Rattle.image_laws.proofs.Lists.{any_gives}
use Rattle.image_laws.proofs.ShapeLaws.{of_one, replaced}

-- Hulls of one map are apart.
abbrev pub AreApart : Op → Op → Type 0
AreApart a b = a.map ≡ b.map → IsTrue (overlaps a.hull b.hull) → ⊥

module _ (t : ReadTables) (m : AreMappings t.maps t.mappings) (name : Text) (hull : Span) (olds news : List Piece) (fit : IsFit t.maps t.mappings name hull olds news) (other : Op) (law : LawfulOn t other) (apart : name ≡ other.map → IsTrue (overlaps hull other.hull) → ⊥) where
  abbrev after : Mappings
  after = exchanged t.mappings olds news

  other_fit : Fits t.maps t.mappings other
  other_fit = fit_of_lawful t m other law

  -- an old of the other one stays
  pub old_stays : (o : Piece) → IsOneOf (listed other.olds) o → HasPiece after o
  old_stays o among = elim ((exchange t.maps t.mappings m name hull olds news fit).kept o (other_fit.stand o among)) [
    | inl old ↦
        let low = low_in t.maps o.map o.span (m.spans o (other_fit.stand o among)) in
        absurd (apart (sym (fit.old_map o old) ∙ other_fit.old_map o among) (overlaps_shared hull other.hull (low_of o.span) (fit.shaped.old_in o old (low_of o.span) low) (other_fit.shaped.old_in o among (low_of o.span) low)))
    | inr stays ↦ stays
  ]

  still_free : (q : Piece) → HasPiece after q → q.map ≡ other.map → IsTrue (list_any (λ (n : Piece). overlaps n.span q.span) (listed other.news)) → IsOneOf (listed other.olds) q
  still_free q h of_map any = elim ((exchange t.maps t.mappings m name hull olds news fit).back q h) [
    | inl new ↦
        let n = any_gives (λ (n : Piece). overlaps n.span q.span) (listed other.news) any in
        let k = shared_of_overlap n.0.span q.span n.2 in
        absurd (apart (sym (fit.new_map q new) ∙ of_map) (overlaps_shared hull other.hull k.0 (fit.shaped.new_in q new k.0 k.2) (other_fit.shaped.new_in n.0 n.1 k.0 k.1)))
    | inr old ↦ law.free q old.0 of_map any
  ]

  -- It stays lawful, where it stays a step of its job.
  pub stays_lawful : (jobs : Jobs) → IsOfJob (record t { mappings = after; jobs = jobs }) other (job_of_pieces jobs (listed other.olds)) → LawfulOn (record t { mappings = after; jobs = jobs }) other
  stays_lawful jobs job = record {
    map_stands = law.map_stands;
    olds_stand = all_from (λ (o : Piece). map.get after (piece_key o) ≡ Some o) (listed other.olds) old_stays;
    of_map = law.of_map;
    olds_in_order = law.olds_in_order;
    news_in_order = law.news_in_order;
    attached = law.attached;
    on_shards = law.on_shards;
    spans = law.spans;
    disjoint = law.disjoint;
    free = still_free;
    hull = law.hull;
    shape = law.shape;
    job = job;
    no_drop = law.no_drop;
  }

-- operations that don't conflict
pub apart_of : (a b : Op) → conflicts (reach_of a) b ≡ false → AreApart a b
apart_of a b clear e over = true≢false (sym (and_from _ _ (subst (λ n. same a.map n ≡ true) e (same_self a.map)) over) ∙ clear)

-- ---- a short change of a token

-- A mapping whose token is changed fits like an operation of this one mapping.
pub token_fits : (maps : Maps) (mappings : Mappings) → AreMappings maps mappings → (p : Piece) (token : Option Token) → HasPiece mappings p → IsFit maps mappings p.map p.span (p ∷ []) (record p { token = token } ∷ [])
token_fits maps mappings m p token has = record {
  shaped = replaced p (record p { token = token }) refl (λ on. refl) (λ on. refl);
  stand = of_one (HasPiece mappings) has;
  old_map = of_one (λ (o : Piece). o.map ≡ p.map) refl;
  new_map = of_one (λ (n : Piece). n.map ≡ p.map) refl;
  new_spans = of_one (λ (n : Piece). IsSpanOf maps n.map n.span) (m.spans p has);
  all_olds = λ q h e over. inl (sym (m.disjoint q p h has e over));
}
