-- The commit of an operation that isn't a step of a job leaves the job's range as it was.
use Rattle.std.proofs.Common.{◌≡◌, ◌⊎◌, ℕ, Bool, true, not, refl, sym, ap, ◌∙◌, subst, Some, inl, inr, true≢false, List, ◌&&◌}
use Rattle.std.specs.Prelude.{IsTrue, option_and_then}
use Rattle.std.specs.FinMap as map
use Rattle.std.proofs.lemmas.Option.{same_Some, none-some}
use Rattle.std.proofs.lemmas.Bool.{and_parts, and_from}
use Rattle.cell_world.specs.Texts.{Text}
use Rattle.cell_world.specs.Lists.{IsOneOf}
use Rattle.cell_world.specs.Keys.{below, at_most, before, contains, end_below, same_end, low_of}
use Rattle.cell_world.specs.KeyForms.{is_normal, is_normal_end, is_span_of}
use Rattle.cell_world.specs.Stores.{Maps, Shards, Mappings, Jobs, AwaySites, exchanged}
use Rattle.cell_world.specs.Plain.{owner_in}
use Rattle.cell_world.specs.Jobs.{ends_at}
use Rattle.cell_world.specs.Lawful.{job_with_token}
use Rattle.cell_world.specs.Sound.{HasPiece, HasJob, IsKeyOf, JobCells, IsCutOff, BatchAt, IsBatch, InBatch, batch_high, AreMappings}
use Rattle.cell_world.specs.declared.operations.Piece.{Piece}
use Rattle.cell_world.specs.declared.operations.JobRow.{JobRow}
use Rattle.cell_world.specs.declared.operations.Phase.{Phase}
use Rattle.cell_world.specs.declared.operations.Phase.TheVariants.{Idle, Copying, Moved}
use Rattle.cell_world.specs.declared.cells.Token.{Token}
use Rattle.cell_world.specs.declared.cells.KeyType.{KeyType}
use Rattle.cell_world.specs.declared.cells.MapKind.{MapKind}
use Rattle.cell_world.specs.declared.cells.MapKind.TheVariants as kind
use Rattle.cell_world.specs.declared.spans.High.{High}
use Rattle.cell_world.specs.declared.spans.High.TheVariants.{At, Max}
use Rattle.cell_world.specs.declared.spans.Span.{Span}
use Rattle.cell_world.specs.declared.spans.Span.TheVariants.{Range, Point}
use Rattle.cell_world.proofs.SpanLaws.{not_true, at_most_self, at_most_below, at_most_trans, same_is}
use Rattle.image_laws.specs.Fits.{IsFit}
use Rattle.image_laws.proofs.FitLaws.{exchange, owner_stays, owner_was_old, low_in}
use Rattle.image_laws.proofs.ShapeLaws.{below_or, below_at_most}

-- ---- order

pub not_and : (b : Bool) → not b ≡ true → b ≡ true → ⊥
not_and b h g = true≢false (sym g ∙ not_true b h)

-- a key before an end is before each end that isn't below that one
pub before_within : (key : Text) (a b : High) → before key a ≡ true → not (end_below b a) ≡ true → before key b ≡ true
before_within key (At x) (At y) h g = elim (below_or key y) [
  | inl b ↦ b
  | inr b ↦ absurd (not_and (below y x) g (at_most_below y key x b h))
]
before_within key (At x) Max h g = refl
before_within key Max (At y) h g = absurd (not_and true g refl)
before_within key Max Max h g = refl

-- ---- a job

module _ (maps : Maps) (mappings : Mappings) (m : AreMappings maps mappings) (shards : Shards) (next : ℕ) (job : JobRow) (j : JobCells maps shards mappings next job) where
  -- the key is in the job's range
  pub record InRange (key : Text) : Type 0 where
    pub normal : IsTrue (is_normal j.type key)
    pub from : IsTrue (at_most job.low key)
    pub to : IsTrue (before key job.high)

  pub in_span : (key : Text) → InRange key → IsTrue (contains (Range job.low job.high) key)
  in_span key h = and_from _ _ h.from h.to

  pub key_of : (key : Text) → InRange key → IsKeyOf maps job.map key
  key_of key h = (kind.Range, j.type, j.range_map, h.normal)

  pub range_of : (key : Text) → IsTrue (is_normal j.type key) → IsTrue (contains (Range job.low job.high) key) → InRange key
  range_of key n c = let both = and_parts (at_most job.low key) (before key job.high) c in record { normal = n; from = both.0; to = both.1 }

  -- the low key of a mapping of a range map is a normal form
  low_normal : (ms : Mappings) → AreMappings maps ms → (p : Piece) → HasPiece ms p → p.map ≡ job.map → IsTrue (is_normal j.type (low_of p.span))
  low_normal ms ok p h of_map = let s = ok.spans p h in by s.0 s.1 p.span s.3 (same_Some _ _ (sym s.2 ∙ ap (map.get maps) of_map ∙ j.range_map))
    where
      by : (k : MapKind) (t : KeyType) (s : Span) → IsTrue (is_span_of k t s) → ◌≡◌ {A = MapKind × KeyType} (k, t) (kind.Range, j.type) → IsTrue (is_normal j.type (low_of s))
      by kind.Range t (Range low high) h e = subst (λ x. IsTrue (is_normal x low)) (ap (λ k. k.1) e) (and_parts (is_normal t low) (is_normal_end t high && before low high) h).0
      by kind.Range t (Point at) h e = cc
      by kind.List t (Range low high) h e = cc
      by kind.List t (Point at) h e = subst (λ x. IsTrue (is_normal x at)) (ap (λ k. k.1) e) h

  pub low_in_range : InRange job.low
  low_in_range =
      let a = and_parts (is_normal j.type job.low) (is_normal_end j.type job.high && before job.low job.high) j.range in
      record { normal = a.0; from = at_most_self job.low; to = (and_parts (is_normal_end j.type job.high) (before job.low job.high) a.1).1 }

  -- a mapping that ends above lo has a key of the range
  pub ends_in : (ms : Mappings) → AreMappings maps ms → (p : Piece) → HasPiece ms p → p.map ≡ job.map → (end : High) → IsTrue (ends_at end p.span) → IsTrue (end_below (At job.low) end)
      → IsTrue (not (end_below job.high end)) → (key : Text) × InRange key × IsTrue (contains p.span key)
  ends_in ms ok p h of_map end ends above within = by p.span refl ends (low_in maps p.map p.span (ok.spans p h)) (low_normal ms ok p h of_map)
    where
      same_ends : (a b : High) → same_end a b ≡ true → a ≡ b
      same_ends (At a) (At b) e = ap At (same_is a b e)
      same_ends Max Max e = refl
      same_ends (At a) Max e = cc
      same_ends Max (At b) e = cc

      by : (s : Span) → p.span ≡ s → IsTrue (ends_at end s) → IsTrue (contains s (low_of s)) → IsTrue (is_normal j.type (low_of s)) → (key : Text) × InRange key × IsTrue (contains p.span key)
      by (Point at) is e low normal = cc
      by (Range low high) is e inside normal = elim (below_or low job.low) [
        | inl b ↦ (job.low, low_in_range, subst (λ s. IsTrue (contains s job.low)) (sym is) (and_from _ _ (below_at_most low job.low b) (subst (λ x. IsTrue (before job.low x)) (same_ends end high e) above)))
        | inr b ↦
            let lower : before low end ≡ true = subst (λ x. IsTrue (before low x)) (sym (same_ends end high e)) (and_parts (at_most low low) (before low high) inside).1 in
            (low, record { normal = normal; from = b; to = before_within low end job.high lower within }, subst (λ s. IsTrue (contains s low)) (sym is) inside)
      ]

  -- the cursor is a key of the range where a batch begins there
  pub cursor_in_range : (low : Text) (end : High) → job.cursor ≡ At low → IsTrue (end_below job.cursor end) → IsTrue (not (end_below job.high end)) → InRange low
  cursor_in_range low end is above within = record {
    normal = subst (λ c. IsTrue (is_normal_end j.type c)) is j.cursor_form;
    from = by (below_or low job.low);
    to = before_within low end job.high (subst (λ c. IsTrue (end_below c end)) is above) within;
  }
    where
      by : (below low job.low ≡ true) ⊎ (at_most job.low low ≡ true) → at_most job.low low ≡ true
      by (inl b) = absurd (not_and (below low job.low) (subst (λ c. IsTrue (not (end_below c (At job.low)))) is j.from_low) b)
      by (inr b) = b

  -- a key of the batch in progress is a key of the range
  pub batch_in_range : (locations : List Text) (away : AwaySites) → IsBatch locations away mappings job job.phase → (key : Text) → InBatch job key → IsKeyOf maps job.map key → InRange key
  batch_in_range locations away batch key inside of_type = by job.phase batch inside.3
    where
      both : IsTrue (at_most inside.0 key) × IsTrue (before key inside.1)
      both = and_parts (at_most inside.0 key) (before key inside.1) inside.4

      type_is : of_type.1 ≡ j.type
      type_is = ap (λ k. k.1) (same_Some _ _ (sym of_type.2 ∙ j.range_map))

      in_range : (end : High) (location : Text) → BatchAt mappings job end location → Some end ≡ Some inside.1 → InRange key
      in_range end location b e =
          let low = cursor_in_range inside.0 end inside.2 b.above b.within in
          let ends : end ≡ inside.1 = same_Some _ _ e in
          record {
            normal = subst (λ x. IsTrue (is_normal x key)) type_is of_type.3;
            from = at_most_trans job.low inside.0 key low.from both.0;
            to = before_within key end job.high (subst (λ x. IsTrue (before key x)) (sym ends) both.1) b.within;
          }

      by : (f : Phase) → IsBatch locations away mappings job f → batch_high f ≡ Some inside.1 → InRange key
      by Idle b e = absurd (none-some inside.1 e)
      by (Copying end) b e = in_range end job.source b.0 e
      by (Moved end) b e = in_range end job.target b.0 e

-- ---- a job, and an operation that isn't a step of it

module _ (maps : Maps) (mappings : Mappings) (m : AreMappings maps mappings) (jobs : Jobs) (name : Text) (hull : Span) (olds news : List Piece) (fit : IsFit maps mappings name hull olds news)
    (shards : Shards) (next : ℕ) (job : JobRow) (has : HasJob jobs job) (j : JobCells maps shards mappings next job) (other : (o : Piece) → IsOneOf olds o → job_with_token jobs o ≡ Some job → ⊥) where
  abbrev Range_of : Text → Type 0
  Range_of key = InRange maps mappings m shards next job j key

  -- no key of the range is in the hull
  pub out_of_hull : (key : Text) → Range_of key → job.map ≡ name → IsTrue (contains hull key) → ⊥
  out_of_hull key h of_map inside =
      let p = j.tokens key h.normal (in_span maps mappings m shards next job j key h) in
      let old = owner_was_old maps mappings m name hull olds news fit p.0 key inside (ap (λ n. owner_in maps mappings n key) (sym of_map) ∙ p.1) in
      other p.0 old (ap (option_and_then (λ (k : Token). map.get jobs k.0)) p.2 ∙ has)

  abbrev after : Mappings
  after = exchanged mappings olds news

  -- its keys keep their owners
  pub owner_in_range : (key : Text) → Range_of key → owner_in maps after job.map key ≡ owner_in maps mappings job.map key
  owner_in_range key h = owner_stays maps mappings m name hull olds news fit job.map key (out_of_hull key h)

  -- a mapping of the job's map that has a key of the range stands
  pub piece_stays : (p : Piece) → HasPiece mappings p → p.map ≡ job.map → (key : Text) → Range_of key → IsTrue (contains p.span key) → HasPiece after p
  piece_stays p h of_map key inside holds = elim ((exchange maps mappings m name hull olds news fit).kept p h) [
    | inl old ↦ absurd (out_of_hull key inside (sym of_map ∙ fit.old_map p old) (fit.shaped.old_in p old key holds))
    | inr stays ↦ stays
  ]

  -- a mapping of the job's map that stands after the commit and has a key of the range stood
  pub piece_stood : (p : Piece) → HasPiece after p → p.map ≡ job.map → (key : Text) → Range_of key → IsTrue (contains p.span key) → HasPiece mappings p
  piece_stood p h of_map key inside holds = elim ((exchange maps mappings m name hull olds news fit).back p h) [
    | inl new ↦ absurd (out_of_hull key inside (sym of_map ∙ fit.new_map p new) (fit.shaped.new_in p new key holds))
    | inr old ↦ old.0
  ]

  begins : IsCutOff mappings job → (p : Piece) × HasPiece after p × (p.map ≡ job.map) × (low_of p.span ≡ job.low)
  begins c =
      let p = c.begins in
      (p.0, piece_stays p.0 p.1 p.2 job.low (low_in_range maps mappings m shards next job j) (subst (λ k. IsTrue (contains p.0.span k)) p.3 (low_in maps p.0.map p.0.span (m.spans p.0 p.1))), p.2, p.3)

  ends : IsTrue (end_below (At job.low) job.cursor) → IsCutOff mappings job → (p : Piece) × HasPiece after p × (p.map ≡ job.map) × IsTrue (ends_at job.cursor p.span)
  ends above c =
      let p = c.ends in
      let k = ends_in maps mappings m shards next job j mappings m p.0 p.1 p.2 job.cursor p.3 above j.to_high in
      (p.0, piece_stays p.0 p.1 p.2 k.0 k.1 k.2, p.2, p.3)

  -- The job's cells stay as they are.
  pub job_stays : JobCells maps shards after next job
  job_stays = record {
    type = j.type;
    range_map = j.range_map;
    range = j.range;
    cursor_form = j.cursor_form;
    target = j.target;
    source = j.source;
    from_low = j.from_low;
    to_high = j.to_high;
    tokens = λ key n c. let p = j.tokens key n c in (p.0, owner_in_range key (range_of maps mappings m shards next job j key n c) ∙ p.1, p.2);
    done = λ key n c.
        let both = and_parts (at_most job.low key) (before key job.cursor) c in
        let p = j.done key n c in
        (p.0, owner_in_range key (record { normal = n; from = both.0; to = before_within key job.cursor job.high both.1 j.to_high }) ∙ p.1, p.2, p.3);
    cut_off = λ above. let c = j.cut_off above in record { begins = begins c; ends = ends above c };
    left = λ key n c f. let p = j.left key n c f in (p.0, owner_in_range key (range_of maps mappings m shards next job j key n c) ∙ p.1, p.2, p.3);
    numbered = j.numbered;
  }

  batch_at_stays : (end : High) (location : Text) → BatchAt mappings job end location → BatchAt after job end location
  batch_at_stays end location b = record {
    above = b.above;
    within = b.within;
    low = b.low;
    at_cursor = b.at_cursor;
    piece = b.piece;
    stands = piece_stays b.piece b.stands b.of_map b.low (cursor_in_range maps mappings m shards next job j b.low end b.at_cursor b.above b.within)
        (subst (λ s. IsTrue (contains s b.low)) (sym b.span) (subst (λ s. IsTrue (contains s (low_of s))) b.span (low_in maps b.piece.map b.piece.span (m.spans b.piece b.stands))));
    of_map = b.of_map;
    span = b.span;
    offline = b.offline;
    at_site = b.at_site;
  }

  pub batch_stays : (locations : List Text) (away : AwaySites) → IsBatch locations away mappings job job.phase → IsBatch locations away after job job.phase
  batch_stays locations away = by job.phase
    where
      by : (f : Phase) → IsBatch locations away mappings job f → IsBatch locations away after job f
      by Idle h = h
      by (Copying end) h = (batch_at_stays end job.source h.0, h.1, h.2)
      by (Moved end) h = (batch_at_stays end job.target h.0, h.1, h.2)
