-- The commit of a step of a job: what is said of jobs and rows stays.
use Rattle.std.proofs.Common.{◌≡◌, ℕ, true, false, not, refl, sym, ap, ◌∙◌, subst, Some, inl, inr, true≢false, List, [], ◌∷◌, ◌&&◌}
use Rattle.std.specs.Prelude.{IsTrue}
use Rattle.std.specs.FinMap as map
use Rattle.std.proofs.lemmas.Option.{same_Some}
use Rattle.std.proofs.lemmas.Bool.{and_parts, and_from, cases_Bool}
use Rattle.cell_world.specs.Texts.{Text}
use Rattle.cell_world.specs.Lists.{IsOneOf}
use Rattle.cell_world.specs.Keys.{below, at_most, before, contains, end_below, low_of}
use Rattle.cell_world.specs.KeyForms.{is_normal, is_normal_end, is_span_of}
use Rattle.cell_world.specs.Spelled.{listed}
use Rattle.cell_world.specs.Stores.{Maps, Shards, Mappings, AwaySites, Rows, exchanged}
use Rattle.cell_world.specs.Plain.{Owner, owner_in}
use Rattle.cell_world.specs.Jobs.{ends_at}
use Rattle.cell_world.specs.Lawful.{HasShape, Cuts, IsAttached}
use Rattle.cell_world.specs.Sound.{HasPiece, IsKeyOf, IsOwnedAs, JobCells, IsCutOff, BatchAt, IsBatch, front_of, AreMappings}
use Rattle.cell_world.specs.declared.operations.Piece.{Piece}
use Rattle.cell_world.specs.declared.operations.Op.{Op}
use Rattle.cell_world.specs.declared.operations.JobRow.{JobRow}
use Rattle.cell_world.specs.declared.operations.Phase.{Phase}
use Rattle.cell_world.specs.declared.operations.Phase.TheVariants.{Idle, Copying, Moved}
use Rattle.cell_world.specs.declared.cells.Status.{Status}
use Rattle.cell_world.specs.declared.cells.Status.TheVariants.{Online, Offline}
use Rattle.cell_world.specs.declared.cells.MapKind.{MapKind}
use Rattle.cell_world.specs.declared.cells.MapKind.TheVariants as kind
use Rattle.cell_world.specs.declared.cells.KeyType.{KeyType}
use Rattle.cell_world.specs.declared.spans.High.{High}
use Rattle.cell_world.specs.declared.spans.High.TheVariants.{At}
use Rattle.cell_world.specs.declared.spans.Span.TheVariants.{Range}
use Rattle.cell_world.proofs.SpanLaws.{at_most_antisymm}
use Rattle.image_laws.specs.Fits.{IsFit}
use Rattle.image_laws.proofs.FitLaws.{exchange, owner_stays, owner_was_old, new_owns, low_in}
use Rattle.image_laws.proofs.JobKinds.{MergeStep, SplitStep, BatchStep, BatchKind, Off, Move, On, end_trans}
use Rattle.image_laws.proofs.JobRange.{InRange, in_span, key_of, range_of, cursor_in_range, not_and, before_within}
use Rattle.image_laws.proofs.JobTable.{ends_at_range, end_not_below, end_not_self, same_end_self}
use Rattle.image_laws.proofs.ShapeLaws.{below_or, not_back, not_below_self}
use Rattle.image_laws.proofs.ShapeRows.{HaveToken}
use Rattle.image_laws.proofs.StepLists.{in_one, in_two, first_of, second_of, some_of}

module _ (maps : Maps) (mappings : Mappings) (m : AreMappings maps mappings) (op : Op) (fit : IsFit maps mappings op.map op.hull (listed op.olds) (listed op.news)) (tokens : HaveToken (listed op.olds) (listed op.news))
    (shards : Shards) (next : ℕ) (job : JobRow) (j : JobCells maps shards mappings next job) (of_map : op.map ≡ job.map) where
  abbrev olds : List Piece
  olds = listed op.olds

  abbrev news : List Piece
  news = listed op.news

  abbrev after : Mappings
  after = exchanged mappings olds news

  abbrev own : Owner
  own = owner_in maps mappings

  abbrev own_after : Owner
  own_after = owner_in maps after

  abbrev Key : Text → Type 0
  Key key = InRange maps mappings m shards next job j key

  -- ---- owners

  -- a key outside the hull keeps its owner
  pub outside : (key : Text) → contains op.hull key ≡ false → own_after job.map key ≡ own job.map key
  outside key out = owner_stays maps mappings m op.map op.hull olds news fit job.map key (λ e x. true≢false (sym x ∙ out))

  -- a key of the hull has a new one as owner, where there are news
  pub owned_new : (key : Text) → Key key → (n : Piece) → IsOneOf news n → IsTrue (contains n.span key) → own_after job.map key ≡ Some n
  owned_new key h n among holds =
      subst (λ name. own_after name key ≡ Some n) of_map (new_owns maps mappings m op.map op.hull olds news fit n among key (subst (λ name. IsKeyOf maps name key) (sym of_map) (key_of maps mappings m shards next job j key h)) holds)

  pub owner_old : (key : Text) (p : Piece) → contains op.hull key ≡ true → own job.map key ≡ Some p → IsOneOf olds p
  owner_old key p inside e = owner_was_old maps mappings m op.map op.hull olds news fit p key inside (subst (λ name. own name key ≡ Some p) (sym of_map) e)

  -- Every key of the range has an owner with the job's token.
  pub tokens_stay : ((news ≡ []) → ⊥) → (key : Text) → IsTrue (is_normal j.type key) → IsTrue (contains (Range job.low job.high) key) → (p : Piece) × (own_after job.map key ≡ Some p) × (p.token ≡ Some (record { 0 = job.number }))
  tokens_stay some key n c =
      let p = j.tokens key n c in
      elim (cases_Bool (contains op.hull key)) [
        | inr out ↦ (p.0, outside key out ∙ p.1, p.2)
        | inl inside ↦ elim (fit.shaped.in_news key inside) [
          | inl s ↦ (s.piece, owned_new key (range_of maps mappings m shards next job j key n c) s.piece s.among s.holds, tokens.of_new s.piece s.among ∙ sym (tokens.of_old p.0 (owner_old key p.0 inside p.1)) ∙ p.2)
          | inr none ↦ absurd (some none)
        ]
      ]

  new_stands : (n : Piece) → IsOneOf news n → HasPiece after n
  new_stands = (exchange maps mappings m op.map op.hull olds news fit).new

  new_of_map : (n : Piece) → IsOneOf news n → n.map ≡ job.map
  new_of_map n h = fit.new_map n h ∙ of_map

  -- ---- a cut: merge or split

  -- the news are where the olds were, and have their status
  pub record StayPut : Type 0 where
    pub some : (news ≡ []) → ⊥
    pub location : (o : Piece) → IsOneOf olds o → (n : Piece) → IsOneOf news n → n.location ≡ o.location
    pub status : (o : Piece) → IsOneOf olds o → (n : Piece) → IsOneOf news n → n.status ≡ o.status
    -- where an old begins at lo a new one does, and where an old ends at the cursor a new one does
    pub begins : (o : Piece) → IsOneOf olds o → low_of o.span ≡ job.low → (n : Piece) × IsOneOf news n × (low_of n.span ≡ job.low)
    pub ends : (o : Piece) → IsOneOf olds o → IsTrue (ends_at job.cursor o.span) → (n : Piece) × IsOneOf news n × IsTrue (ends_at job.cursor n.span)

  owned_as : StayPut → (key location : Text) (status : Status) → Key key → IsOwnedAs own job.map key location status → IsOwnedAs own_after job.map key location status
  owned_as put key location status h p = elim (cases_Bool (contains op.hull key)) [
    | inr out ↦ (p.0, outside key out ∙ p.1, p.2, p.3)
    | inl inside ↦ elim (fit.shaped.in_news key inside) [
      | inl s ↦
          let old = owner_old key p.0 inside p.1 in
          (s.piece, owned_new key h s.piece s.among s.holds, put.location p.0 old s.piece s.among ∙ p.2, put.status p.0 old s.piece s.among ∙ p.3)
      | inr none ↦ absurd (put.some none)
    ]
  ]

  pub cut_cells : StayPut → JobCells maps shards after next job
  cut_cells put = record {
    type = j.type;
    range_map = j.range_map;
    range = j.range;
    cursor_form = j.cursor_form;
    target = j.target;
    source = j.source;
    from_low = j.from_low;
    to_high = j.to_high;
    tokens = tokens_stay put.some;
    done = λ key n c.
        let both = and_parts (at_most job.low key) (before key job.cursor) c in
        owned_as put key job.target Online (record { normal = n; from = both.0; to = before_within key job.cursor job.high both.1 j.to_high }) (j.done key n c);
    cut_off = λ above. let c = j.cut_off above in record { begins = begins c.begins; ends = ends c.ends };
    left = λ key n c f. owned_as put key job.source Online (range_of maps mappings m shards next job j key n c) (j.left key n c f);
    numbered = j.numbered;
  }
    where
      begins : (p : Piece) × HasPiece mappings p × (p.map ≡ job.map) × (low_of p.span ≡ job.low) → (p : Piece) × HasPiece after p × (p.map ≡ job.map) × (low_of p.span ≡ job.low)
      begins p = elim ((exchange maps mappings m op.map op.hull olds news fit).kept p.0 p.1) [
        | inl old ↦ let n = put.begins p.0 old p.3 in (n.0, new_stands n.0 n.1, new_of_map n.0 n.1, n.2)
        | inr stays ↦ (p.0, stays, p.2, p.3)
      ]

      ends : (p : Piece) × HasPiece mappings p × (p.map ≡ job.map) × IsTrue (ends_at job.cursor p.span) → (p : Piece) × HasPiece after p × (p.map ≡ job.map) × IsTrue (ends_at job.cursor p.span)
      ends p = elim ((exchange maps mappings m op.map op.hull olds news fit).kept p.0 p.1) [
        | inl old ↦ let n = put.ends p.0 old p.3 in (n.0, new_stands n.0 n.1, new_of_map n.0 n.1, n.2)
        | inr stays ↦ (p.0, stays, p.2, p.3)
      ]

  module _ (rows : Text → Rows) (shape : HasShape rows olds news) where
    pub split_put : SplitStep job olds news op.extra → StayPut
    split_put s = record {
      some = some_of news s.low (s.high ∷ []) s.new_are;
      location = in_one olds s.whole s.old_are (λ o. (n : Piece) → IsOneOf news n → n.location ≡ o.location) (in_two news s.low s.high s.new_are (λ n. n.location ≡ s.whole.location) (ap (λ (p : Piece). p.location) c.lower) (ap (λ (p : Piece). p.location) c.upper));
      status = in_one olds s.whole s.old_are (λ o. (n : Piece) → IsOneOf news n → n.status ≡ o.status) (in_two news s.low s.high s.new_are (λ n. n.status ≡ s.whole.status) (ap (λ (p : Piece). p.status) c.lower) (ap (λ (p : Piece). p.status) c.upper));
      begins = in_one olds s.whole s.old_are (λ o. low_of o.span ≡ job.low → (n : Piece) × IsOneOf news n × (low_of n.span ≡ job.low))
          (λ e. (s.low, first_of news s.low (s.high ∷ []) s.new_are, ap (λ (p : Piece). low_of p.span) c.lower ∙ sym (ap low_of c.range) ∙ e));
      ends = in_one olds s.whole s.old_are (λ o. IsTrue (ends_at job.cursor o.span) → (n : Piece) × IsOneOf news n × IsTrue (ends_at job.cursor n.span))
          (λ e. (s.high, second_of news s.low s.high s.new_are, ap (λ (p : Piece). ends_at job.cursor p.span) c.upper ∙ subst (λ x. IsTrue (ends_at job.cursor x)) c.range e));
    }
      where
        c : Cuts s.whole s.low s.high
        c = subst (λ (l : List Piece × List Piece). HasShape rows l.0 l.1) (λ i. (s.old_are i, s.new_are i)) shape

    pub merge_put : MergeStep job olds news op.extra → StayPut
    merge_put s = record {
      some = some_of news s.whole [] s.new_are;
      location = in_two olds s.low s.high s.old_are (λ o. (n : Piece) → IsOneOf news n → n.location ≡ o.location)
          (in_one news s.whole s.new_are (λ n. n.location ≡ s.low.location) (sym (ap (λ (p : Piece). p.location) c.lower)))
          (in_one news s.whole s.new_are (λ n. n.location ≡ s.high.location) (sym (ap (λ (p : Piece). p.location) c.upper)));
      status = in_two olds s.low s.high s.old_are (λ o. (n : Piece) → IsOneOf news n → n.status ≡ o.status)
          (in_one news s.whole s.new_are (λ n. n.status ≡ s.low.status) (sym (ap (λ (p : Piece). p.status) c.lower)))
          (in_one news s.whole s.new_are (λ n. n.status ≡ s.high.status) (sym (ap (λ (p : Piece). p.status) c.upper)));
      begins = in_two olds s.low s.high s.old_are (λ o. low_of o.span ≡ job.low → (n : Piece) × IsOneOf news n × (low_of n.span ≡ job.low))
          (λ e. (s.whole, first_of news s.whole [] s.new_are, ap low_of c.range ∙ sym (ap (λ (p : Piece). low_of p.span) c.lower) ∙ e))
          (λ e. absurd (not_below_self job.low (subst (λ x. below job.low x ≡ true) e s.above)));
      ends = in_two olds s.low s.high s.old_are (λ o. IsTrue (ends_at job.cursor o.span) → (n : Piece) × IsOneOf news n × IsTrue (ends_at job.cursor n.span))
          (λ e. absurd (low_ends e))
          (λ e. (s.whole, first_of news s.whole [] s.new_are, ap (ends_at job.cursor) c.range ∙ sym (ap (λ (p : Piece). ends_at job.cursor p.span) c.upper) ∙ e));
    }
      where
        c : Cuts s.whole s.low s.high
        c = subst (λ (l : List Piece × List Piece). HasShape rows l.0 l.1) (λ i. (s.old_are i, s.new_are i)) shape

        -- the lower one ends where the higher one begins, below the cursor
        low_ends : IsTrue (ends_at job.cursor s.low.span) → ⊥
        low_ends e =
            let high_old = second_of olds s.low s.high s.old_are in
            let high_low = low_in maps s.high.map s.high.span (m.spans s.high (fit.stand s.high high_old)) in
            let r = ends_at_range job.cursor s.high.span s.ends in
            let at : job.cursor ≡ At c.key = cursor_is e in
            let low_is : low_of s.high.span ≡ c.key = ap (λ (p : Piece). low_of p.span) c.upper in
            let range_low : r.0 ≡ c.key = sym (ap low_of r.1) ∙ low_is in
            let inside : IsTrue (contains (Range r.0 job.cursor) r.0) = subst (λ x. IsTrue (contains x (low_of x))) r.1 high_low in
            let lower : before r.0 job.cursor ≡ true = (and_parts (at_most r.0 r.0) (before r.0 job.cursor) inside).1 in
            not_below_self c.key (subst (λ x. before x (At c.key) ≡ true) range_low (subst (λ x. before r.0 x ≡ true) at lower))
          where
            cursor_is : IsTrue (ends_at job.cursor s.low.span) → job.cursor ≡ At c.key
            cursor_is e = let q = ends_at_range job.cursor s.low.span e in let both : Range q.0 job.cursor ≡ Range c.from (At c.key) = sym q.1 ∙ ap (λ (p : Piece). p.span) c.lower in cc

  -- ---- a batch: its mapping is exchanged

  module _ (b : BatchStep maps mappings job olds news op.extra) where
    pub old_among : IsOneOf olds b.old
    old_among = first_of olds b.old [] b.old_are

    pub new_among : IsOneOf news b.new
    new_among = first_of news b.new [] b.new_are

    pub low_key : Key b.low
    low_key = cursor_in_range maps mappings m shards next job j b.low b.end b.cursor b.above b.within

    -- the hull is the batch
    pub hull_in : (key : Text) → contains op.hull key ≡ true → IsTrue (contains (Range b.low b.end) key)
    hull_in key inside = elim (fit.shaped.in_olds key inside) [
      | inl s ↦ in_one olds b.old b.old_are (λ o. IsTrue (contains o.span key) → IsTrue (contains (Range b.low b.end) key)) (λ h. subst (λ x. IsTrue (contains x key)) b.span h) s.piece s.among s.holds
      | inr none ↦ absurd (some_of olds b.old [] b.old_are none)
    ]

    pub in_hull : (key : Text) → IsTrue (contains (Range b.low b.end) key) → IsTrue (contains op.hull key)
    in_hull key h = fit.shaped.old_in b.old old_among key (subst (λ x. IsTrue (contains x key)) (sym b.span) h)

    below_out : (key : Text) → before key job.cursor ≡ true → contains op.hull key ≡ false
    below_out key h = elim (cases_Bool (contains op.hull key)) [
      | inr t ↦ t
      | inl t ↦ absurd (not_back key b.low (subst (λ c. before key c ≡ true) b.cursor h) (and_parts (at_most b.low key) (before key b.end) (hull_in key t)).0)
    ]

    above_out : (key : Text) → not (before key b.end) ≡ true → contains op.hull key ≡ false
    above_out key h = elim (cases_Bool (contains op.hull key)) [
      | inr t ↦ t
      | inl t ↦ absurd (not_and (before key b.end) h (and_parts (at_most b.low key) (before key b.end) (hull_in key t)).1)
    ]

    pub new_span : b.new.span ≡ Range b.low b.end
    new_span = by b.kind ∙ b.span
      where
        by : BatchKind job b.end b.old b.new b.now → b.new.span ≡ b.old.span
        by (Off f n w) = ap (λ (p : Piece). p.span) n
        by (Move f s l n w) = ap (λ (p : Piece). p.span) n
        by (On f l n w) = ap (λ (p : Piece). p.span) n

    some_new : (news ≡ []) → ⊥
    some_new = some_of news b.new [] b.new_are

    begins_stay : end_below (At job.low) job.cursor ≡ true → IsCutOff mappings job → (p : Piece) × HasPiece after p × (p.map ≡ job.map) × (low_of p.span ≡ job.low)
    begins_stay above c = by c.begins
      where
        by : (p : Piece) × HasPiece mappings p × (p.map ≡ job.map) × (low_of p.span ≡ job.low) → (p : Piece) × HasPiece after p × (p.map ≡ job.map) × (low_of p.span ≡ job.low)
        by p = elim ((exchange maps mappings m op.map op.hull olds news fit).kept p.0 p.1) [
          | inr stays ↦ (p.0, stays, p.2, p.3)
          | inl old ↦
              let low_is : b.low ≡ job.low = in_one olds b.old b.old_are (λ o. low_of o.span ≡ job.low → b.low ≡ job.low) (λ e. sym (ap low_of b.span) ∙ e) p.0 old p.3 in
              absurd (not_below_self job.low (subst (λ x. below job.low x ≡ true) low_is (subst (λ x. end_below (At job.low) x ≡ true) b.cursor above)))
        ]

    ends_stay : IsCutOff mappings job → (p : Piece) × HasPiece after p × (p.map ≡ job.map) × IsTrue (ends_at job.cursor p.span)
    ends_stay c = by c.ends
      where
        by : (p : Piece) × HasPiece mappings p × (p.map ≡ job.map) × IsTrue (ends_at job.cursor p.span) → (p : Piece) × HasPiece after p × (p.map ≡ job.map) × IsTrue (ends_at job.cursor p.span)
        by p = elim ((exchange maps mappings m op.map op.hull olds news fit).kept p.0 p.1) [
          | inr stays ↦ (p.0, stays, p.2, p.3)
          | inl old ↦
              let ends : IsTrue (ends_at job.cursor (Range b.low b.end)) = in_one olds b.old b.old_are (λ o. IsTrue (ends_at job.cursor o.span) → IsTrue (ends_at job.cursor (Range b.low b.end))) (λ e. subst (λ x. IsTrue (ends_at job.cursor x)) b.span e) p.0 old p.3 in
              let r = ends_at_range job.cursor (Range b.low b.end) ends in
              let is : b.end ≡ job.cursor = (let e : Range b.low b.end ≡ Range r.0 job.cursor = r.1 in cc) in
              let none : end_below job.cursor job.cursor ≡ true = subst (λ x. end_below job.cursor x ≡ true) is b.above in
              absurd (not_and (end_below job.cursor job.cursor) (end_not_self job.cursor) none)
        ]

    -- the job's cells at another cursor and phase
    pub cells_at : (c : High) (f : Phase) → front_of (record job { cursor = c; phase = f }) ≡ b.end → IsTrue (is_normal_end j.type c) → IsTrue (not (end_below c (At job.low))) → IsTrue (not (end_below job.high c))
        → ((key : Text) → IsTrue (is_normal j.type key) → IsTrue (contains (Range job.low c) key) → IsOwnedAs own_after job.map key job.target Online)
        → (IsTrue (end_below (At job.low) c) → IsCutOff after (record job { cursor = c; phase = f }))
        → ((key : Text) → not (before key b.end) ≡ true → not (before key (front_of job)) ≡ true)
        → JobCells maps shards after next (record job { cursor = c; phase = f })
    cells_at c f front cursor_form from_low to_high done cut_off left_before = record {
      type = j.type;
      range_map = j.range_map;
      range = j.range;
      cursor_form = cursor_form;
      target = j.target;
      source = j.source;
      from_low = from_low;
      to_high = to_high;
      tokens = tokens_stay some_new;
      done = done;
      cut_off = cut_off;
      left = λ key n r past.
          let out = subst (λ x. not (before key x) ≡ true) front past in
          let p = j.left key n r (left_before key out) in
          (p.0, outside key (above_out key out) ∙ p.1, p.2, p.3);
      numbered = j.numbered;
    }

    -- where the cursor stays
    pub cells_same : (f : Phase) → front_of (record job { phase = f }) ≡ b.end → ((key : Text) → not (before key b.end) ≡ true → not (before key (front_of job)) ≡ true) → JobCells maps shards after next (record job { phase = f })
    cells_same f front left_before = cells_at job.cursor f front j.cursor_form j.from_low j.to_high
        (λ key n c. let p = j.done key n c in (p.0, outside key (below_out key (and_parts (at_most job.low key) (before key job.cursor) c).1) ∙ p.1, p.2, p.3))
        (λ above. let c = j.cut_off above in record { begins = begins_stay above c; ends = ends_stay c })
        left_before

    end_normal : IsTrue (is_normal_end j.type b.end)
    end_normal = let s = m.spans b.old (fit.stand b.old old_among) in
        by s.0 s.1 (subst (λ x. IsTrue (is_span_of s.0 s.1 x)) b.span s.3) (same_Some _ _ (sym s.2 ∙ ap (map.get maps) (fit.old_map b.old old_among ∙ of_map) ∙ j.range_map))
      where
        by : (k : MapKind) (t : KeyType) → IsTrue (is_span_of k t (Range b.low b.end)) → ◌≡◌ {A = MapKind × KeyType} (k, t) (kind.Range, j.type) → IsTrue (is_normal_end j.type b.end)
        by kind.Range t h e = subst (λ x. IsTrue (is_normal_end x b.end)) (ap (λ k. k.1) e) (and_parts (is_normal_end t b.end) (before b.low b.end) (and_parts (is_normal t b.low) (is_normal_end t b.end && before b.low b.end) h).1).0
        by kind.List t h e = cc

    -- where it moves to the batch's end
    pub cells_moved : b.new.location ≡ job.target → b.new.status ≡ Online → ((key : Text) → not (before key b.end) ≡ true → not (before key (front_of job)) ≡ true)
        → JobCells maps shards after next (record job { cursor = b.end; phase = Idle })
    cells_moved there online left_before = cells_at b.end Idle refl end_normal (end_trans b.end job.cursor (At job.low) (end_not_below job.cursor b.end b.above) j.from_low) b.within done cut_off left_before
      where
        done : (key : Text) → IsTrue (is_normal j.type key) → IsTrue (contains (Range job.low b.end) key) → IsOwnedAs own_after job.map key job.target Online
        done key n c = elim (below_or key b.low) [
          | inl t ↦
              let lower : before key job.cursor ≡ true = subst (λ x. before key x ≡ true) (sym b.cursor) t in
              let p = j.done key n (and_from _ _ (and_parts (at_most job.low key) (before key b.end) c).0 lower) in
              (p.0, outside key (below_out key lower) ∙ p.1, p.2, p.3)
          | inr t ↦
              let both = and_parts (at_most job.low key) (before key b.end) c in
              (b.new, owned_new key (record { normal = n; from = both.0; to = before_within key b.end job.high both.1 b.within }) b.new new_among (subst (λ x. IsTrue (contains x key)) (sym new_span) (and_from _ _ t both.1)), there, online)
        ]

        cut_off : IsTrue (end_below (At job.low) b.end) → IsCutOff after (record job { cursor = b.end; phase = Idle })
        cut_off above = record {
          begins = elim (below_or job.low b.low) [
            | inl t ↦ let lower : end_below (At job.low) job.cursor ≡ true = subst (λ x. before job.low x ≡ true) (sym b.cursor) t in begins_stay lower (j.cut_off lower)
            | inr t ↦ (b.new, new_stands b.new new_among, new_of_map b.new new_among, ap low_of new_span ∙ at_most_antisymm b.low job.low t low_key.from)
          ];
          ends = (b.new, new_stands b.new new_among, new_of_map b.new new_among, ap (ends_at b.end) new_span ∙ same_end_self b.end);
        }

    -- the batch in progress
    pub batch_at : (c : High) (f : Phase) (location : Text) → c ≡ job.cursor → b.new.location ≡ location → b.new.status ≡ Offline → BatchAt after (record job { cursor = c; phase = f }) b.end location
    batch_at c f location is there offline = record {
      above = subst (λ x. IsTrue (end_below x b.end)) (sym is) b.above;
      within = b.within;
      low = b.low;
      at_cursor = is ∙ b.cursor;
      piece = b.new;
      stands = new_stands b.new new_among;
      of_map = new_of_map b.new new_among;
      span = new_span;
      offline = offline;
      at_site = there;
    }

    -- from where on the job has moved nothing
    pub front_before : (key : Text) → not (before key b.end) ≡ true → not (before key (front_of job)) ≡ true
    front_before key h = by b.kind
      where
        at_cursor : not (before key job.cursor) ≡ true
        at_cursor = elim (cases_Bool (before key job.cursor)) [
          | inr t ↦ ap not t
          | inl t ↦ absurd (not_and (before key b.end) h (before_within key job.cursor b.end t (end_not_below job.cursor b.end b.above)))
        ]

        by : BatchKind job b.end b.old b.new b.now → not (before key (front_of job)) ≡ true
        by (Off f n w) = subst (λ x. not (before key (front_of (record job { phase = x }))) ≡ true) (sym f) at_cursor
        by (Move f s l n w) = subst (λ x. not (before key (front_of (record job { phase = x }))) ≡ true) (sym f) h
        by (On f l n w) = subst (λ x. not (before key (front_of (record job { phase = x }))) ≡ true) (sym f) h

    -- before its offline the batch is at the source
    pub at_source : job.phase ≡ Idle → b.old.location ≡ job.source
    at_source idle =
        let front : not (before b.low (front_of job)) ≡ true = subst (λ x. not (before b.low (front_of (record job { phase = x }))) ≡ true) (sym idle) (subst (λ x. not (before b.low x) ≡ true) (sym b.cursor) (end_not_self (At b.low))) in
        let p = j.left b.low low_key.normal (in_span maps mappings m shards next job j b.low low_key) front in
        let is : p.0 ≡ b.old = same_Some p.0 b.old (sym p.1 ∙ b.owner) in
        sym (ap (λ (x : Piece). x.location) is) ∙ p.2

    -- the job's cells after the commit
    pub batch_cells : JobCells maps shards after next b.now
    batch_cells = by b.kind
      where
        by : BatchKind job b.end b.old b.new b.now → JobCells maps shards after next b.now
        by (Off f n w) = subst (λ x. JobCells maps shards after next x) (sym w) (cells_same (Copying b.end) refl front_before)
        by (Move f s l n w) = subst (λ x. JobCells maps shards after next x) (sym w) (cells_same (Moved b.end) refl front_before)
        by (On f l n w) = subst (λ x. JobCells maps shards after next x) (sym w) (cells_moved (ap (λ (x : Piece). x.location) n ∙ l) (ap (λ (x : Piece). x.status) n) front_before)

    -- and its batch in progress
    pub batch_progress : (locations : List Text) (away : AwaySites) → IsAttached locations away job.source × IsAttached locations away job.target → IsBatch locations away after b.now b.now.phase
    batch_progress locations away sites = by b.kind
      where
        by : BatchKind job b.end b.old b.new b.now → IsBatch locations away after b.now b.now.phase
        by (Off f n w) = subst (λ x. IsBatch locations away after x x.phase) (sym w) (batch_at job.cursor (Copying b.end) job.source refl (ap (λ (x : Piece). x.location) n ∙ at_source f) (ap (λ (x : Piece). x.status) n), sites.0, sites.1)
        by (Move f s l n w) = subst (λ x. IsBatch locations away after x x.phase) (sym w) (batch_at job.cursor (Moved b.end) job.target refl (ap (λ (x : Piece). x.location) n) (ap (λ (x : Piece). x.status) n ∙ s), sites.0, sites.1)
        by (On f l n w) = subst (λ x. IsBatch locations away after x x.phase) (sym w) tt
