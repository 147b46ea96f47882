-- A change of mappings that leaves those with keys of a job's range: it leaves what is said of the job, and its next step.
use Rattle.std.proofs.Common.{◌≡◌, ◌⊎◌, ◌<◌, ℕ, true, false, cond, not, refl, sym, ap, ◌∙◌, subst, Some, None, Option, inl, inr, true≢false, List, option_map}
use Rattle.std.specs.Prelude.{IsTrue, option_and_then}
use Rattle.std.proofs.lemmas.Bool.{and_parts, cases_Bool}
use Rattle.cell_world.specs.Texts.{Text}
use Rattle.cell_world.specs.Keys.{below, at_most, before, contains, end_below, same_end, low_of}
use Rattle.cell_world.specs.KeyForms.{is_normal_end}
use Rattle.cell_world.specs.Stores.{Maps, Shards, Mappings, AwaySites}
use Rattle.cell_world.specs.Plain.{owner_in, Owner}
use Rattle.cell_world.specs.Jobs.{TableRow, Always, UpTo, ends_at, ending_at, merge_due, merge_of, idle_row, cursor_row, cursor_piece, at_cursor, or_stuck, table_row, move_of, online_of, Finish, IsBatchEnd, batch_limit, Gives, Replace}
use Rattle.cell_world.specs.Sound.{HasPiece, JobCells, IsCutOff, IsBatch, BatchAt}
use Rattle.cell_world.specs.declared.operations.Piece.{Piece}
use Rattle.cell_world.specs.declared.operations.JobRow.{JobRow}
use Rattle.cell_world.specs.declared.operations.Extra.{Extra}
use Rattle.cell_world.specs.declared.operations.Phase.{Phase}
use Rattle.cell_world.specs.declared.operations.Phase.TheVariants.{Idle, Copying, Moved}
use Rattle.cell_world.specs.declared.spans.High.{High}
use Rattle.cell_world.specs.declared.spans.High.TheVariants.{At, Max}
use Rattle.cell_world.specs.declared.spans.Span.TheVariants.{Range}
use Rattle.cell_world.proofs.SpanLaws.{at_most_before}
use Rattle.image_laws.proofs.OwnerLaws.{owner_is, owner_stands}
use Rattle.cell_world.specs.Sound.{AreMappings}
use Rattle.image_laws.proofs.FitLaws.{low_in}
use Rattle.image_laws.proofs.ShapeLaws.{below_or, below_at_most, not_back}
use Rattle.image_laws.proofs.JobRange.{InRange, in_span, key_of, range_of, low_in_range, cursor_in_range, not_and, before_within, ends_in}
use Rattle.image_laws.proofs.JobTable.{ending_stands, ending_is, ends_at_range, end_cases, same_end_self, limit_within}

module _ (maps : Maps) (before_maps after : Mappings) (m : AreMappings maps before_maps) (after_ok : AreMappings maps after) (shards : Shards) (next : ℕ) (job : JobRow) (j : JobCells maps shards before_maps next job)
    (stays : (p : Piece) → HasPiece before_maps p → p.map ≡ job.map → (key : Text) → InRange maps before_maps m shards next job j key → IsTrue (contains p.span key) → HasPiece after p)
    (stood : (p : Piece) → HasPiece after p → p.map ≡ job.map → (key : Text) → InRange maps before_maps m shards next job j key → IsTrue (contains p.span key) → HasPiece before_maps p) where
  abbrev mappings : Mappings
  mappings = before_maps

  abbrev Range_of : Text → Type 0
  Range_of key = InRange maps mappings m shards next job j key

  abbrev own : Owner
  own = owner_in maps mappings

  abbrev own_after : Owner
  own_after = owner_in maps after

  pub owner_in_range : (key : Text) → Range_of key → own_after job.map key ≡ own job.map key
  owner_in_range key h =
      let p = j.tokens key h.normal (in_span maps mappings m shards next job j key h) in
      let s = owner_stands maps mappings m.placed job.map key p.0 p.1 in
      owner_is maps after after_ok.placed job.map key after_ok.disjoint (key_of maps mappings m shards next job j key h) p.0 (stays p.0 s.0 s.1 key h s.2) s.1 s.2 ∙ sym p.1

  -- ---- its cells

  begins : IsCutOff mappings job → (p : Piece) × HasPiece after p × (p.map ≡ job.map) × (low_of p.span ≡ job.low)
  begins c =
      let p = c.begins in
      (p.0, stays p.0 p.1 p.2 job.low (low_in_range maps mappings m shards next job j) (subst (λ k. IsTrue (contains p.0.span k)) p.3 (low_in maps p.0.map p.0.span (m.spans p.0 p.1))), p.2, p.3)

  ends : IsTrue (end_below (At job.low) job.cursor) → IsCutOff mappings job → (p : Piece) × HasPiece after p × (p.map ≡ job.map) × IsTrue (ends_at job.cursor p.span)
  ends above c =
      let p = c.ends in
      let k = ends_in maps mappings m shards next job j mappings m p.0 p.1 p.2 job.cursor p.3 above j.to_high in
      (p.0, stays p.0 p.1 p.2 k.0 k.1 k.2, p.2, p.3)

  -- The job's cells stay, with a next number that isn't less.
  pub cells_stay : (later : ℕ) → job.number < later → JobCells maps shards after later job
  cells_stay later numbered = record {
    type = j.type;
    range_map = j.range_map;
    range = j.range;
    cursor_form = j.cursor_form;
    target = j.target;
    source = j.source;
    from_low = j.from_low;
    to_high = j.to_high;
    tokens = λ key n c. let p = j.tokens key n c in (p.0, owner_in_range key (range_of maps mappings m shards next job j key n c) ∙ p.1, p.2);
    done = λ key n c.
        let both = and_parts (at_most job.low key) (before key job.cursor) c in
        let p = j.done key n c in
        (p.0, owner_in_range key (record { normal = n; from = both.0; to = before_within key job.cursor job.high both.1 j.to_high }) ∙ p.1, p.2, p.3);
    cut_off = λ above. let c = j.cut_off above in record { begins = begins c; ends = ends above c };
    left = λ key n c f. let p = j.left key n c f in (p.0, owner_in_range key (range_of maps mappings m shards next job j key n c) ∙ p.1, p.2, p.3);
    numbered = numbered;
  }

  batch_at_stays : (end : High) (location : Text) → BatchAt mappings job end location → BatchAt after job end location
  batch_at_stays end location b = record {
    above = b.above;
    within = b.within;
    low = b.low;
    at_cursor = b.at_cursor;
    piece = b.piece;
    stands = stays b.piece b.stands b.of_map b.low (cursor_in_range maps mappings m shards next job j b.low end b.at_cursor b.above b.within)
        (subst (λ s. IsTrue (contains s b.low)) (sym b.span) (subst (λ s. IsTrue (contains s (low_of s))) b.span (low_in maps b.piece.map b.piece.span (m.spans b.piece b.stands))));
    of_map = b.of_map;
    span = b.span;
    offline = b.offline;
    at_site = b.at_site;
  }

  pub progress_stays : (locations : List Text) (away : AwaySites) → IsBatch locations away mappings job job.phase → IsBatch locations away after job job.phase
  progress_stays locations away = by job.phase
    where
      by : (f : Phase) → IsBatch locations away mappings job f → IsBatch locations away after job f
      by Idle h = h
      by (Copying end) h = (batch_at_stays end job.source h.0, h.1, h.2)
      by (Moved end) h = (batch_at_stays end job.target h.0, h.1, h.2)

  -- ---- its table

  ending_stays : (end : High) → IsTrue (end_below (At job.low) end) → IsTrue (not (end_below job.high end)) → ending_at after job.map end ≡ ending_at mappings job.map end
  ending_stays end above within = by (ending_at mappings job.map end) refl
    where
      by : (o : Option Piece) → ending_at mappings job.map end ≡ o → ending_at after job.map end ≡ ending_at mappings job.map end
      by (Some p) e =
          let s = ending_stands maps mappings m job.map end p e in
          let k = ends_in maps mappings m shards next job j mappings m p s.0 s.1 end s.2 above within in
          ending_is maps after after_ok job.map end p (stays p s.0 s.1 k.0 k.1 k.2) s.1 s.2 ∙ sym e
      by None e = none (ending_at after job.map end) refl
        where
          none : (o : Option Piece) → ending_at after job.map end ≡ o → ending_at after job.map end ≡ ending_at mappings job.map end
          none None f = f ∙ sym e
          none (Some q) f =
              let s = ending_stands maps after after_ok job.map end q f in
              let k = ends_in maps mappings m shards next job j after after_ok q s.0 s.1 end s.2 above within in
              f ∙ sym (ending_is maps mappings m job.map end q (stood q s.0 s.1 k.0 k.1 k.2) s.1 s.2)

  abbrev due : Mappings → Piece → Option TableRow
  due ms p = cond (below job.low (low_of p.span)) (Some (or_stuck (option_map (λ earlier. Always (merge_of earlier p)) (ending_at ms job.map (At (low_of p.span)))))) None

  low_before : (ms : Mappings) → AreMappings maps ms → (p : Piece) → ending_at ms job.map job.cursor ≡ Some p → before (low_of p.span) job.cursor ≡ true
  low_before ms ok p e =
      let s = ending_stands maps ms ok job.map job.cursor p e in
      let r = ends_at_range job.cursor p.span s.2 in
      let low : IsTrue (contains (Range r.0 job.cursor) r.0) = subst (λ x. IsTrue (contains x (low_of x))) r.1 (low_in maps p.map p.span (ok.spans p s.0)) in
      subst (λ x. before (low_of x) job.cursor ≡ true) (sym r.1) (and_parts (at_most r.0 r.0) (before r.0 job.cursor) low).1

  none_due : (ms : Mappings) → AreMappings maps ms → before job.low job.cursor ≡ false → merge_due ms job ≡ None
  none_due ms ok low = by (ending_at ms job.map job.cursor) refl
    where
      by : (o : Option Piece) → ending_at ms job.map job.cursor ≡ o → merge_due ms job ≡ None
      by None e = ap (option_and_then (due ms)) e
      by (Some p) e = ap (option_and_then (due ms)) e ∙ elim (cases_Bool (below job.low (low_of p.span))) [
        | inl t ↦ absurd (true≢false (sym (at_most_before job.low (low_of p.span) job.cursor (below_at_most job.low (low_of p.span) t) (low_before ms ok p e)) ∙ low))
        | inr t ↦ ap (λ b. cond b (Some (or_stuck (option_map (λ earlier. Always (merge_of earlier p)) (ending_at ms job.map (At (low_of p.span)))))) None) t
      ]

  within_of : (key : Text) → before key job.cursor ≡ true → IsTrue (not (end_below job.high (At key)))
  within_of key h = by job.high (before_within key job.cursor job.high h j.to_high)
    where
      by : (e : High) → before key e ≡ true → not (end_below e (At key)) ≡ true
      by Max t = refl
      by (At x) t = elim (cases_Bool (below x key)) [
        | inl u ↦ absurd (not_back key x t (below_at_most x key u))
        | inr u ↦ ap not u
      ]

  pub merge_stays : merge_due after job ≡ merge_due mappings job
  merge_stays = elim (cases_Bool (before job.low job.cursor)) [
    | inr low ↦ none_due after after_ok low ∙ sym (none_due mappings m low)
    | inl above ↦ ap (option_and_then (due after)) (ending_stays job.cursor above j.to_high) ∙ by (ending_at mappings job.map job.cursor) refl
  ]
    where
      by : (o : Option Piece) → ending_at mappings job.map job.cursor ≡ o → option_and_then (due after) o ≡ option_and_then (due mappings) o
      by None e = refl
      by (Some p) e = elim (cases_Bool (below job.low (low_of p.span))) [
        | inl t ↦ ap (λ o. cond (below job.low (low_of p.span)) (Some (or_stuck (option_map (λ earlier. Always (merge_of earlier p)) o))) None) (ending_stays (At (low_of p.span)) t (within_of (low_of p.span) (low_before mappings m p e)))
        | inr t ↦ ap (λ b. cond b (Some (or_stuck (option_map (λ earlier. Always (merge_of earlier p)) (ending_at after job.map (At (low_of p.span)))))) None) t
            ∙ sym (ap (λ b. cond b (Some (or_stuck (option_map (λ earlier. Always (merge_of earlier p)) (ending_at mappings job.map (At (low_of p.span)))))) None) t)
      ]

  cursor_normal : (key : Text) → job.cursor ≡ At key → before key job.high ≡ true → Range_of key
  cursor_normal key e to = record {
    normal = subst (λ c. IsTrue (is_normal_end j.type c)) e j.cursor_form;
    from = elim (below_or key job.low) [
      | inl b ↦ absurd (not_and (below key job.low) (subst (λ c. IsTrue (not (end_below c (At job.low)))) e j.from_low) b)
      | inr b ↦ b
    ];
    to = to;
  }

  cursor_owner : (key : Text) → job.cursor ≡ At key → before key job.high ≡ true → own_after job.map key ≡ own job.map key
  cursor_owner key e to = owner_in_range key (cursor_normal key e to)

  at_high_or : (same_end job.cursor job.high ≡ true) ⊎ ((key : Text) → job.cursor ≡ At key → before key job.high ≡ true)
  at_high_or = elim (end_cases job.cursor job.high) [
    | inl b ↦ inr (λ key e. subst (λ c. end_below c job.high ≡ true) e b)
    | inr r ↦ elim r [
      | inl e ↦ inl (subst (λ x. same_end job.cursor x ≡ true) e (same_end_self job.cursor))
      | inr b ↦ absurd (not_and (end_below job.high job.cursor) j.to_high b)
    ]
  ]

  piece_alike : (x : JobRow) → x.map ≡ job.map → ((key : Text) → x.cursor ≡ At key → own_after job.map key ≡ own job.map key) → cursor_piece own_after x ≡ cursor_piece own x
  piece_alike x name same_own = by x.cursor refl
    where
      by : (c : High) → x.cursor ≡ c → cursor_piece own_after x ≡ cursor_piece own x
      by (At key) e = subst (λ (y : JobRow). cursor_piece own_after y ≡ cursor_piece own y) (λ i. record x { cursor = sym e i }) (ap (λ n. own_after n key) name ∙ same_own key e ∙ ap (λ n. own n key) (sym name))
      by Max e = subst (λ (y : JobRow). cursor_piece own_after y ≡ cursor_piece own y) (λ i. record x { cursor = sym e i }) refl

  row_alike : (x : JobRow) → x.map ≡ job.map → ((key : Text) → x.cursor ≡ At key → own_after job.map key ≡ own job.map key) → cursor_row own_after x ≡ cursor_row own x
  row_alike x name same_own = by x.cursor refl
    where
      by : (c : High) → x.cursor ≡ c → cursor_row own_after x ≡ cursor_row own x
      by (At key) e = subst (λ (y : JobRow). cursor_row own_after y ≡ cursor_row own y) (λ i. record x { cursor = sym e i })
          (ap (λ o. or_stuck (option_map (at_cursor (record x { cursor = At key }) key) o)) (ap (λ n. own_after n key) name ∙ same_own key e ∙ ap (λ n. own n key) (sym name)))
      by Max e = subst (λ (y : JobRow). cursor_row own_after y ≡ cursor_row own y) (λ i. record x { cursor = sym e i }) refl

  batch_end_stays : (end : High) → IsBatchEnd own job end → IsBatchEnd own_after job end
  batch_end_stays end b = record {
    above = b.above;
    piece = b.piece;
    owned = piece_alike job refl (λ key e. cursor_owner key e
        (before_within key (batch_limit job b.piece) job.high (before_within key end (batch_limit job b.piece) (subst (λ c. end_below c end ≡ true) e b.above) b.within) (limit_within job b.piece))) ∙ b.owned;
    within = b.within;
  }

  batch_cursor : (end : High) (location : Text) → BatchAt mappings job end location → (key : Text) → job.cursor ≡ At key → before key job.high ≡ true
  batch_cursor end location b key e = before_within key end job.high (subst (λ c. end_below c end ≡ true) e b.above) b.within

  pub table_stays : (locations : List Text) (away : AwaySites) → IsBatch locations away mappings job job.phase → table_row own_after after job ≡ table_row own mappings job
  table_stays locations away batch = by job.phase refl batch
    where
      at_phase : (f : Phase) → job.phase ≡ f → table_row own_after after (record job { phase = f }) ≡ table_row own mappings (record job { phase = f }) → table_row own_after after job ≡ table_row own mappings job
      at_phase f e h = subst (λ (x : JobRow). table_row own_after after x ≡ table_row own mappings x) (λ i. record job { phase = sym e i }) h

      idle : (o : Option TableRow) → idle_row own_after (record job { phase = Idle }) o ≡ idle_row own (record job { phase = Idle }) o
      idle (Some row) = refl
      idle None = elim at_high_or [
        | inl t ↦ ap (λ b. cond b (Always Finish) (cursor_row own_after (record job { phase = Idle }))) t ∙ sym (ap (λ b. cond b (Always Finish) (cursor_row own (record job { phase = Idle }))) t)
        | inr below_high ↦ ap (cond (same_end job.cursor job.high) (Always Finish)) (row_alike (record job { phase = Idle }) refl (λ key e. cursor_owner key e (below_high key e)))
      ]

      by : (f : Phase) → job.phase ≡ f → IsBatch locations away mappings job f → table_row own_after after job ≡ table_row own mappings job
      by Idle e b = at_phase Idle e (ap (idle_row own_after (record job { phase = Idle })) merge_stays ∙ idle (merge_due mappings job))
      by (Copying end) e b = at_phase (Copying end) e (ap (λ o. or_stuck (option_map (λ piece. Always (move_of (record job { phase = Copying end }) piece end)) o))
          (piece_alike job refl (λ key c. cursor_owner key c (batch_cursor end job.source b.0 key c))))
      by (Moved end) e b = at_phase (Moved end) e (ap (λ o. or_stuck (option_map (λ piece. Always (online_of (record job { phase = Moved end }) piece end)) o))
          (piece_alike job refl (λ key c. cursor_owner key c (batch_cursor end job.target b.0 key c))))

  -- A logged step of the job stays one.
  pub step_stays : (locations : List Text) (away : AwaySites) → IsBatch locations away mappings job job.phase → (xs ys : List Piece) (put : Extra)
      → Gives (IsBatchEnd own job) (table_row own mappings job) (Replace xs ys put) → Gives (IsBatchEnd own_after job) (table_row own_after after job) (Replace xs ys put)
  step_stays locations away batch xs ys put h = subst (λ row. Gives (IsBatchEnd own_after job) row (Replace xs ys put)) (sym (table_stays locations away batch)) (by (table_row own mappings job) h)
    where
      by : (row : TableRow) → Gives (IsBatchEnd own job) row (Replace xs ys put) → Gives (IsBatchEnd own_after job) row (Replace xs ys put)
      by (Always step) h = h
      by (UpTo step) h = (h.0, batch_end_stays h.0 h.1, h.2)
