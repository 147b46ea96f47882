-- The commit of an operation that isn't a step of a job leaves the job's next step as it was.
use Rattle.std.proofs.Common.{◌≡◌, ◌⊎◌, ℕ, Bool, true, false, cond, not, refl, sym, ap, ◌∙◌, subst, Some, None, Option, inl, inr, true≢false, List, ◌&&◌, option_map}
use Rattle.std.specs.Prelude.{IsTrue, IfSome, option_and_then}
use Rattle.std.specs.FinMap as map
use Rattle.std.proofs.lemmas.Bool.{and_parts, and_from, cases_Bool}
use Rattle.cell_world.specs.Texts.{Text}
use Rattle.cell_world.specs.Lists.{IsOneOf}
use Rattle.cell_world.specs.Keys.{below, at_most, before, contains, end_below, same_end, same, low_of, lesser_end}
use Rattle.cell_world.specs.Orders.{pair_cmp}
use Rattle.cell_world.specs.KeyForms.{is_normal_end}
use Rattle.cell_world.specs.Stores.{Maps, Shards, Mappings, Jobs, AwaySites, piece_key, exchanged}
use Rattle.cell_world.specs.Plain.{owner_in, Owner}
use Rattle.cell_world.specs.Jobs.{TableRow, Always, UpTo, ends_at, ending_at, merge_due, merge_of, idle_row, cursor_row, cursor_piece, at_cursor, or_stuck, table_row, move_of, online_of, Finish, IsBatchEnd, batch_limit, Gives, Replace}
use Rattle.cell_world.specs.Lawful.{job_with_token}
use Rattle.cell_world.specs.Sound.{HasPiece, HasJob, JobCells, IsBatch, BatchAt, AreMappings}
use Rattle.cell_world.specs.declared.operations.Piece.{Piece}
use Rattle.cell_world.specs.declared.operations.JobRow.{JobRow}
use Rattle.cell_world.specs.declared.operations.Extra.{Extra}
use Rattle.cell_world.specs.declared.operations.Phase.{Phase}
use Rattle.cell_world.specs.declared.operations.Phase.TheVariants.{Idle, Copying, Moved}
use Rattle.cell_world.specs.declared.spans.High.{High}
use Rattle.cell_world.specs.declared.spans.High.TheVariants.{At, Max}
use Rattle.cell_world.specs.declared.spans.Span.{Span}
use Rattle.cell_world.specs.declared.spans.Span.TheVariants.{Range, Point}
use Rattle.cell_world.proofs.OrderLaws.{pairs_total}
use Rattle.image_laws.proofs.ValueLaws.{value_found, value_there}
use Rattle.cell_world.proofs.SpanLaws.{same_is, same_self, overlaps_shared, at_most_before, at_most_antisymm}
use Rattle.image_laws.specs.Fits.{IsFit}
use Rattle.image_laws.proofs.FitLaws.{are_mappings_after, low_in}
use Rattle.image_laws.proofs.JobRange.{InRange, not_and, before_within, owner_in_range, piece_stays, piece_stood, ends_in}
use Rattle.image_laws.proofs.ShapeLaws.{below_or, below_at_most, not_back, not_below_self}

-- ---- the mapping that ends at an end

same_ends : (a b : High) → same_end a b ≡ true → a ≡ b
same_ends (At a) (At b) e = ap At (same_is a b e)
same_ends Max Max e = refl
same_ends (At a) Max e = cc
same_ends Max (At b) e = cc

pub ends_at_range : (end : High) (s : Span) → ends_at end s ≡ true → (low : Text) × (s ≡ Range low end)
ends_at_range end (Range low high) e = (low, ap (Range low) (sym (same_ends end high e)))
ends_at_range end (Point at) e = cc

module _ (maps : Maps) (mappings : Mappings) (m : AreMappings maps mappings) (name : Text) (end : High) where
  abbrev test : Piece → Bool
  test p = same name p.map && ends_at end p.span

  pub ending_stands : (p : Piece) → ending_at mappings name end ≡ Some p → HasPiece mappings p × (p.map ≡ name) × IsTrue (ends_at end p.span)
  ending_stands p g =
      let f = value_found pair_cmp pairs_total test mappings p g in
      let place : piece_key p ≡ f.0 = subst (λ o. IfSome o (λ q. piece_key q ≡ f.0)) f.1 (m.placed f.0) in
      let parts = and_parts (same name p.map) (ends_at end p.span) f.2 in
      (subst (λ k. map.get mappings k ≡ Some p) (sym place) f.1, sym (same_is name p.map parts.0), parts.1)

  -- two ranges of one map that end there are one
  pub ending_one : (p q : Piece) → HasPiece mappings p → HasPiece mappings q → p.map ≡ q.map → IsTrue (ends_at end p.span) → IsTrue (ends_at end q.span) → p ≡ q
  ending_one p q h k e f g =
      let a = ends_at_range end p.span f in
      let b = ends_at_range end q.span g in
      let low_a = and_parts (at_most a.0 a.0) (before a.0 end) (subst (λ s. IsTrue (contains s (low_of s))) a.1 (low_in maps p.map p.span (m.spans p h))) in
      let low_b = and_parts (at_most b.0 b.0) (before b.0 end) (subst (λ s. IsTrue (contains s (low_of s))) b.1 (low_in maps q.map q.span (m.spans q k))) in
      m.disjoint p q h k e (elim (below_or a.0 b.0) [
        | inl lower ↦ overlaps_shared p.span q.span b.0 (subst (λ s. IsTrue (contains s b.0)) (sym a.1) (and_from _ _ (below_at_most a.0 b.0 lower) low_b.1)) (subst (λ s. IsTrue (contains s b.0)) (sym b.1) (and_from _ _ low_b.0 low_b.1))
        | inr upper ↦ overlaps_shared p.span q.span a.0 (subst (λ s. IsTrue (contains s a.0)) (sym a.1) (and_from _ _ low_a.0 low_a.1)) (subst (λ s. IsTrue (contains s a.0)) (sym b.1) (and_from _ _ upper low_a.1))
      ])

  pub ending_is : (p : Piece) → HasPiece mappings p → p.map ≡ name → IsTrue (ends_at end p.span) → ending_at mappings name end ≡ Some p
  ending_is p h of_map e = only (ending_at mappings name end) refl
    where
      passes : test p ≡ true
      passes = and_from (same name p.map) (ends_at end p.span) (subst (λ n. same n p.map ≡ true) of_map (same_self p.map)) e

      only : (o : Option Piece) → ending_at mappings name end ≡ o → ending_at mappings name end ≡ Some p
      only None f = let some = value_there pair_cmp pairs_total test mappings (piece_key p) p h passes in cc
      only (Some q) f = let s = ending_stands q f in f ∙ ap Some (ending_one q p s.0 h (s.1 ∙ sym of_map) s.2 e)

-- ---- the table

-- an end that is above none and isn't the other one is below it
pub end_cases : (a b : High) → (end_below a b ≡ true) ⊎ ((a ≡ b) ⊎ (end_below b a ≡ true))
end_cases Max Max = inr (inl refl)
end_cases Max (At b) = inr (inr refl)
end_cases (At a) Max = inl refl
end_cases (At a) (At b) = elim (below_or a b) [
  | inl t ↦ inl t
  | inr t ↦ elim (below_or b a) [
    | inl u ↦ inr (inr u)
    | inr u ↦ inr (inl (ap At (at_most_antisymm a b u t)))
  ]
]

pub same_end_self : (a : High) → same_end a a ≡ true
same_end_self (At a) = same_self a
same_end_self Max = refl

-- what is read at the cursor is alike where the owners are
cursor_piece_alike : (own own_after : Owner) (job : JobRow) → ((key : Text) → job.cursor ≡ At key → own_after job.map key ≡ own job.map key) → cursor_piece own_after job ≡ cursor_piece own job
cursor_piece_alike own own_after job same_own = by job.cursor refl
  where
    by : (c : High) → job.cursor ≡ c → cursor_piece own_after job ≡ cursor_piece own job
    by (At key) e = subst (λ (x : JobRow). cursor_piece own_after x ≡ cursor_piece own x) (λ i. record job { cursor = sym e i }) (same_own key e)
    by Max e = subst (λ (x : JobRow). cursor_piece own_after x ≡ cursor_piece own x) (λ i. record job { cursor = sym e i }) refl

cursor_row_alike : (own own_after : Owner) (job : JobRow) → ((key : Text) → job.cursor ≡ At key → own_after job.map key ≡ own job.map key) → cursor_row own_after job ≡ cursor_row own job
cursor_row_alike own own_after job same_own = by job.cursor refl
  where
    by : (c : High) → job.cursor ≡ c → cursor_row own_after job ≡ cursor_row own job
    by (At key) e = subst (λ (x : JobRow). cursor_row own_after x ≡ cursor_row own x) (λ i. record job { cursor = sym e i }) (ap (λ o. or_stuck (option_map (at_cursor (record job { cursor = At key }) key) o)) (same_own key e))
    by Max e = subst (λ (x : JobRow). cursor_row own_after x ≡ cursor_row own x) (λ i. record job { cursor = sym e i }) refl

-- the limit of a batch is at most the job's end
pub end_not_below : (a b : High) → end_below a b ≡ true → not (end_below b a) ≡ true
end_not_below (At a) Max h = refl
end_not_below (At a) (At b) h = elim (cases_Bool (below b a)) [ inl t ↦ absurd (not_back a b h (below_at_most b a t)) | inr t ↦ ap not t ]
end_not_below Max b h = cc

pub end_not_self : (a : High) → not (end_below a a) ≡ true
end_not_self Max = refl
end_not_self (At a) = elim (cases_Bool (below a a)) [ inl t ↦ absurd (not_below_self a t) | inr t ↦ ap not t ]

pub limit_within : (job : JobRow) (piece : Piece) → not (end_below job.high (batch_limit job piece)) ≡ true
limit_within job piece = by piece.span refl
  where
    lesser : (h : High) → not (end_below job.high (lesser_end job.high h)) ≡ true
    lesser h = elim (cases_Bool (end_below h job.high)) [
      | inl t ↦ ap (λ b. not (end_below job.high (cond b h job.high))) t ∙ end_not_below h job.high t
      | inr t ↦ ap (λ b. not (end_below job.high (cond b h job.high))) t ∙ end_not_self job.high
    ]

    by : (s : Span) → piece.span ≡ s → not (end_below job.high (batch_limit job piece)) ≡ true
    by (Range low high) e = subst (λ (x : Piece). not (end_below job.high (batch_limit job x)) ≡ true) (λ i. record piece { span = sym e i }) (lesser high)
    by (Point at) e = subst (λ (x : Piece). not (end_below job.high (batch_limit job x)) ≡ true) (λ i. record piece { span = sym e i }) (end_not_self job.high)

module _ (maps : Maps) (mappings : Mappings) (m : AreMappings maps mappings) (jobs : Jobs) (name : Text) (hull : Span) (olds news : List Piece) (fit : IsFit maps mappings name hull olds news)
    (shards : Shards) (next : ℕ) (job : JobRow) (has : HasJob jobs job) (j : JobCells maps shards mappings next job) (other : (o : Piece) → IsOneOf olds o → job_with_token jobs o ≡ Some job → ⊥) where
  abbrev after : Mappings
  after = exchanged mappings olds news

  after_ok : AreMappings maps after
  after_ok = are_mappings_after maps mappings m name hull olds news fit

  abbrev Range_of : Text → Type 0
  Range_of key = InRange maps mappings m shards next job j key

  -- the mapping that ends above lo and at most at hi is the same one
  ending_stays : (end : High) → IsTrue (end_below (At job.low) end) → IsTrue (not (end_below job.high end)) → ending_at after job.map end ≡ ending_at mappings job.map end
  ending_stays end above within = by (ending_at mappings job.map end) refl
    where
      by : (o : Option Piece) → ending_at mappings job.map end ≡ o → ending_at after job.map end ≡ ending_at mappings job.map end
      by (Some p) e =
          let s = ending_stands maps mappings m job.map end p e in
          let k = ends_in maps mappings m shards next job j mappings m p s.0 s.1 end s.2 above within in
          ending_is maps after after_ok job.map end p (piece_stays maps mappings m jobs name hull olds news fit shards next job has j other p s.0 s.1 k.0 k.1 k.2) s.1 s.2 ∙ sym e
      by None e = none (ending_at after job.map end) refl
        where
          none : (o : Option Piece) → ending_at after job.map end ≡ o → ending_at after job.map end ≡ ending_at mappings job.map end
          none None f = f ∙ sym e
          none (Some q) f =
              let s = ending_stands maps after after_ok job.map end q f in
              let k = ends_in maps mappings m shards next job j after after_ok q s.0 s.1 end s.2 above within in
              f ∙ sym (ending_is maps mappings m job.map end q (piece_stood maps mappings m jobs name hull olds news fit shards next job has j other q s.0 s.1 k.0 k.1 k.2) s.1 s.2)

  -- the merge that is due for a mapping that ends at the cursor
  abbrev due : Mappings → Piece → Option TableRow
  due ms p = cond (below job.low (low_of p.span)) (Some (or_stuck (option_map (λ earlier. Always (merge_of earlier p)) (ending_at ms job.map (At (low_of p.span)))))) None

  -- the low key of a mapping that ends at the cursor is before it
  low_before : (ms : Mappings) → AreMappings maps ms → (p : Piece) → ending_at ms job.map job.cursor ≡ Some p → before (low_of p.span) job.cursor ≡ true
  low_before ms ok p e =
      let s = ending_stands maps ms ok job.map job.cursor p e in
      let r = ends_at_range job.cursor p.span s.2 in
      let low : IsTrue (contains (Range r.0 job.cursor) r.0) = subst (λ x. IsTrue (contains x (low_of x))) r.1 (low_in maps p.map p.span (ok.spans p s.0)) in
      subst (λ x. before (low_of x) job.cursor ≡ true) (sym r.1) (and_parts (at_most r.0 r.0) (before r.0 job.cursor) low).1

  -- with the cursor at lo no merge is due
  none_due : (ms : Mappings) → AreMappings maps ms → before job.low job.cursor ≡ false → merge_due ms job ≡ None
  none_due ms ok low = by (ending_at ms job.map job.cursor) refl
    where
      by : (o : Option Piece) → ending_at ms job.map job.cursor ≡ o → merge_due ms job ≡ None
      by None e = ap (option_and_then (due ms)) e
      by (Some p) e = ap (option_and_then (due ms)) e ∙ elim (cases_Bool (below job.low (low_of p.span))) [
        | inl t ↦ absurd (true≢false (sym (at_most_before job.low (low_of p.span) job.cursor (below_at_most job.low (low_of p.span) t) (low_before ms ok p e)) ∙ low))
        | inr t ↦ ap (λ b. cond b (Some (or_stuck (option_map (λ earlier. Always (merge_of earlier p)) (ending_at ms job.map (At (low_of p.span)))))) None) t
      ]

  within_of : (key : Text) → before key job.cursor ≡ true → IsTrue (not (end_below job.high (At key)))
  within_of key h = by job.high (before_within key job.cursor job.high h j.to_high)
    where
      by : (e : High) → before key e ≡ true → not (end_below e (At key)) ≡ true
      by Max t = refl
      by (At x) t = elim (cases_Bool (below x key)) [
        | inl u ↦ absurd (not_back key x t (below_at_most x key u))
        | inr u ↦ ap not u
      ]

  pub merge_stays : merge_due after job ≡ merge_due mappings job
  merge_stays = elim (cases_Bool (before job.low job.cursor)) [
    | inr low ↦ none_due after after_ok low ∙ sym (none_due mappings m low)
    | inl above ↦ ap (option_and_then (due after)) (ending_stays job.cursor above j.to_high) ∙ by (ending_at mappings job.map job.cursor) refl
  ]
    where
      by : (o : Option Piece) → ending_at mappings job.map job.cursor ≡ o → option_and_then (due after) o ≡ option_and_then (due mappings) o
      by None e = refl
      by (Some p) e = elim (cases_Bool (below job.low (low_of p.span))) [
        | inl t ↦ ap (λ o. cond (below job.low (low_of p.span)) (Some (or_stuck (option_map (λ earlier. Always (merge_of earlier p)) o))) None) (ending_stays (At (low_of p.span)) t (within_of (low_of p.span) (low_before mappings m p e)))
        | inr t ↦ ap (λ b. cond b (Some (or_stuck (option_map (λ earlier. Always (merge_of earlier p)) (ending_at after job.map (At (low_of p.span)))))) None) t
            ∙ sym (ap (λ b. cond b (Some (or_stuck (option_map (λ earlier. Always (merge_of earlier p)) (ending_at mappings job.map (At (low_of p.span)))))) None) t)
      ]

  abbrev own : Owner
  own = owner_in maps mappings

  abbrev own_after : Owner
  own_after = owner_in maps after

  cursor_normal : (key : Text) → job.cursor ≡ At key → before key job.high ≡ true → Range_of key
  cursor_normal key e to = record {
    normal = subst (λ c. IsTrue (is_normal_end j.type c)) e j.cursor_form;
    from = elim (below_or key job.low) [
      | inl b ↦ absurd (not_and (below key job.low) (subst (λ c. IsTrue (not (end_below c (At job.low)))) e j.from_low) b)
      | inr b ↦ b
    ];
    to = to;
  }

  -- the owner of the cursor stays, where the cursor is below hi
  cursor_owner : (key : Text) → job.cursor ≡ At key → before key job.high ≡ true → own_after job.map key ≡ own job.map key
  cursor_owner key e to = owner_in_range maps mappings m jobs name hull olds news fit shards next job has j other key (cursor_normal key e to)

  -- the cursor is hi, or below it
  at_high_or : (same_end job.cursor job.high ≡ true) ⊎ ((key : Text) → job.cursor ≡ At key → before key job.high ≡ true)
  at_high_or = elim (end_cases job.cursor job.high) [
    | inl b ↦ inr (λ key e. subst (λ c. end_below c job.high ≡ true) e b)
    | inr r ↦ elim r [
      | inl e ↦ inl (subst (λ x. same_end job.cursor x ≡ true) e (same_end_self job.cursor))
      | inr b ↦ absurd (not_and (end_below job.high job.cursor) j.to_high b)
    ]
  ]

  -- an end that the batch may have stays one
  pub batch_end_stays : (end : High) → IsBatchEnd own job end → IsBatchEnd own_after job end
  batch_end_stays end b = record {
    above = b.above;
    piece = b.piece;
    owned = cursor_piece_alike own own_after job (λ key e. cursor_owner key e
        (before_within key (batch_limit job b.piece) job.high (before_within key end (batch_limit job b.piece) (subst (λ c. end_below c end ≡ true) e b.above) b.within) (limit_within job b.piece))) ∙ b.owned;
    within = b.within;
  }

  batch_cursor : (end : High) (location : Text) → BatchAt mappings job end location → (key : Text) → job.cursor ≡ At key → before key job.high ≡ true
  batch_cursor end location b key e = before_within key end job.high (subst (λ c. end_below c end ≡ true) e b.above) b.within

  pub table_stays : (locations : List Text) (away : AwaySites) → IsBatch locations away mappings job job.phase → table_row own_after after job ≡ table_row own mappings job
  table_stays locations away batch = by job.phase refl batch
    where
      at_phase : (f : Phase) → job.phase ≡ f → table_row own_after after (record job { phase = f }) ≡ table_row own mappings (record job { phase = f }) → table_row own_after after job ≡ table_row own mappings job
      at_phase f e h = subst (λ (x : JobRow). table_row own_after after x ≡ table_row own mappings x) (λ i. record job { phase = sym e i }) h

      idle : (o : Option TableRow) → idle_row own_after (record job { phase = Idle }) o ≡ idle_row own (record job { phase = Idle }) o
      idle (Some row) = refl
      idle None = elim at_high_or [
        | inl t ↦ ap (λ b. cond b (Always Finish) (cursor_row own_after (record job { phase = Idle }))) t ∙ sym (ap (λ b. cond b (Always Finish) (cursor_row own (record job { phase = Idle }))) t)
        | inr below_high ↦ ap (cond (same_end job.cursor job.high) (Always Finish)) (cursor_row_alike own own_after (record job { phase = Idle }) (λ key e. cursor_owner key e (below_high key e)))
      ]

      by : (f : Phase) → job.phase ≡ f → IsBatch locations away mappings job f → table_row own_after after job ≡ table_row own mappings job
      by Idle e b = at_phase Idle e (ap (idle_row own_after (record job { phase = Idle })) merge_stays ∙ idle (merge_due mappings job))
      by (Copying end) e b = at_phase (Copying end) e (ap (λ o. or_stuck (option_map (λ piece. Always (move_of (record job { phase = Copying end }) piece end)) o))
          (cursor_piece_alike own own_after job (λ key c. cursor_owner key c (batch_cursor end job.source b.0 key c))))
      by (Moved end) e b = at_phase (Moved end) e (ap (λ o. or_stuck (option_map (λ piece. Always (online_of (record job { phase = Moved end }) piece end)) o))
          (cursor_piece_alike own own_after job (λ key c. cursor_owner key c (batch_cursor end job.target b.0 key c))))

  -- A logged step of the job stays one.
  pub step_stays : (locations : List Text) (away : AwaySites) → IsBatch locations away mappings job job.phase → (xs ys : List Piece) (put : Extra)
      → Gives (IsBatchEnd own job) (table_row own mappings job) (Replace xs ys put) → Gives (IsBatchEnd own_after job) (table_row own_after after job) (Replace xs ys put)
  step_stays locations away batch xs ys put h = subst (λ row. Gives (IsBatchEnd own_after job) row (Replace xs ys put)) (sym (table_stays locations away batch)) (by (table_row own mappings job) h)
    where
      by : (row : TableRow) → Gives (IsBatchEnd own job) row (Replace xs ys put) → Gives (IsBatchEnd own_after job) row (Replace xs ys put)
      by (Always step) h = h
      by (UpTo step) h = (h.0, batch_end_stays h.0 h.1, h.2)
