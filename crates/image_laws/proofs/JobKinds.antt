-- What the steps of a job are.
use Rattle.std.proofs.Common.{◌≡◌, ◌⊎◌, ℕ, Bool, true, false, cond, not, refl, sym, ap, ◌∙◌, subst, Some, None, Option, inl, inr, true≢false, List, [], ◌∷◌, option_map}
use Rattle.std.specs.Prelude.{IsTrue, option_and_then}
use Rattle.std.proofs.lemmas.Option.{same_Some, none-some}
use Rattle.std.proofs.lemmas.Bool.{and_parts, cases_Bool}
use Rattle.cell_world.specs.Texts.{Text}
use Rattle.cell_world.specs.Keys.{below, at_most, before, contains, end_below, same_end, low_of}
use Rattle.cell_world.specs.Stores.{Maps, Shards, Mappings, AwaySites}
use Rattle.cell_world.specs.Plain.{owner_in, Owner}
use Rattle.cell_world.specs.Jobs.{Step, Replace, Finish, Stuck, TableRow, Always, UpTo, part_of, split_at, merge_of, offline_of, move_of, online_of, ends_at, ending_at, merge_due, batch_row, at_cursor, cursor_piece, cursor_row, idle_row, or_stuck, table_row, IsBatchEnd, batch_limit, Gives}
use Rattle.cell_world.specs.Sound.{JobCells, IsBatch, BatchAt, AreMappings}
use Rattle.cell_world.specs.declared.operations.Piece.{Piece}
use Rattle.cell_world.specs.declared.operations.JobRow.{JobRow}
use Rattle.cell_world.specs.declared.operations.Extra.{Extra}
use Rattle.cell_world.specs.declared.operations.Extra.TheVariants as extra
use Rattle.cell_world.specs.declared.operations.Phase.{Phase}
use Rattle.cell_world.specs.declared.operations.Phase.TheVariants.{Idle, Copying, Moved}
use Rattle.cell_world.specs.declared.cells.Status.TheVariants.{Online, Offline}
use Rattle.cell_world.specs.declared.spans.High.{High}
use Rattle.cell_world.specs.declared.spans.High.TheVariants.{At, Max}
use Rattle.cell_world.specs.declared.spans.Span.{Span}
use Rattle.cell_world.specs.declared.spans.Span.TheVariants.{Range, Point}
use Rattle.cell_world.proofs.SpanLaws.{at_most_antisymm, at_most_trans}
use Rattle.image_laws.proofs.OwnerLaws.{owner_is, owner_stands}
use Rattle.image_laws.proofs.FitLaws.{low_in}
use Rattle.image_laws.proofs.JobRange.{cursor_in_range, key_of, not_and}
use Rattle.image_laws.proofs.JobTable.{ends_at_range, ending_stands, end_cases, end_not_self, limit_within}
use Rattle.image_laws.proofs.ShapeLaws.{below_or, not_back}

-- ---- steps, taken apart

abbrev pub olds_of : Step → List Piece
olds_of (Replace olds news put) = olds
olds_of Finish = []
olds_of Stuck = []

abbrev pub news_of : Step → List Piece
news_of (Replace olds news put) = news
news_of Finish = []
news_of Stuck = []

abbrev pub put_of : Step → Extra
put_of (Replace olds news put) = put
put_of Finish = extra.None
put_of Stuck = extra.None

abbrev is_replace : Step → Bool
is_replace (Replace olds news put) = true
is_replace Finish = false
is_replace Stuck = false

-- two mappings become one: the second ends at the cursor, and begins above lo
pub record MergeStep (job : JobRow) (olds news : List Piece) (put : Extra) : Type 0 where
  pub idle : job.phase ≡ Idle
  pub low : Piece
  pub high : Piece
  pub whole : Piece
  pub old_are : olds ≡ low ∷ high ∷ []
  pub new_are : news ≡ whole ∷ []
  pub none : put ≡ extra.None
  pub above : below job.low (low_of high.span) ≡ true
  pub ends : ends_at job.cursor high.span ≡ true
  pub of_map : high.map ≡ job.map

-- one mapping becomes two
pub record SplitStep (job : JobRow) (olds news : List Piece) (put : Extra) : Type 0 where
  pub idle : job.phase ≡ Idle
  pub whole : Piece
  pub low : Piece
  pub high : Piece
  pub old_are : olds ≡ whole ∷ []
  pub new_are : news ≡ low ∷ high ∷ []
  pub none : put ≡ extra.None
  pub of_map : whole.map ≡ job.map

-- what becomes of the mapping of a batch, and of the job
pub data BatchKind (job : JobRow) (end : High) (old new : Piece) (now : JobRow) : Type 0 where
  Off : job.phase ≡ Idle → new ≡ record old { status = Offline } → now ≡ record job { phase = Copying end } → BatchKind job end old new now
  Move : job.phase ≡ Copying end → old.status ≡ Offline → old.location ≡ job.source → new ≡ record old { location = job.target } → now ≡ record job { phase = Moved end } → BatchKind job end old new now
  On : job.phase ≡ Moved end → old.location ≡ job.target → new ≡ record old { status = Online } → now ≡ record job { phase = Idle; cursor = end } → BatchKind job end old new now

-- the mapping from the cursor up to the batch's end is exchanged
pub record BatchStep (maps : Maps) (mappings : Mappings) (job : JobRow) (olds news : List Piece) (put : Extra) : Type 0 where
  pub low : Text
  pub end : High
  pub old : Piece
  pub new : Piece
  pub now : JobRow
  pub cursor : job.cursor ≡ At low
  pub span : old.span ≡ Range low end
  pub owner : owner_in maps mappings job.map low ≡ Some old
  pub above : IsTrue (end_below job.cursor end)
  pub within : IsTrue (not (end_below job.high end))
  pub old_are : olds ≡ old ∷ []
  pub new_are : news ≡ new ∷ []
  pub put_is : put ≡ extra.JobPut now
  pub kind : BatchKind job end old new now

pub data StepKind (maps : Maps) (mappings : Mappings) (job : JobRow) (olds news : List Piece) (put : Extra) : Type 0 where
  Merging : MergeStep job olds news put → StepKind maps mappings job olds news put
  Splitting : SplitStep job olds news put → StepKind maps mappings job olds news put
  Batching : BatchStep maps mappings job olds news put → StepKind maps mappings job olds news put

-- ---- ends

-- not below, and not below: so not below
pub end_trans : (a b c : High) → not (end_below a b) ≡ true → not (end_below b c) ≡ true → not (end_below a c) ≡ true
end_trans Max b c h g = refl
end_trans (At x) Max c h g = absurd (not_and true h refl)
end_trans (At x) (At y) Max h g = absurd (not_and true g refl)
end_trans (At x) (At y) (At z) h g = elim (cases_Bool (below x z)) [
  | inr t ↦ ap not t
  | inl t ↦ elim (below_or x y) [
    | inl u ↦ absurd (not_and (below x y) h u)
    | inr u ↦ elim (below_or y z) [
      | inl v ↦ absurd (not_and (below y z) g v)
      | inr v ↦ absurd (not_back x z t (at_most_trans z y x v u))
    ]
  ]
]

-- ---- the rows of the table

merge_is : (q p : Piece) (a b : Text) (c d : High) → q.span ≡ Range a c → p.span ≡ Range b d → merge_of q p ≡ Replace (q ∷ p ∷ []) (part_of q a d ∷ []) extra.None
merge_is q p a b c d e f = subst (λ (s : Piece × Piece). merge_of s.0 s.1 ≡ Replace (s.0 ∷ s.1 ∷ []) (part_of s.0 a d ∷ []) extra.None) (λ i. (record q { span = sym e i }, record p { span = sym f i })) refl

pub split_is : (p : Piece) (key a : Text) (b : High) → p.span ≡ Range a b → split_at p key ≡ Replace (p ∷ []) (part_of p a (At key) ∷ part_of p key b ∷ []) extra.None
split_is p key a b e = subst (λ (s : Piece). split_at s key ≡ Replace (s ∷ []) (part_of s a (At key) ∷ part_of s key b ∷ []) extra.None) (λ i. record p { span = sym e i }) refl

split_stuck : (p : Piece) (key at : Text) → p.span ≡ Point at → split_at p key ≡ Stuck
split_stuck p key at e = subst (λ (s : Piece). split_at s key ≡ Stuck) (λ i. record p { span = sym e i }) refl

pub batch_stuck : (job : JobRow) (p : Piece) (end : High) (at : Text) → p.span ≡ Point at → batch_row job p end ≡ Stuck
batch_stuck job p end at e = subst (λ (s : Piece). batch_row job s end ≡ Stuck) (λ i. record p { span = sym e i }) refl

-- the batch is split off, or its end isn't below the mapping's
pub batch_is : (job : JobRow) (p : Piece) (end : High) (a : Text) (b : High) → p.span ≡ Range a b → ((key : Text) × (batch_row job p end ≡ split_at p key)) ⊎ ((not (end_below end b) ≡ true) × (batch_row job p end ≡ offline_of job p end))
batch_is job p Max a b e = inr (refl, subst (λ (s : Piece). batch_row job s Max ≡ offline_of job s Max) (λ i. record p { span = sym e i }) refl)
batch_is job p (At key) a b e = elim (cases_Bool (before key b)) [
  | inl t ↦ inl (key, subst (λ (s : Piece). batch_row job s (At key) ≡ split_at s key) (λ i. record p { span = sym e i }) (ap (λ c. cond c (split_at (record p { span = Range a b }) key) (offline_of job (record p { span = Range a b }) (At key))) t))
  | inr t ↦ inr (ap not t, subst (λ (s : Piece). batch_row job s (At key) ≡ offline_of job s (At key)) (λ i. record p { span = sym e i }) (ap (λ c. cond c (split_at (record p { span = Range a b }) key) (offline_of job (record p { span = Range a b }) (At key))) t))
]

no_step : {A : Type 0} (s : Step) (olds news : List Piece) (put : Extra) → is_replace s ≡ false → s ≡ Replace olds news put → A
no_step s olds news put e f = absurd (true≢false (sym (ap is_replace f) ∙ e))

module _ (maps : Maps) (mappings : Mappings) (m : AreMappings maps mappings) (shards : Shards) (next : ℕ) (job : JobRow) (j : JobCells maps shards mappings next job) (olds news : List Piece) (put : Extra) where
  abbrev own : Owner
  own = owner_in maps mappings

  abbrev wanted : Step
  wanted = Replace olds news put

  abbrev Kind : Type 0
  Kind = StepKind maps mappings job olds news put

  split_kind : job.phase ≡ Idle → (p : Piece) (key : Text) → p.map ≡ job.map → split_at p key ≡ wanted → Kind
  split_kind idle p key of_map e = by p.span refl
    where
      by : (s : Span) → p.span ≡ s → Kind
      by (Point at) f = no_step Stuck olds news put refl (sym (split_stuck p key at f) ∙ e)
      by (Range a b) f =
          let is = sym e ∙ split_is p key a b f in
          Splitting (record { idle = idle; whole = p; low = part_of p a (At key); high = part_of p key b; old_are = ap olds_of is; new_are = ap news_of is; none = ap put_of is; of_map = of_map })

  merge_kind : job.phase ≡ Idle → (row : TableRow) → merge_due mappings job ≡ Some row → Gives (IsBatchEnd own job) row wanted → Kind
  merge_kind idle row = ending (ending_at mappings job.map job.cursor) refl
    where
      given : (p : Piece) → ending_at mappings job.map job.cursor ≡ Some p → below job.low (low_of p.span) ≡ true → (o : Option Piece) → ending_at mappings job.map (At (low_of p.span)) ≡ o
          → Gives (IsBatchEnd own job) (or_stuck (option_map (λ earlier. Always (merge_of earlier p)) o)) wanted → Kind
      given p f t None g h = no_step Stuck olds news put refl h
      given p f t (Some q) g h =
          let s = ending_stands maps mappings m job.map job.cursor p f in
          let u = ending_stands maps mappings m job.map (At (low_of p.span)) q g in
          let a = ends_at_range job.cursor p.span s.2 in
          let b = ends_at_range (At (low_of p.span)) q.span u.2 in
          let is = sym h ∙ merge_is q p b.0 a.0 (At (low_of p.span)) job.cursor b.1 a.1 in
          Merging (record { idle = idle; low = q; high = p; whole = part_of q b.0 job.cursor; old_are = ap olds_of is; new_are = ap news_of is; none = ap put_of is; above = t; ends = s.2; of_map = s.1 })

      ending : (o : Option Piece) → ending_at mappings job.map job.cursor ≡ o → merge_due mappings job ≡ Some row → Gives (IsBatchEnd own job) row wanted → Kind
      ending None f e h = absurd (none-some row (sym (ap (option_and_then (λ (p : Piece). cond (below job.low (low_of p.span)) (Some (or_stuck (option_map (λ earlier. Always (merge_of earlier p)) (ending_at mappings job.map (At (low_of p.span)))))) None)) f) ∙ e))
      ending (Some p) f e h = elim (cases_Bool (below job.low (low_of p.span))) [
        | inl t ↦
            let is : or_stuck (option_map (λ earlier. Always (merge_of earlier p)) (ending_at mappings job.map (At (low_of p.span)))) ≡ row = same_Some _ _ (sym (due ∙ ap (λ b. cond b (Some (or_stuck (option_map (λ earlier. Always (merge_of earlier p)) (ending_at mappings job.map (At (low_of p.span)))))) None) t) ∙ e) in
            given p f t (ending_at mappings job.map (At (low_of p.span))) refl (subst (λ r. Gives (IsBatchEnd own job) r wanted) (sym is) h)
        | inr t ↦ absurd (none-some row (sym (due ∙ ap (λ b. cond b (Some (or_stuck (option_map (λ earlier. Always (merge_of earlier p)) (ending_at mappings job.map (At (low_of p.span)))))) None) t) ∙ e))
      ]
        where
          due : merge_due mappings job ≡ cond (below job.low (low_of p.span)) (Some (or_stuck (option_map (λ earlier. Always (merge_of earlier p)) (ending_at mappings job.map (At (low_of p.span)))))) None
          due = ap (option_and_then (λ (p : Piece). cond (below job.low (low_of p.span)) (Some (or_stuck (option_map (λ earlier. Always (merge_of earlier p)) (ending_at mappings job.map (At (low_of p.span)))))) None)) f

  -- the offline of a batch
  offline_kind : job.phase ≡ Idle → (key : Text) → job.cursor ≡ At key → (p : Piece) → own job.map key ≡ Some p → at_most key (low_of p.span) ≡ true → (end : High) → IsBatchEnd own job end
      → (a : Text) (b : High) → p.span ≡ Range a b → not (end_below end b) ≡ true → offline_of job p end ≡ wanted → Kind
  offline_kind idle key c p o lower end may a b span upto e =
      let s = owner_stands maps mappings m.placed job.map key p o in
      let holds = and_parts (at_most a key) (before key b) (subst (λ x. IsTrue (contains x key)) span s.2) in
      let low_is : a ≡ key = at_most_antisymm a key holds.0 (subst (λ x. at_most key (low_of x) ≡ true) span lower) in
      Batching (record {
        low = key;
        end = end;
        old = p;
        new = record p { status = Offline };
        now = record job { phase = Copying end };
        cursor = c;
        span = span ∙ (λ i. Range (low_is i) (high_is i));
        owner = o;
        above = may.above;
        within = limit;
        old_are = ap olds_of (sym e);
        new_are = ap news_of (sym e);
        put_is = ap put_of (sym e);
        kind = Off idle refl refl;
      })
    where
      same_piece : may.piece ≡ p
      same_piece = same_Some may.piece p (sym may.owned ∙ subst (λ (x : JobRow). cursor_piece own x ≡ Some p) (λ i. record job { cursor = sym c i }) o)

      -- the limit is at most the mapping's end
      limit_upto : not (end_below b (batch_limit job p)) ≡ true
      limit_upto = subst (λ (x : Piece). not (end_below b (batch_limit job x)) ≡ true) (λ i. record p { span = sym span i }) (elim (cases_Bool (end_below b job.high)) [
        | inl t ↦ ap (λ c. not (end_below b (cond c b job.high))) t ∙ end_not_self b
        | inr t ↦ ap (λ c. not (end_below b (cond c b job.high))) t ∙ ap not t
      ])

      end_upto : not (end_below (batch_limit job p) end) ≡ true
      end_upto = subst (λ (x : Piece). not (end_below (batch_limit job x) end) ≡ true) same_piece may.within

      high_is : b ≡ end
      high_is = elim (end_cases b end) [
        | inl t ↦ absurd (not_and (end_below b end) (end_trans b (batch_limit job p) end limit_upto end_upto) t)
        | inr r ↦ elim r [ inl t ↦ t | inr t ↦ absurd (not_and (end_below end b) upto t) ]
      ]

      limit : IsTrue (not (end_below job.high end))
      limit = end_trans job.high (batch_limit job p) end (limit_within job p) end_upto

  at_cursor_kind : job.phase ≡ Idle → (key : Text) → job.cursor ≡ At key → (o : Option Piece) → own job.map key ≡ o
      → Gives (IsBatchEnd own job) (or_stuck (option_map (at_cursor (record job { phase = Idle; cursor = At key }) key) o)) wanted → Kind
  at_cursor_kind idle key c None f h = no_step Stuck olds news put refl h
  at_cursor_kind idle key c (Some p) f h = elim (cases_Bool (below (low_of p.span) key)) [
    | inl t ↦ split_kind idle p key (owner_stands maps mappings m.placed job.map key p f).1 (subst (λ b. Gives (IsBatchEnd own job) (cond b (Always (split_at p key)) (UpTo (batch_row jb p))) wanted) t h)
    | inr t ↦ upto (not_below (low_of p.span) key t) (subst (λ b. Gives (IsBatchEnd own job) (cond b (Always (split_at p key)) (UpTo (batch_row jb p))) wanted) t h)
  ]
    where
      jb : JobRow
      jb = record job { phase = Idle; cursor = At key }

      not_below : (a b : Text) → below a b ≡ false → at_most b a ≡ true
      not_below a b t = elim (below_or a b) [ inl u ↦ absurd (true≢false (sym u ∙ t)) | inr u ↦ u ]

      job_is : jb ≡ job
      job_is = λ i. record job { phase = sym idle i; cursor = sym c i }

      upto : at_most key (low_of p.span) ≡ true → (end : High) × IsBatchEnd own job end × (batch_row jb p end ≡ wanted) → Kind
      upto lower g = by p.span refl
        where
          e : batch_row job p g.0 ≡ wanted
          e = ap (λ (x : JobRow). batch_row x p g.0) (sym job_is) ∙ g.2

          by : (s : Span) → p.span ≡ s → Kind
          by (Point at) is = no_step Stuck olds news put refl (sym (batch_stuck job p g.0 at is) ∙ e)
          by (Range a b) is = elim (batch_is job p g.0 a b is) [
            | inl s ↦ split_kind idle p s.0 (owner_stands maps mappings m.placed job.map key p f).1 (sym s.1 ∙ e)
            | inr o ↦ offline_kind idle key c p f lower g.0 g.1 a b is o.0 (sym o.1 ∙ e)
          ]

  cursor_kind : job.phase ≡ Idle → Gives (IsBatchEnd own job) (cursor_row own (record job { phase = Idle })) wanted → Kind
  cursor_kind idle h = by job.cursor refl
    where
      by : (c : High) → job.cursor ≡ c → Kind
      by Max c = no_step Stuck olds news put refl (subst (λ x. Gives (IsBatchEnd own job) (cursor_row own (record job { phase = Idle; cursor = x })) wanted) c h)
      by (At key) c = at_cursor_kind idle key c (own job.map key) refl (subst (λ x. Gives (IsBatchEnd own job) (cursor_row own (record job { phase = Idle; cursor = x })) wanted) c h)

  idle_kind : job.phase ≡ Idle → (o : Option TableRow) → merge_due mappings job ≡ o → Gives (IsBatchEnd own job) (idle_row own (record job { phase = Idle }) o) wanted → Kind
  idle_kind idle (Some row) e h = merge_kind idle row e h
  idle_kind idle None e h = elim (cases_Bool (same_end job.cursor job.high)) [
    | inl t ↦ no_step Finish olds news put refl (subst (λ b. Gives (IsBatchEnd own job) (cond b (Always Finish) (cursor_row own (record job { phase = Idle }))) wanted) t h)
    | inr t ↦ cursor_kind idle (subst (λ b. Gives (IsBatchEnd own job) (cond b (Always Finish) (cursor_row own (record job { phase = Idle }))) wanted) t h)
  ]

  -- the mapping of a batch in progress owns the cursor
  batch_owner : (end : High) (location : Text) → BatchAt mappings job end location
      → (low : Text) × (old : Piece) × (job.cursor ≡ At low) × (old.span ≡ Range low end) × (own job.map low ≡ Some old) × (cursor_piece own job ≡ Some old) × (old.status ≡ Offline) × (old.location ≡ location)
  batch_owner end location b =
      let holds : IsTrue (contains b.piece.span b.low) = subst (λ x. IsTrue (contains x b.low)) (sym b.span) (subst (λ x. IsTrue (contains x (low_of x))) b.span (low_in maps b.piece.map b.piece.span (m.spans b.piece b.stands))) in
      let range = cursor_in_range maps mappings m shards next job j b.low end b.at_cursor b.above b.within in
      let owner = owner_is maps mappings m.placed job.map b.low m.disjoint (key_of maps mappings m shards next job j b.low range) b.piece b.stands b.of_map holds in
      (b.low, b.piece, b.at_cursor, b.span, owner, subst (λ (x : JobRow). cursor_piece own x ≡ Some b.piece) (λ i. record job { cursor = sym b.at_cursor i }) owner, b.offline, b.at_site)

  -- What a step of a job is.
  pub step_kind : (locations : List Text) (away : AwaySites) → IsBatch locations away mappings job job.phase → Gives (IsBatchEnd own job) (table_row own mappings job) wanted → Kind
  step_kind locations away batch h = by job.phase refl batch
    where
      row_at : (f : Phase) → job.phase ≡ f → Gives (IsBatchEnd own job) (table_row own mappings (record job { phase = f })) wanted
      row_at f e = subst (λ x. Gives (IsBatchEnd own job) (table_row own mappings (record job { phase = x })) wanted) e h

      by : (f : Phase) → job.phase ≡ f → IsBatch locations away mappings job f → Kind
      by Idle e b = idle_kind e (merge_due mappings job) refl (row_at Idle e)
      by (Copying end) e b =
          let o = batch_owner end job.source b.0 in
          let is : move_of (record job { phase = Copying end }) o.1 end ≡ wanted = subst (λ x. Gives (IsBatchEnd own job) (or_stuck (option_map (λ piece. Always (move_of (record job { phase = Copying end }) piece end)) x)) wanted) o.5 (row_at (Copying end) e) in
          Batching (record {
            low = o.0;
            end = end;
            old = o.1;
            new = record o.1 { location = job.target };
            now = record job { phase = Moved end };
            cursor = o.2;
            span = o.3;
            owner = o.4;
            above = b.0.above;
            within = b.0.within;
            old_are = ap olds_of (sym is);
            new_are = ap news_of (sym is);
            put_is = ap put_of (sym is);
            kind = Move e o.6 o.7 refl refl;
          })
      by (Moved end) e b =
          let o = batch_owner end job.target b.0 in
          let is : online_of (record job { phase = Moved end }) o.1 end ≡ wanted = subst (λ x. Gives (IsBatchEnd own job) (or_stuck (option_map (λ piece. Always (online_of (record job { phase = Moved end }) piece end)) x)) wanted) o.5 (row_at (Moved end) e) in
          Batching (record {
            low = o.0;
            end = end;
            old = o.1;
            new = record o.1 { status = Online };
            now = record job { phase = Idle; cursor = end };
            cursor = o.2;
            span = o.3;
            owner = o.4;
            above = b.0.above;
            within = b.0.within;
            old_are = ap olds_of (sym is);
            new_are = ap news_of (sym is);
            put_is = ap put_of (sym is);
            kind = On e o.7 refl refl;
          })
