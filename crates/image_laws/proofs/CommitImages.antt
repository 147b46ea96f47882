-- The commit of a logged operation whose marks are all made: it keeps an image sound where it keeps what is said of jobs and of rows, and its meaning is the one before with the mappings exchanged.
use Rattle.std.proofs.Common.{◌≡◌, ◌⊎◌, ℕ, ◌<◌, Bool, true, false, cond, refl, sym, ap, ◌∙◌, subst, Some, None, Option, inl, inr, true≢false, List, [], ◌∷◌, is_some, ◌&&◌, ◌^◌}
use Rattle.std.specs.Prelude.{IsTrue, IfSome, option_and_then}
use Rattle.std.specs.List.{list_any}
use Rattle.std.specs.FinMap as map
use Rattle.std.specs.FinSet as set
use Rattle.std.proofs.lemmas.Cmp.{nat_cmp_total}
use Rattle.std.proofs.lemmas.Map.Lookups.{exact_unsigned}
use Rattle.std.proofs.lemmas.Option.{same_Some, none-some}
use Rattle.std.proofs.lemmas.Bool.{cases_Bool, and_parts, and_from}
use Rattle.cell_world.specs.Texts.{Text}
use Rattle.cell_world.specs.Lists.{IsOneOf}
use Rattle.cell_world.specs.Keys.{same, contains, overlaps}
use Rattle.cell_world.specs.Spelled.{listed}
use Rattle.cell_world.specs.Stores.{Store, Locals, Mappings, Jobs, IsKeyed, exchanged}
use Rattle.cell_world.specs.Images.{Image, Place, Global, Shard, global, with_store}
use Rattle.cell_world.specs.Plain.{owner_in}
use Rattle.cell_world.specs.Meaning.{meaning, owner_of, next_operation, next_job, is_attached_at}
use Rattle.cell_world.specs.Lawful.{read_tables, rows_at, Lawful, IsOfJob, IsStepOf, job_of_pieces, job_with_token, or_else}
use Rattle.cell_world.specs.Sound.{Sound, HasPiece, HasLog, HasJob, HasRow, HasShard, IsKeyOf, IsOwnedBy, IsBeingMoved, RowCells, JobTokens, JobCells, BatchRows, IsBatch, InBatch, IsAttachedIn, AreMappings}
use Rattle.cell_world.specs.Marked.{Marked, MarkedAt}
use Rattle.cell_world.specs.declared.operations.StageName.TheVariants.{TargetDone}
use Rattle.cell_world.specs.declared.operations.Piece.{Piece}
use Rattle.cell_world.specs.declared.operations.Op.{Op}
use Rattle.cell_world.specs.declared.operations.JobRow.{JobRow}
use Rattle.cell_world.specs.declared.cells.Token.{Token}
use Rattle.cell_world.specs.declared.cells.RowName.{RowName}
use Rattle.cell_world.proofs.KeyedLaws.{keyed-remove}
use Rattle.cell_world.proofs.SpanLaws.{same_is, same_self, overlaps_shared}
use Rattle.image_laws.proofs.OwnerLaws.{owner_stands, owner_key}
use Rattle.image_laws.proofs.MeaningLaws.{same_rows}
use Rattle.image_laws.proofs.RowOwners.{no_row}
use Rattle.cell_world.proofs.ListLaws.{all_at}
use Rattle.image_laws.specs.Fits.{Fits, AreLogged}
use Rattle.image_laws.proofs.CommitSites.{IsReady, unlogged_gives, ready_done, ready_elsewhere, committed_locals, committed_online}
use Rattle.image_laws.proofs.ExchangeLaws.{placed_exchanged}
use Rattle.image_laws.proofs.FitLaws.{fit_of_lawful, exchange, are_mappings_after, owner_stays, owner_was_old, new_owns, unowned_after}
use Rattle.image_laws.proofs.JobRange.{out_of_hull, job_stays, batch_stays, batch_in_range}
use Rattle.image_laws.proofs.JobTable.{step_stays}
use Rattle.image_laws.proofs.Lists.{any_from, any_gives}
use Rattle.image_laws.proofs.MarkingLaws.{done_from_marked}
use Rattle.image_laws.proofs.Places.{old_attached, new_attached}
use Rattle.image_laws.proofs.ShapeRows.{HaveToken, tokens_of, job_of_old, rows_follow, Follow}
use Rattle.cell_world.proofs.MappingLaws.{sound_mappings}
use Rattle.image_laws.proofs.SoundParts.{are_logged}
use Rattle.image_laws.proofs.StaysLawful.{AreApart, stays_lawful}

-- the location of one of the pieces, or of none
pub place_of : (pieces : List Piece) (l : Text) → ((p : Piece) × IsOneOf pieces p × (p.location ≡ l)) ⊎ ((p : Piece) → IsOneOf pieces p → p.location ≡ l → ⊥)
place_of pieces l = elim (cases_Bool (list_any (λ (p : Piece). same p.location l) pieces)) [
  | inl t ↦ let p = any_gives (λ (p : Piece). same p.location l) pieces t in inl (p.0, p.1, same_is p.0.location l p.2)
  | inr t ↦ inr (λ p among e. true≢false (sym (any_from (λ (p : Piece). same p.location l) pieces p among (ap (λ x. same x l) e ∙ same_self l)) ∙ t))
]

-- a job whose token one of the pieces has stands
pub job_stands_in : (jobs : Jobs) → ((k : ℕ) → IfSome (map.get jobs k) (λ x. x.number ≡ k)) → (pieces : List Piece) (job : JobRow) → job_of_pieces jobs pieces ≡ Some job → HasJob jobs job
job_stands_in jobs keyed [] job e = absurd (none-some job e)
job_stands_in jobs keyed (p ∷ ps) job e = by (job_with_token jobs p) refl (job_stands_in jobs keyed ps job)
  where
    of_token : (t : Option Token) → option_and_then (λ (k : Token). map.get jobs k.0) t ≡ Some job → HasJob jobs job
    of_token None e = absurd (none-some job e)
    of_token (Some k) e = ap (map.get jobs) (subst (λ o. IfSome o (λ (x : JobRow). x.number ≡ k.0)) e (keyed k.0)) ∙ e

    by : (o : Option JobRow) → job_with_token jobs p ≡ o → (job_of_pieces jobs ps ≡ Some job → HasJob jobs job) → HasJob jobs job
    by None f more = more (ap (λ o. or_else o (job_of_pieces jobs ps)) (sym f) ∙ e)
    by (Some k) f more = of_token p.token (f ∙ ap (λ o. or_else o (job_of_pieces jobs ps)) (sym f) ∙ e)

module _ (image : Image) (sound : Sound image) (op : Op) (law : Lawful image op) where
  abbrev g : Store
  g = global image

  abbrev locals : Text → Locals
  locals l = (image.at (Shard l)).locals

  pub maps_ok : AreMappings g.maps g.mappings
  maps_ok = sound_mappings image sound

  pub log_ok : AreLogged g.maps g.mappings g.log (next_operation image)
  log_ok = are_logged image sound

  pub fit : Fits g.maps g.mappings op
  fit = fit_of_lawful (read_tables image) maps_ok op law

  pub tokens : HaveToken (listed op.olds) (listed op.news)
  tokens = tokens_of (rows_at image) (listed op.olds) (listed op.news) law.shape

  abbrev pub after_mappings : Mappings
  after_mappings = exchanged g.mappings (listed op.olds) (listed op.news)

  exchanged_ok : AreMappings g.maps after_mappings
  exchanged_ok = are_mappings_after g.maps g.mappings maps_ok op.map op.hull (listed op.olds) (listed op.news) fit

  pub follow : (row : RowName) (o : Piece) → IsOneOf (listed op.olds) o → row.map ≡ o.map → IsTrue (contains o.span row.key) → Follow (rows_at image) (listed op.news) row o
  follow = rows_follow (rows_at image) (listed op.olds) (listed op.news) law.shape (λ o h. let s = maps_ok.spans o (fit.stand o h) in (s.0, s.1, s.3)) (λ n h. let s = fit.new_spans n h in (s.0, s.1, s.3))

  -- the row's key is in the operation's hull
  abbrev pub inside : RowName → Bool
  inside row = same row.map op.map && contains op.hull row.key

  pub stays_out : (row : RowName) → inside row ≡ false → owner_in g.maps after_mappings row.map row.key ≡ owner_in g.maps g.mappings row.map row.key
  stays_out row t = owner_stays g.maps g.mappings maps_ok op.map op.hull (listed op.olds) (listed op.news) fit row.map row.key
      (λ e x. true≢false (sym (and_from _ _ (subst (λ n. same n op.map ≡ true) (sym e) (same_self op.map)) x) ∙ t))

  pub old_owner : (row : RowName) → inside row ≡ true → (o : Piece) → owner_in g.maps g.mappings row.map row.key ≡ Some o → IsOneOf (listed op.olds) o
  old_owner row t o e =
      let both = and_parts (same row.map op.map) (contains op.hull row.key) t in
      owner_was_old g.maps g.mappings maps_ok op.map op.hull (listed op.olds) (listed op.news) fit o row.key both.1 (ap (λ name. owner_in g.maps g.mappings name row.key) (sym (same_is row.map op.map both.0)) ∙ e)

  pub new_owner : (row : RowName) → inside row ≡ true → IsKeyOf g.maps row.map row.key → (n : Piece) → IsOneOf (listed op.news) n → IsTrue (contains n.span row.key) → owner_in g.maps after_mappings row.map row.key ≡ Some n
  new_owner row t of_type n among holds =
      let of_map = same_is row.map op.map (and_parts (same row.map op.map) (contains op.hull row.key) t).0 in
      ap (λ name. owner_in g.maps after_mappings name row.key) of_map ∙ new_owns g.maps g.mappings maps_ok op.map op.hull (listed op.olds) (listed op.news) fit n among row.key (subst (λ name. IsKeyOf g.maps name row.key) of_map of_type) holds

  -- ---- the rows of the meaning

  abbrev found : RowName → Piece → Option Text
  found row p = cond (is_attached_at image.locations g.away p.location) (map.get (rows_at image p.location) row) None

  found_at : (row : RowName) (p : Piece) → IsAttachedIn image p.location → found row p ≡ map.get (rows_at image p.location) row
  found_at row p here = ap (λ b. cond b (map.get (rows_at image p.location) row) None) (λ i. here.known i && here.attached i)

  pub same_row : (row : RowName) → option_and_then (found row) (owner_in g.maps after_mappings row.map row.key) ≡ option_and_then (found row) (owner_in g.maps g.mappings row.map row.key)
  same_row row = elim (cases_Bool (inside row)) [
    | inr t ↦ ap (option_and_then (found row)) (stays_out row t)
    | inl t ↦ within t (owner_in g.maps g.mappings row.map row.key) refl
  ]
    where
      unowned : (o : Option Piece) → owner_in g.maps after_mappings row.map row.key ≡ o → owner_in g.maps g.mappings row.map row.key ≡ None → inside row ≡ true → option_and_then (found row) o ≡ None
      unowned None e none t = refl
      unowned (Some n) e none t = let s = owner_stands g.maps after_mappings exchanged_ok.placed row.map row.key n e in
          elim ((exchange g.maps g.mappings maps_ok op.map op.hull (listed op.olds) (listed op.news) fit).back n s.0) [
            | inl new ↦ let here = new_attached image op law n new in found_at row n here ∙ no_row image sound n.location here row none
            | inr old ↦ absurd (old.1 (fit.all_olds n old.0 (s.1 ∙ same_is row.map op.map (and_parts (same row.map op.map) (contains op.hull row.key) t).0) (shared n s.2 t)))
          ]
        where
          shared : (n : Piece) → IsTrue (contains n.span row.key) → inside row ≡ true → IsTrue (overlaps n.span op.hull)
          shared n h t = overlaps_shared n.span op.hull row.key h (and_parts (same row.map op.map) (contains op.hull row.key) t).1

      within : inside row ≡ true → (o : Option Piece) → owner_in g.maps g.mappings row.map row.key ≡ o
          → option_and_then (found row) (owner_in g.maps after_mappings row.map row.key) ≡ option_and_then (found row) (owner_in g.maps g.mappings row.map row.key)
      within t None e = unowned (owner_in g.maps after_mappings row.map row.key) refl e t ∙ sym (ap (option_and_then (found row)) e)
      within t (Some o) e =
          let among = old_owner row t o e in
          let s = owner_stands g.maps g.mappings maps_ok.placed row.map row.key o e in
          let of_type = owner_key g.maps g.mappings maps_ok.placed row.map row.key o e in
          let before : option_and_then (found row) (owner_in g.maps g.mappings row.map row.key) ≡ map.get (rows_at image o.location) row = ap (option_and_then (found row)) e ∙ found_at row o (old_attached image op law o among) in
          elim (follow row o among (sym s.1) s.2) [
            | inl n ↦ ap (option_and_then (found row)) (new_owner row t of_type n.0 n.1 n.2) ∙ found_at row n.0 (new_attached image op law n.0 n.1) ∙ n.3 ∙ sym before
            | inr none ↦
                let both = and_parts (same row.map op.map) (contains op.hull row.key) t in
                ap (option_and_then (found row)) (ap (λ name. owner_in g.maps after_mappings name row.key) (same_is row.map op.map both.0) ∙ unowned_after g.maps g.mappings maps_ok op.map op.hull (listed op.olds) (listed op.news) fit none.0 row.key both.1)
                ∙ sym (before ∙ none.1)
          ]

  -- ---- sites

  pub ready : HasLog g.log op → Marked image op TargetDone → (l : Text) → IsAttachedIn image l → IsReady g.maps g.log op l (locals l)
  ready logged marked l here = elim (place_of (listed op.olds) l) [
    | inl o ↦ done (subst (λ x. MarkedAt g.log op x (locals x)) o.2 (all_at (λ (p : Piece). MarkedAt g.log op p.location (locals p.location)) (listed op.olds) marked.1 o.0 o.1))
    | inr not_old ↦ elim (place_of (listed op.news) l) [
      | inl n ↦ done (subst (λ x. MarkedAt g.log op x (locals x)) n.2 (all_at (λ (p : Piece). MarkedAt g.log op p.location (locals p.location)) (listed op.news) marked.2 n.0 n.1))
      | inr not_new ↦ ready_elsewhere g.maps g.mappings maps_ok g.log (next_operation image) log_ok op logged l (locals l) (sound.locals l here) (sound.online l here) (record { no_old = not_old; no_new = not_new })
    ]
  ]
    where
      done : MarkedAt g.log op l (locals l) → IsReady g.maps g.log op l (locals l)
      done k = ready_done g.maps g.mappings maps_ok g.log (next_operation image) log_ok op logged l (locals l) (sound.locals l here)
          (done_from_marked g.maps g.mappings maps_ok g.log (next_operation image) log_ok op logged l (locals l) (sound.locals l here) (sound.keyed Global).log k)

  -- ---- the image

  module _ (jobs : Jobs) where
    abbrev pub committed : Image
    committed = with_store image Global (record g { mappings = after_mappings; jobs = jobs; log = map.remove g.log op.number })

    -- The meaning has the mappings exchanged and these jobs, and nothing else changes.
    pub commit_meaning : meaning committed ≡ record (meaning image) { mappings = after_mappings; jobs = jobs }
    commit_meaning = λ i. record (meaning committed) { rows = same_rows committed image same_row i }

    -- what is said of jobs, and of rows, after the commit
    pub record JobParts : Type 0 where
      pub keyed : (k : ℕ) → IfSome (map.get jobs k) (λ job. job.number ≡ k)
      pub rows : (l : Text) → IsAttachedIn image l → RowCells g.maps g.tables (owner_in g.maps after_mappings) jobs l (rows_at image l)
      pub batches : (job : JobRow) → HasJob jobs job → BatchRows job job.phase (rows_at image job.source) (rows_at image job.target)
      pub cells : (job : JobRow) → HasJob jobs job → JobCells g.maps g.shards after_mappings (next_job image) job
      pub progress : (job : JobRow) → HasJob jobs job → IsBatch image.locations g.away after_mappings job job.phase
      pub tokens : JobTokens after_mappings jobs
      pub steps : (other : Op) → Lawful image other → AreApart op other → IsOfJob (read_tables committed) other (job_of_pieces jobs (listed other.olds))

    keep_keyed : JobParts → (place : Place) → IsKeyed (committed.at place)
    keep_keyed parts Global =
        let h = sound.keyed Global in
        record { mappings = placed_exchanged (listed op.olds) (listed op.news) g.mappings h.mappings; log = keyed-remove nat_cmp_total (λ (o : Op). o.number) exact_unsigned g.log op.number h.log; jobs = parts.keyed; locals = h.locals }
    keep_keyed parts (Shard l) = sound.keyed (Shard l)

    on_shards : (p : Piece) → HasPiece after_mappings p → HasShard g.shards p.map p.location
    on_shards p h = elim ((exchange g.maps g.mappings maps_ok op.map op.hull (listed op.olds) (listed op.news) fit).back p h) [
      | inl new ↦ subst (λ name. HasShard g.shards name p.location) (sym (fit.new_map p new)) (all_at (λ (n : Piece). IsTrue (set.contains g.shards (op.map, n.location))) (listed op.news) law.on_shards p new)
      | inr old ↦ sound.globals.on_shards p old.0
    ]

    -- An operation that is apart stays lawful.
    pub made_lawful : (other : Op) → Lawful image other → AreApart op other → JobParts → Lawful committed other
    made_lawful other theirs apart parts = stays_lawful (read_tables image) maps_ok op.map op.hull (listed op.olds) (listed op.news) fit other theirs apart jobs (parts.steps other theirs apart)

    -- The image stays sound.
    pub commit_sound : HasLog g.log op → Marked image op TargetDone → JobParts → Sound committed
    commit_sound logged marked parts = record {
      keyed = keep_keyed parts;
      globals = record {
        shards = sound.globals.shards;
        tables = sound.globals.tables;
        operations = sound.globals.operations;
        jobs = sound.globals.jobs;
        spans = exchanged_ok.spans;
        on_shards = on_shards;
        disjoint = exchanged_ok.disjoint;
      };
      logged = record {
        lawful = λ other h.
            let u = unlogged_gives g.log op.number other.number other h in
            made_lawful other (sound.logged.lawful other u.1) (λ e over. u.0 (ap (λ (x : Op). x.number) (sym (sound.logged.hulls op other logged u.1 e over)))) parts;
        numbered = λ other h. sound.logged.numbered other (unlogged_gives g.log op.number other.number other h).1;
        hulls = λ a b h k. sound.logged.hulls a b (unlogged_gives g.log op.number a.number a h).1 (unlogged_gives g.log op.number b.number b k).1;
      };
      locals = λ l here. committed_locals g.maps g.mappings maps_ok g.log (next_operation image) log_ok op logged l (locals l) (sound.locals l here) (ready logged marked l here);
      online = λ l here. committed_online g.maps g.mappings maps_ok g.log (next_operation image) log_ok op logged l (locals l) (sound.locals l here) (ready logged marked l here) (sound.online l here);
      rows = parts.rows;
      batches = parts.batches;
      suspect = sound.suspect;
      jobs = parts.cells;
      progress = parts.progress;
      tokens = parts.tokens;
    }

  -- ---- tokens

  -- A token that is a job's stays one, where the job's number and map stay.
  pub keep_tokens : (jobs : Jobs) → ((job : JobRow) → HasJob g.jobs job → (now : JobRow) × HasJob jobs now × (now.number ≡ job.number) × (now.map ≡ job.map)) → JobTokens after_mappings jobs
  keep_tokens jobs stay p h = elim ((exchange g.maps g.mappings maps_ok op.map op.hull (listed op.olds) (listed op.news) fit).back p h) [
    | inl new ↦ now p (of_new p new (listed op.olds) refl)
    | inr old ↦ now p (sound.tokens p old.0)
  ]
    where
      OfJob : Jobs → Text → Option Token → Type 0
      OfJob js name t = IfSome t (λ token. token.0 < 2 ^ 64 → (job : JobRow) × HasJob js job × (job.number ≡ token.0) × (job.map ≡ name))

      now : (p : Piece) → OfJob g.jobs p.map p.token → OfJob jobs p.map p.token
      now p = by p.token
        where
          by : (t : Option Token) → OfJob g.jobs p.map t → OfJob jobs p.map t
          by None h = h
          by (Some token) h = λ small. let o = h small in let n = stay o.0 o.1 in (n.0, n.1, n.2 ∙ o.2, n.3 ∙ o.3)

      of_new : (p : Piece) → IsOneOf (listed op.news) p → (olds : List Piece) → listed op.olds ≡ olds → OfJob g.jobs p.map p.token
      of_new p new [] e = subst (OfJob g.jobs p.map) (sym (tokens.of_new p new ∙ tokens.added e)) tt
      of_new p new (o ∷ os) e =
          let among : IsOneOf (listed op.olds) o = subst (λ xs. IsOneOf xs o) (sym e) (inl refl) in
          let same_token : o.token ≡ p.token = tokens.of_old o among ∙ sym (tokens.of_new p new) in
          let same_map : o.map ≡ p.map = fit.old_map o among ∙ sym (fit.new_map p new) in
          subst (λ name. OfJob g.jobs name p.token) same_map (subst (OfJob g.jobs o.map) same_token (sound.tokens o (fit.stand o among)))

  -- the job that the operation is no step of is that of none of its olds
  pub not_token : (job : JobRow) → (job_of_pieces g.jobs (listed op.olds) ≡ Some job → ⊥) → (o : Piece) → IsOneOf (listed op.olds) o → job_with_token g.jobs o ≡ Some job → ⊥
  not_token job ne o among e = ne (job_of_old g.jobs (listed op.olds) (listed op.news) tokens o among job e)

  -- ---- rows

  -- A row of a site that owns its key is, after the commit, owned there too, or it stands at a new one's site in a batch in progress.
  pub row_placed : (l : Text) → (row : RowName) → HasRow (rows_at image l) row → IsOwnedBy (owner_of image) row.map row.key l
      → IsOwnedBy (owner_in g.maps after_mappings) row.map row.key l
      ⊎ (IsTrue (inside row) × ((n : Piece) × IsOneOf (listed op.news) n × IsBeingMoved g.maps g.jobs row.map row.key n.location))
  row_placed l row has w = elim (cases_Bool (inside row)) [
    | inr t ↦ inl (w.0, stays_out row t ∙ w.1, w.2)
    | inl t ↦ within t
  ]
    where
      within : inside row ≡ true → IsOwnedBy (owner_in g.maps after_mappings) row.map row.key l ⊎ (IsTrue (inside row) × ((n : Piece) × IsOneOf (listed op.news) n × IsBeingMoved g.maps g.jobs row.map row.key n.location))
      within t =
          let among = old_owner row t w.0 w.1 in
          let s = owner_stands g.maps g.mappings maps_ok.placed row.map row.key w.0 w.1 in
          let of_type = owner_key g.maps g.mappings maps_ok.placed row.map row.key w.0 w.1 in
          let has_old : HasRow (rows_at image w.0.location) row = subst (λ x. HasRow (rows_at image x) row) (sym w.2) has in
          elim (follow row w.0 among (sym s.1) s.2) [
            | inl n ↦ elim ((sound.rows n.0.location (new_attached image op law n.0 n.1)).placed row (ap is_some n.3 ∙ has_old)) [
              | inl v ↦ let is : v.0 ≡ w.0 = same_Some v.0 w.0 (sym v.1 ∙ w.1) in inl (n.0, new_owner row t of_type n.0 n.1 n.2, sym v.2 ∙ ap (λ (p : Piece). p.location) is ∙ w.2)
              | inr v ↦ inr (t, (n.0, n.1, v))
            ]
            | inr none ↦ absurd (true≢false (sym has_old ∙ ap is_some none.1))
          ]

  -- the keys of a batch of a job that the operation is no step of are outside the hull
  pub batch_outside : (job : JobRow) → HasJob g.jobs job → (job_of_pieces g.jobs (listed op.olds) ≡ Some job → ⊥) → (row : RowName) → IsTrue (inside row) → job.map ≡ row.map → InBatch job row.key → IsKeyOf g.maps row.map row.key → ⊥
  batch_outside job stands not_of row t of_map in_batch of_type =
      let both = and_parts (same row.map op.map) (contains op.hull row.key) t in
      let j = sound.jobs job stands in
      let range = batch_in_range g.maps g.mappings maps_ok g.shards (next_job image) job j image.locations g.away (sound.progress job stands) row.key in_batch (subst (λ name. IsKeyOf g.maps name row.key) (sym of_map) of_type) in
      out_of_hull g.maps g.mappings maps_ok g.jobs op.map op.hull (listed op.olds) (listed op.news) fit g.shards (next_job image) job stands j (not_token job not_of) row.key range (of_map ∙ same_is row.map op.map both.0) both.1

  pub job_stands : (pieces : List Piece) (job : JobRow) → job_of_pieces g.jobs pieces ≡ Some job → HasJob g.jobs job
  job_stands = job_stands_in g.jobs (sound.keyed Global).jobs

  -- A step of a job that the operation is no step of stays one.
  pub step_of_other : (jobs : Jobs) (job : JobRow) → HasJob g.jobs job → (job_of_pieces g.jobs (listed op.olds) ≡ Some job → ⊥) → (other : Op) → IsStepOf (read_tables image) job other → IsStepOf (read_tables (committed jobs)) job other
  step_of_other jobs job stands not_of other h = record {
    row = step_stays g.maps g.mappings maps_ok g.jobs op.map op.hull (listed op.olds) (listed op.news) fit g.shards (next_job image) job stands (sound.jobs job stands) (not_token job not_of) image.locations g.away (sound.progress job stands) (listed other.olds) (listed other.news) other.extra h.row;
    emptied = h.emptied;
  }

  -- ---- an operation of no job

  module _ (no_job : job_of_pieces g.jobs (listed op.olds) ≡ None) where
    not_of : (job : JobRow) → job_of_pieces g.jobs (listed op.olds) ≡ Some job → ⊥
    not_of job e = none-some job (sym no_job ∙ e)

    -- What is said of jobs and rows stays.
    pub parts_without_job : JobParts g.jobs
    parts_without_job = record {
      keyed = (sound.keyed Global).jobs;
      rows = λ l here. record {
        in_table = (sound.rows l here).in_table;
        placed = λ row has. elim ((sound.rows l here).placed row has) [
          | inr moved ↦ inr moved
          | inl w ↦ elim (row_placed l row has w) [
            | inl owned ↦ inl owned
            | inr m ↦ let v = m.1.2 in absurd (batch_outside v.job v.stands (not_of v.job) row m.0 v.of_map v.in_batch v.of_type)
          ]
        ];
      };
      batches = sound.batches;
      cells = λ job h. job_stays g.maps g.mappings maps_ok g.jobs op.map op.hull (listed op.olds) (listed op.news) fit g.shards (next_job image) job h (sound.jobs job h) (not_token job (not_of job));
      progress = λ job h. batch_stays g.maps g.mappings maps_ok g.jobs op.map op.hull (listed op.olds) (listed op.news) fit g.shards (next_job image) job h (sound.jobs job h) (not_token job (not_of job)) image.locations g.away (sound.progress job h);
      tokens = keep_tokens g.jobs (λ job h. (job, h, refl, refl));
      steps = λ other theirs apart. by other (job_of_pieces g.jobs (listed other.olds)) refl theirs.job;
    }
      where
        by : (other : Op) (o : Option JobRow) → job_of_pieces g.jobs (listed other.olds) ≡ o → IsOfJob (read_tables image) other o → IsOfJob (read_tables (committed g.jobs)) other o
        by other None e h = h
        by other (Some job) e h = step_of_other g.jobs job (job_stands (listed other.olds) job e) (not_of job) other h
