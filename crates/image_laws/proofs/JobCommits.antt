-- The commit of each step of a job keeps what is said of jobs and rows.
use Rattle.std.proofs.Common.{◌≡◌, ◌≢◌, ◌⊎◌, ℕ, true, refl, sym, ap, ◌∙◌, subst, Some, None, Option, inl, inr, true≢false, List, ◌++◌, is_some}
use Rattle.std.specs.Prelude.{IsTrue}
use Rattle.std.specs.List.{AllByRecursion}
use Rattle.std.specs.FinMap as map
use Rattle.std.proofs.lemmas.Cmp.{nat_cmp_total}
use Rattle.std.proofs.lemmas.Map.Lookups.{exact_unsigned}
use Rattle.std.proofs.lemmas.Option.{same_Some, none-some}
use Rattle.std.proofs.lemmas.Bool.{and_parts, and_from}
use Rattle.std.proofs.lemmas.Bool.Decides.{eqb_tells}
use Rattle.cell_world.specs.Texts.{Text}
use Rattle.cell_world.specs.Lists.{IsOneOf}
use Rattle.cell_world.specs.Orders.{row_cmp}
use Rattle.cell_world.specs.Keys.{same, contains}
use Rattle.cell_world.specs.Spelled.{listed}
use Rattle.cell_world.specs.Stores.{Store, Mappings, Jobs, Rows}
use Rattle.cell_world.specs.Images.{Image, Global, global}
use Rattle.cell_world.specs.Operations.{sites_of, locations_of, sites_of_extra}
use Rattle.cell_world.specs.Plain.{owner_in}
use Rattle.cell_world.specs.Meaning.{owner_of, next_job}
use Rattle.cell_world.specs.Lawful.{read_tables, rows_at, Lawful, IsOfJob, IsEmptied, IsAttached, job_of_pieces, rows_under}
use Rattle.cell_world.specs.Sound.{Sound, HasJob, HasRow, IsKeyOf, IsOwnedBy, IsBeingMoved, IsSiteOfJob, InBatch, BatchRows, IsBatch, IsAttachedIn, batch_high}
use Rattle.cell_world.specs.declared.operations.Piece.{Piece}
use Rattle.cell_world.specs.declared.operations.Op.{Op}
use Rattle.cell_world.specs.declared.operations.JobRow.{JobRow}
use Rattle.cell_world.specs.declared.operations.Phase.{Phase}
use Rattle.cell_world.specs.declared.operations.Phase.TheVariants.{Idle, Copying, Moved}
use Rattle.cell_world.specs.declared.operations.Extra.TheVariants as extra
use Rattle.cell_world.specs.declared.cells.RowName.{RowName}
use Rattle.cell_world.specs.declared.spans.High.{High}
use Rattle.cell_world.specs.declared.spans.High.TheVariants.{At}
use Rattle.cell_world.specs.declared.spans.Span.TheVariants.{Range}
use Rattle.cell_world.proofs.StoreLaws.{get-insert_same, get-insert_other}
use Rattle.cell_world.proofs.KeyedLaws.{keyed-insert}
use Rattle.cell_world.proofs.SpanLaws.{same_is, same_self}
use Rattle.image_laws.proofs.OwnerLaws.{owner_stands, owner_key}
use Rattle.cell_world.specs.Marked.{jobs_after}
use Rattle.cell_world.proofs.ListLaws.{all_at, in_second}
use Rattle.image_laws.proofs.CommitImages.{maps_ok, fit, tokens, after_mappings, inside, follow, old_owner, JobParts, batch_outside, parts_without_job}
use Rattle.image_laws.proofs.JobImages.{has, step, one_job, not_other, parts_with_job}
use Rattle.image_laws.proofs.JobKinds.{StepKind, Merging, Splitting, Batching, BatchStep, BatchKind, Off, Move, On, step_kind}
use Rattle.image_laws.proofs.JobRange.{batch_in_range, InRange}
use Rattle.image_laws.proofs.JobSteps.{StayPut, cut_cells, split_put, merge_put, batch_cells, batch_progress, at_source, in_hull, owned_new, old_among, new_among, new_span}
use Rattle.image_laws.proofs.ShapeLaws.{of_one}
use Rattle.image_laws.proofs.ShapeRows.{under}

module _ (image : Image) (sound : Sound image) (op : Op) (law : Lawful image op) (job : JobRow) (of_job : job_of_pieces (global image).jobs (listed op.olds) ≡ Some job) where
  abbrev g : Store
  g = global image

  abbrev olds : List Piece
  olds = listed op.olds

  abbrev news : List Piece
  news = listed op.news

  abbrev after : Mappings
  after = after_mappings image sound op law

  abbrev job_has : HasJob g.jobs job
  job_has = has image sound op law job of_job

  idle_out : job.phase ≡ Idle → (key : Text) → InBatch job key → ⊥
  idle_out idle key i = let none : None ≡ Some i.1 = subst (λ f. batch_high f ≡ Some i.1) idle i.3 in none-some i.1 none

  of_map : (o : Piece) → IsOneOf olds o → o.map ≡ job.map → op.map ≡ job.map
  of_map o among e = sym ((fit image sound op law).old_map o among) ∙ e

  -- ---- merge and split

  cut_parts : job.phase ≡ Idle → (e : op.map ≡ job.map) → StayPut g.maps g.mappings (maps_ok image sound op law) op (fit image sound op law) (tokens image sound op law) g.shards (next_job image) job (sound.jobs job job_has) e → JobParts image sound op law g.jobs
  cut_parts idle e put = parts_with_job image sound op law job of_job job refl refl g.jobs (sound.keyed Global).jobs job_has (λ k ne. refl)
      (cut_cells g.maps g.mappings (maps_ok image sound op law) op (fit image sound op law) (tokens image sound op law) g.shards (next_job image) job (sound.jobs job job_has) e put)
      (subst (λ f. IsBatch image.locations g.away after job f) (sym idle) tt)
      (sound.batches job job_has)
      (λ l here row h i. absurd (idle_out idle row.key i))
      (λ l row h w t i. absurd (idle_out idle row.key i))

  -- ---- offline, move and online of a batch

  module _ (b : BatchStep g.maps g.mappings job olds news op.extra) where
    abbrev jobs : Jobs
    jobs = map.insert g.jobs b.now.number b.now

    batch_of_map : op.map ≡ job.map
    batch_of_map =
        let s = owner_stands g.maps g.mappings (maps_ok image sound op law).placed job.map b.low b.old b.owner in
        sym ((fit image sound op law).old_map b.old (subst (λ ps. IsOneOf ps b.old) (sym b.old_are) (inl refl))) ∙ s.1

    abbrev old_in : IsOneOf olds b.old
    old_in = old_among g.maps g.mappings (maps_ok image sound op law) op (fit image sound op law) (tokens image sound op law) g.shards (next_job image) job (sound.jobs job job_has) batch_of_map b

    abbrev new_in : IsOneOf news b.new
    new_in = new_among g.maps g.mappings (maps_ok image sound op law) op (fit image sound op law) (tokens image sound op law) g.shards (next_job image) job (sound.jobs job job_has) batch_of_map b

    abbrev span_of_new : b.new.span ≡ Range b.low b.end
    span_of_new = new_span g.maps g.mappings (maps_ok image sound op law) op (fit image sound op law) (tokens image sound op law) g.shards (next_job image) job (sound.jobs job job_has) batch_of_map b

    -- the job keeps its number, its map and its sites
    same_number : b.now.number ≡ job.number
    same_number = by b.kind
      where
        by : BatchKind job b.end b.old b.new b.now → b.now.number ≡ job.number
        by (Off f n w) = ap (λ (x : JobRow). x.number) w
        by (Move f s l n w) = ap (λ (x : JobRow). x.number) w
        by (On f l n w) = ap (λ (x : JobRow). x.number) w

    same_map : b.now.map ≡ job.map
    same_map = by b.kind
      where
        by : BatchKind job b.end b.old b.new b.now → b.now.map ≡ job.map
        by (Off f n w) = ap (λ (x : JobRow). x.map) w
        by (Move f s l n w) = ap (λ (x : JobRow). x.map) w
        by (On f l n w) = ap (λ (x : JobRow). x.map) w

    same_source : b.now.source ≡ job.source
    same_source = by b.kind
      where
        by : BatchKind job b.end b.old b.new b.now → b.now.source ≡ job.source
        by (Off f n w) = ap (λ (x : JobRow). x.source) w
        by (Move f s l n w) = ap (λ (x : JobRow). x.source) w
        by (On f l n w) = ap (λ (x : JobRow). x.source) w

    same_target : b.now.target ≡ job.target
    same_target = by b.kind
      where
        by : BatchKind job b.end b.old b.new b.now → b.now.target ≡ job.target
        by (Off f n w) = ap (λ (x : JobRow). x.target) w
        by (Move f s l n w) = ap (λ (x : JobRow). x.target) w
        by (On f l n w) = ap (λ (x : JobRow). x.target) w

    -- both sites of the job are attached
    sites : IsAttached image.locations g.away job.source × IsAttached image.locations g.away job.target
    sites = (subst Here same_source (at_extra b.now.source (inl refl)), subst Here same_target (at_extra b.now.target (inr (inl refl))))
      where
        Here : Text → Type 0
        Here l = IsAttached image.locations g.away l

        at_extra : (l : Text) → IsOneOf (sites_of_extra (extra.JobPut b.now)) l → Here l
        at_extra l h = all_at (IsAttached image.locations g.away) (sites_of op) law.attached l
            (in_second (locations_of olds ++ locations_of news) (sites_of_extra op.extra) l (subst (λ x. IsOneOf (sites_of_extra x) l) (sym b.put_is) h))

    -- a key of the batch in progress is one of [low, end)
    in_span_of : (end : High) (key : Text) (i : InBatch job key) → batch_high job.phase ≡ Some end → end ≡ b.end → IsTrue (contains (Range b.low b.end) key)
    in_span_of end key i e is =
        let ends : i.1 ≡ b.end = same_Some i.1 end (sym i.3 ∙ e) ∙ is in
        let lows : i.0 ≡ b.low = (let both : At i.0 ≡ At b.low = sym i.2 ∙ b.cursor in cc) in
        (λ j. contains (Range (sym lows j) (sym ends j)) key) ∙ i.4

    phase_high : (f : Phase) → job.phase ≡ f → batch_high f ≡ Some b.end → batch_high job.phase ≡ Some b.end
    phase_high f e h = ap batch_high e ∙ h

    -- the batch's keys are one and the same before and after the move
    moved_batch : (f : Phase) → job.phase ≡ Copying b.end → b.now ≡ record job { phase = Moved b.end } → (key : Text) → InBatch job key → InBatch b.now key
    moved_batch f e w key i = subst (λ (x : JobRow). InBatch x key) (sym w) (i.0, i.1, i.2, sym (phase_high (Copying b.end) e refl) ∙ i.3, i.4)

    job_key : (row : RowName) → job.map ≡ row.map → IsKeyOf g.maps row.map row.key → InBatch job row.key → InRange g.maps g.mappings (maps_ok image sound op law) g.shards (next_job image) job (sound.jobs job job_has) row.key
    job_key row e of_type i = batch_in_range g.maps g.mappings (maps_ok image sound op law) g.shards (next_job image) job (sound.jobs job job_has) image.locations g.away (sound.progress job job_has) row.key i (subst (λ n. IsKeyOf g.maps n row.key) (sym e) of_type)

    -- the batch's mapping owns its keys after the commit
    new_owner_of : (row : RowName) → job.map ≡ row.map → IsKeyOf g.maps row.map row.key → (i : InBatch job row.key) → IsTrue (contains (Range b.low b.end) row.key) → owner_in g.maps after row.map row.key ≡ Some b.new
    new_owner_of row e of_type i inside = subst (λ n. owner_in g.maps after n row.key ≡ Some b.new) e
        (owned_new g.maps g.mappings (maps_ok image sound op law) op (fit image sound op law) (tokens image sound op law) g.shards (next_job image) job (sound.jobs job job_has) batch_of_map row.key (job_key row e of_type i) b.new new_in (subst (λ s. IsTrue (contains s row.key)) (sym span_of_new) inside))

    now_stands : HasJob jobs b.now
    now_stands = get-insert_same nat_cmp_total g.jobs b.now.number b.now

    -- before an online the source has no row of the batch
    emptied : job.phase ≡ Moved b.end → (row : RowName) → job.map ≡ row.map → IsTrue (contains (Range b.low b.end) row.key) → map.get (rows_at image job.source) row ≡ None
    emptied f row e inside =
        let all : AllByRecursion (λ (o : Piece). rows_under (rows_at image job.source) job.map o.span ≡ map.empty) olds = subst (λ x. IsEmptied (rows_at image) job x olds) f (step image sound op law job of_job).emptied in
        let empty = all_at (λ (o : Piece). rows_under (rows_at image job.source) job.map o.span ≡ map.empty) olds all b.old old_in in
        sym (under (rows_at image job.source) job.map b.old.span row (sym e) (subst (λ s. IsTrue (contains s row.key)) (sym b.span) inside)) ∙ ap (λ (r : Rows). map.get r row) empty ∙ map.get-empty row_cmp row

    moved : (l : Text) → IsAttachedIn image l → (row : RowName) → HasRow (rows_at image l) row → InBatch job row.key → job.map ≡ row.map → IsSiteOfJob l job → IsKeyOf g.maps row.map row.key
        → IsOwnedBy (owner_in g.maps after) row.map row.key l ⊎ IsBeingMoved g.maps jobs row.map row.key l
    moved l here row h i e at_site of_type = by b.kind
      where
        by : BatchKind job b.end b.old b.new b.now → IsOwnedBy (owner_in g.maps after) row.map row.key l ⊎ IsBeingMoved g.maps jobs row.map row.key l
        by (Off f n w) = absurd (idle_out f row.key i)
        by (Move f s at n w) = inr (record { job = b.now; stands = now_stands; of_map = same_map ∙ e; at_site = site at_site; in_batch = moved_batch (Copying b.end) f w row.key i; of_type = of_type })
          where
            site : IsSiteOfJob l job → IsSiteOfJob l b.now
            site (inl x) = inl (x ∙ sym same_source)
            site (inr x) = inr (x ∙ sym same_target)
        by (On f at n w) = of_site at_site
          where
            inside_batch : IsTrue (contains (Range b.low b.end) row.key)
            inside_batch = in_span_of b.end row.key i (phase_high (Moved b.end) f refl) refl

            of_site : IsSiteOfJob l job → IsOwnedBy (owner_in g.maps after) row.map row.key l ⊎ IsBeingMoved g.maps jobs row.map row.key l
            of_site (inr x) = inl (b.new, new_owner_of row e of_type i inside_batch, ap (λ (p : Piece). p.location) n ∙ at ∙ sym x)
            of_site (inl x) =
                let there : HasRow (rows_at image job.source) row = subst (λ y. HasRow (rows_at image y) row) x h in
                absurd (true≢false (sym there ∙ ap is_some (emptied f row e inside_batch)))

    placed : (l : Text) → (row : RowName) → HasRow (rows_at image l) row → IsOwnedBy (owner_of image) row.map row.key l → IsTrue (inside image sound op law row) → InBatch job row.key
        → IsOwnedBy (owner_in g.maps after) row.map row.key l ⊎ IsBeingMoved g.maps jobs row.map row.key l
    placed l row h w t i = by b.kind
      where
        both : IsTrue (same row.map op.map) × IsTrue (contains op.hull row.key)
        both = and_parts (same row.map op.map) (contains op.hull row.key) t

        e : job.map ≡ row.map
        e = sym batch_of_map ∙ sym (same_is row.map op.map both.0)

        of_type : IsKeyOf g.maps row.map row.key
        of_type = owner_key g.maps g.mappings (maps_ok image sound op law).placed row.map row.key w.0 w.1

        -- the owner is the batch's mapping
        is_old : w.0 ≡ b.old
        is_old = sym (of_one (λ x. b.old ≡ x) refl w.0 (subst (λ ps. IsOneOf ps w.0) b.old_are (old_owner image sound op law row t w.0 w.1)))

        at_old : b.old.location ≡ l
        at_old = ap (λ (p : Piece). p.location) (sym is_old) ∙ w.2

        by : BatchKind job b.end b.old b.new b.now → IsOwnedBy (owner_in g.maps after) row.map row.key l ⊎ IsBeingMoved g.maps jobs row.map row.key l
        by (Off f n z) = absurd (idle_out f row.key i)
        by (Move f s at n z) = inr (record { job = b.now; stands = now_stands; of_map = same_map ∙ e; at_site = inl (sym at_old ∙ at ∙ sym same_source); in_batch = moved_batch (Copying b.end) f z row.key i; of_type = of_type })
        by (On f at n z) = inl (b.new, new_owner_of row e of_type i (in_span_of b.end row.key i (phase_high (Moved b.end) f refl) refl), ap (λ (p : Piece). p.location) n ∙ at_old)

    -- a row of the batch is in the hull
    row_inside : (row : RowName) → row.map ≡ job.map → IsTrue (contains (Range b.low b.end) row.key) → IsTrue (inside image sound op law row)
    row_inside row e h = and_from _ _ (subst (λ n. same n op.map ≡ true) (batch_of_map ∙ sym e) (same_self op.map))
        (in_hull g.maps g.mappings (maps_ok image sound op law) op (fit image sound op law) (tokens image sound op law) g.shards (next_job image) job (sound.jobs job job_has) batch_of_map b row.key h)

    -- before the batch is copied the target has no row of it
    none_at_target : job.phase ≡ Idle → (row : RowName) → row.map ≡ job.map → IsTrue (contains (Range b.low b.end) row.key) → HasRow (rows_at image job.target) row → ⊥
    none_at_target idle row e h there = elim ((sound.rows job.target sites.1).placed row there) [
      | inl w ↦
          let is : w.0 ≡ b.old = sym (of_one (λ x. b.old ≡ x) refl w.0 (subst (λ ps. IsOneOf ps w.0) b.old_are (old_owner image sound op law row (row_inside row e h) w.0 w.1))) in
          let source = at_source g.maps g.mappings (maps_ok image sound op law) op (fit image sound op law) (tokens image sound op law) g.shards (next_job image) job (sound.jobs job job_has) batch_of_map b idle in
          (sound.jobs job job_has).source (sym source ∙ ap (λ (p : Piece). p.location) (sym is) ∙ w.2)
      | inr v ↦ elim (eqb_tells v.job.number job.number) [
        | inl t ↦ idle_out idle row.key (subst (λ (x : JobRow). InBatch x row.key) (one_job image sound op law job of_job v.job v.stands t.1) v.in_batch)
        | inr t ↦ batch_outside image sound op law v.job v.stands (not_other image sound op law job of_job v.job t.1) row (row_inside row e h) v.of_map v.in_batch v.of_type
      ]
    ]

    -- the rows that a move finds at the target
    moved_rows : b.old.location ≡ job.source → b.new ≡ record b.old { location = job.target } → (row : RowName) → row.map ≡ job.map → IsTrue (contains (Range b.low b.end) row.key) → (bytes : Text)
        → map.get (rows_at image job.source) row ≡ Some bytes → map.get (rows_at image job.target) row ≡ Some bytes
    moved_rows at n row e h bytes there =
        let old_map : row.map ≡ b.old.map = e ∙ sym batch_of_map ∙ sym ((fit image sound op law).old_map b.old old_in) in
        elim (follow image sound op law row b.old old_in old_map (subst (λ s. IsTrue (contains s row.key)) (sym b.span) h)) [
          | inl f ↦
              let is : b.new ≡ f.0 = of_one (λ x. b.new ≡ x) refl f.0 (subst (λ ps. IsOneOf ps f.0) b.new_are f.1) in
              let target : f.0.location ≡ job.target = ap (λ (p : Piece). p.location) (sym is) ∙ ap (λ (p : Piece). p.location) n in
              ap (λ l. map.get (rows_at image l) row) (sym target) ∙ f.3 ∙ ap (λ l. map.get (rows_at image l) row) at ∙ there
          | inr f ↦ absurd (none-some bytes (sym f.1 ∙ ap (λ l. map.get (rows_at image l) row) at ∙ there))
        ]

    batch_rows : BatchRows b.now b.now.phase (rows_at image b.now.source) (rows_at image b.now.target)
    batch_rows = by b.kind
      where
        span_at : (f : Phase) → batch_high f ≡ Some b.end → (key : Text) → InBatch (record job { phase = f }) key → IsTrue (contains (Range b.low b.end) key)
        span_at f e key i =
            let ends : i.1 ≡ b.end = same_Some i.1 b.end (sym i.3 ∙ e) in
            let lows : i.0 ≡ b.low = (let both : At i.0 ≡ At b.low = sym i.2 ∙ b.cursor in cc) in
            (λ j. contains (Range (sym lows j) (sym ends j)) key) ∙ i.4

        by : BatchKind job b.end b.old b.new b.now → BatchRows b.now b.now.phase (rows_at image b.now.source) (rows_at image b.now.target)
        by (Off f n w) = subst (λ (x : JobRow). BatchRows x x.phase (rows_at image x.source) (rows_at image x.target)) (sym w)
            (λ row e i bytes there. absurd (none_at_target f row e (span_at (Copying b.end) refl row.key i) (ap is_some there)))
        by (Move f s at n w) = subst (λ (x : JobRow). BatchRows x x.phase (rows_at image x.source) (rows_at image x.target)) (sym w)
            (λ row e i bytes there. moved_rows at n row e (span_at (Moved b.end) refl row.key i) bytes there)
        by (On f at n w) = subst (λ (x : JobRow). BatchRows x x.phase (rows_at image x.source) (rows_at image x.target)) (sym w) tt

    others_stay : (k : ℕ) → k ≢ job.number → map.get jobs k ≡ map.get g.jobs k
    others_stay k ne = get-insert_other nat_cmp_total exact_unsigned g.jobs b.now.number b.now k (λ e. ne (e ∙ same_number))

    batch_parts : JobParts image sound op law jobs
    batch_parts = parts_with_job image sound op law job of_job b.now same_number same_map jobs (keyed-insert nat_cmp_total (λ (x : JobRow). x.number) exact_unsigned g.jobs b.now (sound.keyed Global).jobs) now_stands others_stay
        (batch_cells g.maps g.mappings (maps_ok image sound op law) op (fit image sound op law) (tokens image sound op law) g.shards (next_job image) job (sound.jobs job job_has) batch_of_map b)
        (batch_progress g.maps g.mappings (maps_ok image sound op law) op (fit image sound op law) (tokens image sound op law) g.shards (next_job image) job (sound.jobs job job_has) batch_of_map b image.locations g.away sites)
        batch_rows moved placed

  -- ---- each kind of step

  of_kind : StepKind g.maps g.mappings job olds news op.extra → JobParts image sound op law (jobs_after g.jobs op.extra)
  of_kind (Merging s) =
      let e = of_map s.high (subst (λ ps. IsOneOf ps s.high) (sym s.old_are) (inr (inl refl))) s.of_map in
      subst (λ x. JobParts image sound op law (jobs_after g.jobs x)) (sym s.none)
      (cut_parts s.idle e (merge_put g.maps g.mappings (maps_ok image sound op law) op (fit image sound op law) (tokens image sound op law) g.shards (next_job image) job (sound.jobs job job_has) e (rows_at image) law.shape s))
  of_kind (Splitting s) =
      let e = of_map s.whole (subst (λ ps. IsOneOf ps s.whole) (sym s.old_are) (inl refl)) s.of_map in
      subst (λ x. JobParts image sound op law (jobs_after g.jobs x)) (sym s.none)
      (cut_parts s.idle e (split_put g.maps g.mappings (maps_ok image sound op law) op (fit image sound op law) (tokens image sound op law) g.shards (next_job image) job (sound.jobs job job_has) e (rows_at image) law.shape s))
  of_kind (Batching b) = subst (λ x. JobParts image sound op law (jobs_after g.jobs x)) (sym b.put_is) (batch_parts b)

  pub parts_of_step : JobParts image sound op law (jobs_after g.jobs op.extra)
  parts_of_step = of_kind (step_kind g.maps g.mappings (maps_ok image sound op law) g.shards (next_job image) job (sound.jobs job job_has) olds news op.extra image.locations g.away (sound.progress job job_has) (step image sound op law job of_job).row)

-- ---- every logged operation

module _ (image : Image) (sound : Sound image) (op : Op) (law : Lawful image op) where
  -- Whatever its shape, and whether it is a step of a job or not, the commit keeps what is said of jobs and rows.
  pub parts : JobParts image sound op law (jobs_after (global image).jobs op.extra)
  parts = by (job_of_pieces (global image).jobs (listed op.olds)) refl
    where
      by : (o : Option JobRow) → job_of_pieces (global image).jobs (listed op.olds) ≡ o → JobParts image sound op law (jobs_after (global image).jobs op.extra)
      by (Some job) e = parts_of_step image sound op law job e
      by None e =
          let none : op.extra ≡ extra.None = subst (λ o. IsOfJob (read_tables image) op o) e law.job in
          subst (λ x. JobParts image sound op law (jobs_after (global image).jobs x)) (sym none) (parts_without_job image sound op law e)
