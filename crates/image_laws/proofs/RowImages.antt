-- A change of the row cells at one attached site: what it must leave for an image to stay sound and its meaning to stay.
use Rattle.std.proofs.Common.{◌≡◌, ◌⊎◌, Bool, true, false, cond, refl, sym, ap, ◌∙◌, subst, Some, None, Option, inl, inr, List, [], ◌∷◌, ◌&&◌}
use Rattle.std.specs.Prelude.{IsTrue, option_and_then}
use Rattle.std.specs.List.{AllByRecursion}
use Rattle.std.specs.FinMap as map
use Rattle.std.proofs.lemmas.Bool.{and_parts}
use Rattle.std.proofs.lemmas.Option.{same_Some, none-some}
use Rattle.cell_world.specs.Texts.{Text}
use Rattle.cell_world.specs.Lists.{IsOneOf}
use Rattle.cell_world.specs.Keys.{same, contains, overlaps, low_of}
use Rattle.cell_world.specs.Spelled.{listed}
use Rattle.cell_world.specs.Stores.{Store, Rows, IsKeyed}
use Rattle.cell_world.specs.Images.{Image, Place, Global, Shard, global}
use Rattle.cell_world.specs.Plain.{owner_in}
use Rattle.cell_world.specs.Meaning.{meaning, row_at, owner_of, next_operation, next_job, is_attached_at}
use Rattle.cell_world.specs.Lawful.{read_tables, rows_at, Lawful, HasShape, rows_under, IsOfJob, IsStepOf, IsEmptied, job_of_pieces}
use Rattle.cell_world.specs.Sound.{Sound, HasLog, HasJob, IsKeyOf, LocalCells, OnlineRows, RowCells, BatchRows, BatchAmong, BatchAt, IsBatch, InBatch, SuspectSite, IsAttachedIn, batch_high}
use Rattle.cell_world.specs.declared.operations.Piece.{Piece}
use Rattle.cell_world.specs.declared.operations.Op.{Op}
use Rattle.cell_world.specs.declared.operations.JobRow.{JobRow}
use Rattle.cell_world.specs.declared.operations.Phase.{Phase}
use Rattle.cell_world.specs.declared.operations.Phase.TheVariants.{Idle, Copying, Moved}
use Rattle.cell_world.specs.declared.cells.RowName.{RowName}
use Rattle.cell_world.specs.declared.cells.Status.TheVariants.{Offline}
use Rattle.cell_world.specs.declared.spans.High.{High}
use Rattle.cell_world.specs.declared.spans.High.TheVariants.{At}
use Rattle.cell_world.specs.declared.spans.Span.{Span}
use Rattle.cell_world.specs.declared.spans.Span.TheVariants.{Range}
use Rattle.cell_world.proofs.OrderLaws.{rows_total, exact_rows}
use Rattle.cell_world.proofs.SpanLaws.{same_is, same_self, overlaps_shared}
use Rattle.image_laws.proofs.OwnerLaws.{owner_is, owner_stands}
use Rattle.image_laws.proofs.MeaningLaws.{same_rows}
use Rattle.image_laws.proofs.HeldLaws.{held_stays}
use Rattle.image_laws.proofs.RowLaws.{with_rows}
use Rattle.cell_world.proofs.ListLaws.{all_from, all_at}
use Rattle.image_laws.proofs.CommitImages.{job_stands_in}
use Rattle.image_laws.proofs.FitLaws.{low_in}
use Rattle.image_laws.proofs.JobKinds.{StepKind, Merging, Splitting, Batching, BatchStep, step_kind}
use Rattle.image_laws.proofs.ShapeLaws.{of_one}
use Rattle.cell_world.proofs.MappingLaws.{sound_mappings}

-- ---- what lawful reads of rows

-- Rows that are alike under a span are the same rows under it.
pub under_alike : (a b : Rows) (name : Text) (span : Span) → ((q : RowName) → q.map ≡ name → IsTrue (contains span q.key) → map.get a q ≡ map.get b q) → rows_under a name span ≡ rows_under b name span
under_alike a b name span h = map.same_map rows_total exact_rows _ _ (λ q.
    map.get-retain_keys a test q (λ x tie. ap test (sym (exact_rows q x tie))) ∙ by q (test q) refl ∙ sym (map.get-retain_keys b test q (λ x tie. ap test (sym (exact_rows q x tie)))))
  where
    test : RowName → Bool
    test r = same name r.map && contains span r.key

    by : (q : RowName) (t : Bool) → test q ≡ t → cond (test q) (map.get a q) None ≡ cond (test q) (map.get b q) None
    by q true e = let both = and_parts (same name q.map) (contains span q.key) e in ap (λ o. cond (test q) o None) (h q (sym (same_is name q.map both.0)) both.1)
    by q false e = ap (λ t. cond t (map.get a q) None) e ∙ sym (ap (λ t. cond t (map.get b q) None) e)

abbrev pub AlikeUnder : (Text → Rows) → (Text → Rows) → Piece → Type 0
AlikeUnder rows after o = (l : Text) → rows_under (after l) o.map o.span ≡ rows_under (rows l) o.map o.span

-- A shape stays where the rows under each offline old are alike.
pub shape_rows : (rows after : Text → Rows) (olds news : List Piece) → HasShape rows olds news → ((o : Piece) → IsOneOf olds o → o.status ≡ Offline → AlikeUnder rows after o) → HasShape after olds news
shape_rows rows after [] (n ∷ []) s alike = s
shape_rows rows after (o ∷ []) [] s alike = (s.0, alike o (inl refl) s.0 o.location ∙ s.1)
shape_rows rows after (o ∷ []) (n ∷ []) (inl t) alike = inl t
shape_rows rows after (o ∷ []) (n ∷ []) (inr m) alike = inr (record {
  offline = m.offline;
  elsewhere = m.elsewhere;
  rest = m.rest;
  same_rows = alike o (inl refl) m.offline n.location ∙ m.same_rows ∙ sym (alike o (inl refl) m.offline o.location);
})
shape_rows rows after (o ∷ []) (l ∷ h ∷ []) c alike = c
shape_rows rows after (l ∷ h ∷ []) (n ∷ []) c alike = c
shape_rows rows after olds news s alike = absurd s

-- ---- the batch in progress

module _ (image : Image) (sound : Sound image) (job : JobRow) (has : HasJob (global image).jobs job) where
  abbrev gs : Store
  gs = global image

  -- The mapping of the batch in progress.
  pub record Batch (key : Text) : Type 0 where
    pub end : High
    pub location : Text
    pub at : BatchAt gs.mappings job end location
    pub high : batch_high job.phase ≡ Some end
    pub holds : IsTrue (contains at.piece.span key)
    pub source : IsAttachedIn image job.source
    pub target : IsAttachedIn image job.target

  -- its mapping has its keys
  pub in_piece : (key : Text) → InBatch job key → (end : High) (location : Text) (b : BatchAt gs.mappings job end location) → batch_high job.phase ≡ Some end → IsTrue (contains b.piece.span key)
  in_piece key i end location b e =
      let ends : i.1 ≡ end = same_Some i.1 end (sym i.3 ∙ e) in
      let lows : i.0 ≡ b.low = (let both : At i.0 ≡ At b.low = sym i.2 ∙ b.at_cursor in cc) in
      subst (λ s. IsTrue (contains s key)) (sym b.span) ((λ j. contains (Range (sym lows j) (sym ends j)) key) ∙ i.4)

  pub batch_of_key : (key : Text) → InBatch job key → Batch key
  batch_of_key key i = by job.phase refl (sound.progress job has)
    where
      by : (f : Phase) → job.phase ≡ f → IsBatch image.locations gs.away gs.mappings job f → Batch key
      by Idle e b = absurd (none-some i.1 (sym (ap batch_high e) ∙ i.3))
      by (Copying end) e b = record { end = end; location = job.source; at = b.0; high = ap batch_high e; holds = in_piece key i end job.source b.0 (ap batch_high e); source = b.1; target = b.2 }
      by (Moved end) e b = record { end = end; location = job.target; at = b.0; high = ap batch_high e; holds = in_piece key i end job.target b.0 (ap batch_high e); source = b.1; target = b.2 }

  -- It owns its keys.
  pub batch_owns : (end : High) (location : Text) (b : BatchAt gs.mappings job end location) (key : Text) → IsKeyOf gs.maps job.map key → IsTrue (contains b.piece.span key) → owner_in gs.maps gs.mappings job.map key ≡ Some b.piece
  batch_owns end location b key of_type holds = let m = sound_mappings image sound in owner_is gs.maps gs.mappings m.placed job.map key m.disjoint of_type b.piece b.stands b.of_map holds

  -- What a logged step of the job is.
  pub kind_of : (op : Op) → IsStepOf (read_tables image) job op → StepKind gs.maps gs.mappings job (listed op.olds) (listed op.news) op.extra
  kind_of op step = step_kind gs.maps gs.mappings (sound_mappings image sound) gs.shards (next_job image) job (sound.jobs job has) (listed op.olds) (listed op.news) op.extra image.locations gs.away (sound.progress job has) step.row

  -- a batch's step in progress is on the batch's mapping
  pub old_is_batch : (op : Op) → (b : BatchStep gs.maps gs.mappings job (listed op.olds) (listed op.news) op.extra) → (end : High) (location : Text) (at : BatchAt gs.mappings job end location) → b.old ≡ at.piece
  old_is_batch op b end location at =
      let m = sound_mappings image sound in
      let lows : b.low ≡ at.low = (let both : At b.low ≡ At at.low = sym b.cursor ∙ at.at_cursor in cc) in
      let s = owner_stands gs.maps gs.mappings m.placed job.map b.low b.old b.owner in
      m.disjoint b.old at.piece s.0 at.stands (s.1 ∙ sym at.of_map) (shared b.old at.piece b.low s.2 (subst (λ x. IsTrue (contains x b.low)) (sym at.span) (holds_low at lows)))
    where
      shared : (p q : Piece) (key : Text) → IsTrue (contains p.span key) → IsTrue (contains q.span key) → IsTrue (overlaps p.span q.span)
      shared p q key a c = overlaps_shared p.span q.span key a c

      holds_low : (at : BatchAt gs.mappings job end location) → b.low ≡ at.low → IsTrue (contains (Range at.low end) b.low)
      holds_low at e = subst (λ k. IsTrue (contains (Range at.low end) k)) (sym e)
          (subst (λ x. IsTrue (contains x (low_of x))) at.span (low_in gs.maps at.piece.map at.piece.span ((sound_mappings image sound).spans at.piece at.stands)))

-- ---- a change of rows at one site

module _ (image : Image) (location : Text) (rows : Rows) where
  abbrev pub after : Image
  after = with_rows image location rows

  abbrev g : Store
  g = global image

  abbrev new : Store
  new = record (image.at (Shard location)) { rows = rows }

  abbrev pub rows_after : Text → Rows
  rows_after = rows_at after

  pub same_locals : (l : Text) → (after.at (Shard l)).locals ≡ (image.at (Shard l)).locals
  same_locals l = by (same location l) refl
    where
      by : (b : Bool) → same location l ≡ b → (cond b new (image.at (Shard l))).locals ≡ (image.at (Shard l)).locals
      by true e = ap (λ x. (image.at (Shard x)).locals) (same_is location l e)
      by false e = refl

  pub rows_there : rows_after location ≡ rows
  rows_there = ap (λ b. (cond b new (image.at (Shard location))).rows) (same_self location)

  pub rows_elsewhere : (l : Text) → (location ≡ l → ⊥) → rows_after l ≡ rows_at image l
  rows_elsewhere l ne = by (same location l) refl
    where
      by : (b : Bool) → same location l ≡ b → (cond b new (image.at (Shard l))).rows ≡ (image.at (Shard l)).rows
      by true e = absurd (ne (same_is location l e))
      by false e = refl

  module _ (Changed : RowName → Type 0) (change : (q : RowName) → (map.get rows q ≡ map.get (rows_at image location) q) ⊎ Changed q) where
    pub row_after : (l : Text) (q : RowName) → (map.get (rows_after l) q ≡ map.get (rows_at image l) q) ⊎ ((location ≡ l) × Changed q)
    row_after l q = by (same location l) refl
      where
        by : (b : Bool) → same location l ≡ b → (map.get (cond b new (image.at (Shard l))).rows q ≡ map.get (rows_at image l) q) ⊎ ((location ≡ l) × Changed q)
        by false e = inl refl
        by true e = elim (change q) [
          | inl f ↦ inl (f ∙ ap (λ x. map.get (rows_at image x) q) (same_is location l e))
          | inr c ↦ inr (same_is location l e, c)
        ]

    -- The rows of a batch that aren't changed stay among the others.
    pub batch_stays : (job : JobRow) → ((q : RowName) → Changed q → q.map ≡ job.map → InBatch job q.key → ⊥) → BatchRows job job.phase (rows_at image job.source) (rows_at image job.target)
        → BatchRows job job.phase (rows_after job.source) (rows_after job.target)
    batch_stays job out h = by job.phase h
      where
        alike : (l : Text) (q : RowName) → q.map ≡ job.map → InBatch job q.key → map.get (rows_after l) q ≡ map.get (rows_at image l) q
        alike l q e i = elim (row_after l q) [ inl f ↦ f | inr c ↦ absurd (out q c.1 e i) ]

        among : (few many : Text) → BatchAmong job (rows_at image few) (rows_at image many) → BatchAmong job (rows_after few) (rows_after many)
        among few many h q e i bytes f = alike many q e i ∙ h q e i bytes (sym (alike few q e i) ∙ f)

        by : (f : Phase) → BatchRows job f (rows_at image job.source) (rows_at image job.target) → BatchRows job f (rows_after job.source) (rows_after job.target)
        by Idle h = tt
        by (Copying end) h = among job.target job.source h
        by (Moved end) h = among job.source job.target h

    module _ (sound : Sound image) where
      -- A logged operation that has no changed row under an offline old stays lawful.
      pub lawful_after : (op : Op) → Lawful image op → ((o : Piece) → IsOneOf (listed op.olds) o → o.status ≡ Offline → (q : RowName) → Changed q → q.map ≡ o.map → IsTrue (contains o.span q.key) → ⊥) → Lawful after op
      lawful_after op law clear = record {
        map_stands = law.map_stands;
        olds_stand = law.olds_stand;
        of_map = law.of_map;
        olds_in_order = law.olds_in_order;
        news_in_order = law.news_in_order;
        attached = law.attached;
        on_shards = law.on_shards;
        spans = law.spans;
        disjoint = law.disjoint;
        free = law.free;
        hull = law.hull;
        shape = shape_rows (rows_at image) rows_after (listed op.olds) (listed op.news) law.shape alike;
        job = of_job (job_of_pieces g.jobs (listed op.olds)) refl law.job;
        no_drop = law.no_drop;
      }
        where
          alike : (o : Piece) → IsOneOf (listed op.olds) o → o.status ≡ Offline → AlikeUnder (rows_at image) rows_after o
          alike o among off l = under_alike (rows_after l) (rows_at image l) o.map o.span (λ q e inside. elim (row_after l q) [
            | inl f ↦ f
            | inr c ↦ absurd (clear o among off q c.1 e inside)
          ])

          emptied : (job : JobRow) → HasJob g.jobs job → (step : IsStepOf (read_tables image) job op) → (f : Phase) → job.phase ≡ f → IsEmptied (rows_at image) job f (listed op.olds) → IsEmptied rows_after job f (listed op.olds)
          emptied job has step Idle e h = tt
          emptied job has step (Copying end) e h = tt
          emptied job has step (Moved end) e h = kind (kind_of image sound job has op step)
            where
              batch : BatchAt g.mappings job end job.target
              batch = (subst (λ f. IsBatch image.locations g.away g.mappings job f) e (sound.progress job has)).0

              not_idle : job.phase ≡ Idle → ⊥
              not_idle i = none-some end (sym (ap batch_high i) ∙ ap batch_high e)

              kind : StepKind g.maps g.mappings job (listed op.olds) (listed op.news) op.extra → AllByRecursion (λ (old : Piece). rows_under (rows_after job.source) job.map old.span ≡ map.empty) (listed op.olds)
              kind (Merging k) = absurd (not_idle k.idle)
              kind (Splitting k) = absurd (not_idle k.idle)
              kind (Batching k) = all_from (λ (old : Piece). rows_under (rows_after job.source) job.map old.span ≡ map.empty) (listed op.olds) (λ o among.
                  let is_old : o ≡ k.old = sym (of_one (λ x. k.old ≡ x) refl o (subst (λ ps. IsOneOf ps o) k.old_are among)) in
                  let is_batch : o ≡ batch.piece = is_old ∙ old_is_batch image sound job has op k end job.target batch in
                  let off : o.status ≡ Offline = ap (λ (x : Piece). x.status) is_batch ∙ batch.offline in
                  let of_map : o.map ≡ job.map = ap (λ (x : Piece). x.map) is_batch ∙ batch.of_map in
                  let was : rows_under (rows_at image job.source) job.map o.span ≡ map.empty = all_at (λ (old : Piece). rows_under (rows_at image job.source) job.map old.span ≡ map.empty) (listed op.olds) h o among in
                  subst (λ n. rows_under (rows_after job.source) n o.span ≡ rows_under (rows_at image job.source) n o.span) of_map (alike o among off job.source) ∙ was)

          of_job : (o : Option JobRow) → job_of_pieces g.jobs (listed op.olds) ≡ o → IsOfJob (read_tables image) op o → IsOfJob (read_tables after) op o
          of_job None e s = s
          of_job (Some job) e s = let has = job_stands_in g.jobs (sound.keyed Global).jobs (listed op.olds) job e in record { row = s.row; emptied = emptied job has s job.phase refl s.emptied }

      module _ (here : IsAttachedIn image location) (cells : RowCells g.maps g.tables (owner_of image) g.jobs location rows)
          (batches : (job : JobRow) → HasJob g.jobs job → BatchRows job job.phase (rows_after job.source) (rows_after job.target))
          (clear : (op : Op) → HasLog g.log op → (o : Piece) → IsOneOf (listed op.olds) o → o.status ≡ Offline → (q : RowName) → Changed q → q.map ≡ o.map → IsTrue (contains o.span q.key) → ⊥) where
        keep_keyed : (place : Place) → IsKeyed (after.at place)
        keep_keyed Global = sound.keyed Global
        keep_keyed (Shard l) = by (same location l)
          where
            there : IsKeyed new
            there = let h = sound.keyed (Shard location) in record { mappings = h.mappings; log = h.log; jobs = h.jobs; locals = h.locals }

            by : (b : Bool) → IsKeyed (cond b new (image.at (Shard l)))
            by true = there
            by false = sound.keyed (Shard l)

        cells_at : (l : Text) → IsAttachedIn image l → RowCells g.maps g.tables (owner_of image) g.jobs l (rows_after l)
        cells_at l h = by (same location l) refl
          where
            by : (b : Bool) → same location l ≡ b → RowCells g.maps g.tables (owner_of image) g.jobs l (cond b new (image.at (Shard l))).rows
            by true e = subst (λ x. RowCells g.maps g.tables (owner_of image) g.jobs x rows) (same_is location l e) cells
            by false e = sound.rows l h

        pub rows_sound : Sound after
        rows_sound = record {
          keyed = keep_keyed;
          globals = sound.globals;
          logged = record { lawful = λ op h. lawful_after op (sound.logged.lawful op h) (clear op h); numbered = sound.logged.numbered; hulls = sound.logged.hulls };
          locals = λ l h. subst (λ ls. LocalCells g.mappings g.log (next_operation image) l ls) (sym (same_locals l)) (sound.locals l h);
          online = λ l h. subst (λ ls. OnlineRows g.maps (owner_of image) g.log l ls) (sym (same_locals l)) (sound.online l h);
          rows = cells_at;
          batches = batches;
          suspect = λ l h. subst (λ ls. SuspectSite g.maps g.shards l ls) (sym (same_locals l)) (sound.suspect l h);
          jobs = sound.jobs;
          progress = sound.progress;
          tokens = sound.tokens;
        }

    -- Where no changed row is of a key that the site owns, the meaning stays.
    pub rows_meaning : IsAttachedIn image location → ((q : RowName) → Changed q → (p : Piece) → owner_of image q.map q.key ≡ Some p → p.location ≡ location → ⊥) → meaning after ≡ meaning image
    rows_meaning here away_from = λ i. record (meaning image) { rows = same_rows after image row_stays i; held = λ l. held_stays image location new here l i }
      where
        row_stays : (q : RowName) → row_at after q ≡ row_at image q
        row_stays q = by (owner_of image q.map q.key) refl
          where
            found : (Text → Rows) → Piece → Option Text
            found rows p = cond (is_attached_at image.locations g.away p.location) (map.get (rows p.location) q) None

            by : (o : Option Piece) → owner_of image q.map q.key ≡ o → option_and_then (found rows_after) o ≡ option_and_then (found (rows_at image)) o
            by None e = refl
            by (Some p) e = ap (λ x. cond (is_attached_at image.locations g.away p.location) x None) (elim (row_after p.location q) [
              | inl f ↦ f
              | inr c ↦ absurd (away_from q c.1 p e (sym c.0))
            ])
