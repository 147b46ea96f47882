-- The commit of a step of a job, on images.
use Rattle.std.proofs.Common.{◌≡◌, ◌≢◌, ◌⊎◌, ℕ, refl, sym, ap, ◌∙◌, subst, Some, None, Option, inl, inr, List, [], ◌∷◌}
use Rattle.std.specs.Prelude.{IsTrue, IfSome, option_and_then}
use Rattle.std.specs.FinMap as map
use Rattle.std.proofs.lemmas.Option.{same_Some, none-some}
use Rattle.std.proofs.lemmas.Bool.Decides.{eqb_tells}
use Rattle.cell_world.specs.Texts.{Text}
use Rattle.cell_world.specs.Lists.{IsOneOf}
use Rattle.cell_world.specs.Keys.{low_of}
use Rattle.cell_world.specs.Spelled.{listed}
use Rattle.cell_world.specs.Stores.{Store, Mappings, Jobs}
use Rattle.cell_world.specs.Images.{Image, global}
use Rattle.cell_world.specs.Plain.{owner_in}
use Rattle.cell_world.specs.Meaning.{owner_of, next_job}
use Rattle.cell_world.specs.Lawful.{read_tables, rows_at, Lawful, IsOfJob, IsStepOf, job_of_pieces, job_with_token, or_else}
use Rattle.cell_world.specs.Sound.{Sound, HasJob, HasRow, IsKeyOf, IsOwnedBy, IsBeingMoved, IsSiteOfJob, InBatch, JobCells, BatchRows, IsBatch, IsAttachedIn}
use Rattle.cell_world.specs.declared.operations.Piece.{Piece}
use Rattle.cell_world.specs.declared.operations.Op.{Op}
use Rattle.cell_world.specs.declared.operations.JobRow.{JobRow}
use Rattle.cell_world.specs.declared.cells.Token.{Token}
use Rattle.cell_world.specs.declared.cells.RowName.{RowName}
use Rattle.cell_world.proofs.SpanLaws.{overlaps_shared}
use Rattle.image_laws.proofs.CommitImages.{maps_ok, fit, tokens, after_mappings, inside, JobParts, committed, keep_tokens, row_placed, batch_outside, not_token, job_stands, step_of_other}
use Rattle.image_laws.proofs.FitLaws.{low_in}
use Rattle.image_laws.proofs.JobRange.{job_stays, batch_stays}
use Rattle.image_laws.proofs.JobSame.{steady, same_olds}
use Rattle.image_laws.proofs.ShapeRows.{job_of_old}
use Rattle.image_laws.proofs.StaysLawful.{AreApart}

module _ (image : Image) (sound : Sound image) (op : Op) (law : Lawful image op) (job : JobRow) (of_job : job_of_pieces (global image).jobs (listed op.olds) ≡ Some job) where
  abbrev g : Store
  g = global image

  abbrev after : Mappings
  after = after_mappings image sound op law

  pub has : HasJob g.jobs job
  has = job_stands image sound op law (listed op.olds) job of_job

  pub cells : JobCells g.maps g.shards g.mappings (next_job image) job
  cells = sound.jobs job has

  pub step : IsStepOf (read_tables image) job op
  step = subst (λ o. IsOfJob (read_tables image) op o) of_job law.job

  -- one number, one job
  pub one_job : (a : JobRow) → HasJob g.jobs a → a.number ≡ job.number → a ≡ job
  one_job a h e = same_Some a job (sym h ∙ ap (map.get g.jobs) e ∙ has)

  pub not_other : (k : JobRow) → k.number ≢ job.number → job_of_pieces g.jobs (listed op.olds) ≡ Some k → ⊥
  not_other k ne e = ne (ap (λ (x : JobRow). x.number) (same_Some k job (sym e ∙ of_job)))

  -- ---- another logged operation

  some_old : (pieces : List Piece) → job_of_pieces g.jobs pieces ≡ Some job → (o : Piece) × IsOneOf pieces o
  some_old [] e = absurd (none-some job e)
  some_old (p ∷ ps) e = (p, inl refl)

  -- no lawful operation whose hull is apart is a step of this job
  alone : (other : Op) → (theirs : Lawful image other) → AreApart op other → job_of_pieces g.jobs (listed other.olds) ≡ Some job → ⊥
  alone other theirs apart e =
      let their_step : IsStepOf (read_tables image) job other = subst (λ o. IsOfJob (read_tables image) other o) e theirs.job in
      let one : listed op.olds ≡ listed other.olds = same_olds _ _ (steady (owner_of image) g.mappings job) _ _ _ _ _ _ step.row their_step.row in
      let o = some_old (listed op.olds) of_job in
      let f = fit image sound op law in
      let f2 = fit image sound other theirs in
      let o2 : IsOneOf (listed other.olds) o.0 = subst (λ ps. IsOneOf ps o.0) one o.1 in
      let low = low_in g.maps o.0.map o.0.span ((maps_ok image sound op law).spans o.0 (f.stand o.0 o.1)) in
      let over = overlaps_shared op.hull other.hull (low_of o.0.span) (f.shaped.old_in o.0 o.1 (low_of o.0.span) low) (f2.shaped.old_in o.0 o2 (low_of o.0.span) low) in
      apart (sym (f.old_map o.0 o.1) ∙ f2.old_map o.0 o2) over

  -- ---- the job after the commit, and the others

  module _ (now : JobRow) (number : now.number ≡ job.number) (name : now.map ≡ job.map) (jobs : Jobs) (keyed : (k : ℕ) → IfSome (map.get jobs k) (λ x. x.number ≡ k))
      (now_stands : HasJob jobs now) (others : (k : ℕ) → k ≢ job.number → map.get jobs k ≡ map.get g.jobs k)
      (now_cells : JobCells g.maps g.shards after (next_job image) now) (now_progress : IsBatch image.locations g.away after now now.phase) (now_batches : BatchRows now now.phase (rows_at image now.source) (rows_at image now.target))
      (moved : (l : Text) → IsAttachedIn image l → (row : RowName) → HasRow (rows_at image l) row → InBatch job row.key → job.map ≡ row.map → IsSiteOfJob l job → IsKeyOf g.maps row.map row.key → IsOwnedBy (owner_in g.maps after) row.map row.key l ⊎ IsBeingMoved g.maps jobs row.map row.key l)
      (placed : (l : Text) → (row : RowName) → HasRow (rows_at image l) row → IsOwnedBy (owner_of image) row.map row.key l → IsTrue (inside image sound op law row) → InBatch job row.key → IsOwnedBy (owner_in g.maps after) row.map row.key l ⊎ IsBeingMoved g.maps jobs row.map row.key l) where
    back : (k : JobRow) → HasJob jobs k → (k ≡ now) ⊎ (HasJob g.jobs k × (k.number ≢ job.number))
    back k h = elim (eqb_tells k.number job.number) [
      | inl t ↦ inl (same_Some k now (sym h ∙ ap (map.get jobs) (t.1 ∙ sym number) ∙ now_stands))
      | inr t ↦ inr (sym (others k.number t.1) ∙ h, t.1)
    ]

    other_stands : (k : JobRow) → HasJob g.jobs k → k.number ≢ job.number → HasJob jobs k
    other_stands k h ne = others k.number ne ∙ h

    moved_by : (l : Text) → IsAttachedIn image l → (row : RowName) → HasRow (rows_at image l) row → IsBeingMoved g.maps g.jobs row.map row.key l
        → IsOwnedBy (owner_in g.maps after) row.map row.key l ⊎ IsBeingMoved g.maps jobs row.map row.key l
    moved_by l here row h v = elim (eqb_tells v.job.number job.number) [
      | inr t ↦ inr (record { job = v.job; stands = other_stands v.job v.stands t.1; of_map = v.of_map; at_site = v.at_site; in_batch = v.in_batch; of_type = v.of_type })
      | inl t ↦
          let is = one_job v.job v.stands t.1 in
          moved l here row h (subst (λ (x : JobRow). InBatch x row.key) is v.in_batch) (subst (λ (x : JobRow). x.map ≡ row.map) is v.of_map) (subst (IsSiteOfJob l) is v.at_site) v.of_type
    ]

    owned_by : (l : Text) → (row : RowName) → HasRow (rows_at image l) row → IsOwnedBy (owner_of image) row.map row.key l → IsOwnedBy (owner_in g.maps after) row.map row.key l ⊎ IsBeingMoved g.maps jobs row.map row.key l
    owned_by l row h w = elim (row_placed image sound op law l row h w) [
      | inl owned ↦ inl owned
      | inr z ↦
          let v = z.1.2 in
          elim (eqb_tells v.job.number job.number) [
            | inr t ↦ absurd (batch_outside image sound op law v.job v.stands (not_other v.job t.1) row z.0 v.of_map v.in_batch v.of_type)
            | inl t ↦ placed l row h w z.0 (subst (λ (x : JobRow). InBatch x row.key) (one_job v.job v.stands t.1) v.in_batch)
          ]
    ]

    -- the job of a list of pieces stays, where it isn't this one
    token_alike : (t : Option Token) → (option_and_then (λ (k : Token). map.get g.jobs k.0) t ≡ Some job → ⊥) → option_and_then (λ (k : Token). map.get jobs k.0) t ≡ option_and_then (λ (k : Token). map.get g.jobs k.0) t
    token_alike None ne = refl
    token_alike (Some k) ne = elim (eqb_tells k.0 job.number) [
      | inl t ↦ absurd (ne (ap (map.get g.jobs) t.1 ∙ has))
      | inr t ↦ others k.0 t.1
    ]

    pieces_alike : (pieces : List Piece) → ((p : Piece) → IsOneOf pieces p → job_with_token jobs p ≡ job_with_token g.jobs p) → job_of_pieces jobs pieces ≡ job_of_pieces g.jobs pieces
    pieces_alike [] h = refl
    pieces_alike (p ∷ ps) h = λ i. or_else (h p (inl refl) i) (pieces_alike ps (λ x z. h x (inr z)) i)

    other_alike : (other : Op) → Lawful image other → AreApart op other → job_of_pieces jobs (listed other.olds) ≡ job_of_pieces g.jobs (listed other.olds)
    other_alike other theirs apart = pieces_alike (listed other.olds) (λ p among. token_alike p.token (λ e.
        alone other theirs apart (job_of_old g.jobs (listed other.olds) (listed other.news) (tokens image sound other theirs) p among job e)))

    steps : (other : Op) → Lawful image other → AreApart op other → IsOfJob (read_tables (committed image sound op law jobs)) other (job_of_pieces jobs (listed other.olds))
    steps other theirs apart = subst (λ o. IsOfJob (read_tables (committed image sound op law jobs)) other o) (sym (other_alike other theirs apart)) (by (job_of_pieces g.jobs (listed other.olds)) refl theirs.job)
      where
        by : (o : Option JobRow) → job_of_pieces g.jobs (listed other.olds) ≡ o → IsOfJob (read_tables image) other o → IsOfJob (read_tables (committed image sound op law jobs)) other o
        by None e s = s
        by (Some k) e s = elim (eqb_tells k.number job.number) [
          | inl t ↦ absurd (alone other theirs apart (e ∙ ap Some (one_job k (job_stands image sound op law (listed other.olds) k e) t.1)))
          | inr t ↦ step_of_other image sound op law jobs k (job_stands image sound op law (listed other.olds) k e) (not_other k t.1) other s
        ]

    pub parts_with_job : JobParts image sound op law jobs
    parts_with_job = record {
      keyed = keyed;
      rows = λ l here. record {
        in_table = (sound.rows l here).in_table;
        placed = λ row h. elim ((sound.rows l here).placed row h) [
          | inl w ↦ owned_by l row h w
          | inr v ↦ moved_by l here row h v
        ];
      };
      batches = λ k h. elim (back k h) [
        | inl is ↦ subst (λ (x : JobRow). BatchRows x x.phase (rows_at image x.source) (rows_at image x.target)) (sym is) now_batches
        | inr o ↦ sound.batches k o.0
      ];
      cells = λ k h. elim (back k h) [
        | inl is ↦ subst (λ x. JobCells g.maps g.shards after (next_job image) x) (sym is) now_cells
        | inr o ↦ job_stays g.maps g.mappings (maps_ok image sound op law) g.jobs op.map op.hull (listed op.olds) (listed op.news) (fit image sound op law) g.shards (next_job image) k o.0 (sound.jobs k o.0) (not_token image sound op law k (not_other k o.1))
      ];
      progress = λ k h. elim (back k h) [
        | inl is ↦ subst (λ (x : JobRow). IsBatch image.locations g.away after x x.phase) (sym is) now_progress
        | inr o ↦ batch_stays g.maps g.mappings (maps_ok image sound op law) g.jobs op.map op.hull (listed op.olds) (listed op.news) (fit image sound op law) g.shards (next_job image) k o.0 (sound.jobs k o.0) (not_token image sound op law k (not_other k o.1)) image.locations g.away (sound.progress k o.0)
      ];
      tokens = keep_tokens image sound op law jobs (λ k h. elim (eqb_tells k.number job.number) [
        | inl t ↦ let is = one_job k h t.1 in (now, now_stands, number ∙ sym t.1, name ∙ ap (λ (x : JobRow). x.map) (sym is))
        | inr t ↦ (k, other_stands k h t.1, refl, refl)
      ]);
      steps = steps;
    }
