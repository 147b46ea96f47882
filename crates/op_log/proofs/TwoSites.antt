-- A lawful operation has at most two sites.
use Rattle.std.proofs.Common.{◌≡◌, ◌⊎◌, true, not, refl, sym, ap, ◌∙◌, subst, Some, None, Option, inl, inr, List, [], ◌∷◌, ◌++◌}
use Rattle.std.proofs.lemmas.Bool.{and_from}
use Rattle.std.proofs.lemmas.Option.{same_Some}
use Rattle.cell_world.specs.Texts.{Text}
use Rattle.cell_world.specs.Lists.{IsOneOf}
use Rattle.cell_world.specs.Keys.{before, at_most}
use Rattle.cell_world.specs.Spelled.{listed}
use Rattle.cell_world.specs.Images.{Image, Global, global}
use Rattle.cell_world.specs.Meaning.{next_job}
use Rattle.cell_world.specs.Lawful.{read_tables, rows_at, Lawful, IsOfJob, IsStepOf, job_of_pieces}
use Rattle.cell_world.specs.Operations.{locations_of, sites_of, sites_of_extra}
use Rattle.cell_world.specs.Sound.{Sound, HasJob, AreMappings, front_of}
use Rattle.cell_world.specs.declared.operations.Piece.{Piece}
use Rattle.cell_world.specs.declared.operations.Op.{Op}
use Rattle.cell_world.specs.declared.operations.JobRow.{JobRow}
use Rattle.cell_world.specs.declared.operations.Extra.TheVariants as extra
use Rattle.cell_world.specs.declared.operations.Phase.TheVariants.{Idle}
use Rattle.cell_world.specs.declared.spans.High.TheVariants.{At}
use Rattle.cell_world.proofs.ListLaws.{one_of_two}
use Rattle.cell_world.proofs.MappingLaws.{sound_mappings}
use Rattle.image_laws.proofs.CommitImages.{job_stands_in}
use Rattle.image_laws.proofs.JobKinds.{StepKind, Merging, Splitting, Batching, BatchStep, BatchKind, Off, Move, On, step_kind}
use Rattle.image_laws.proofs.JobRange.{cursor_in_range}
use Rattle.image_laws.proofs.JobTable.{end_not_self}
use Rattle.image_laws.proofs.UnderWayLaws.{AreTogether, together}
use Rattle.op_log.specs.Sites.{AreAtMostTwo}

-- the site of some mapping
location_from : (ps : List Piece) (l : Text) → IsOneOf (locations_of ps) l → (p : Piece) × IsOneOf ps p × (p.location ≡ l)
location_from [] l h = absurd h
location_from (p ∷ ps) l (inl e) = (p, inl refl, e)
location_from (p ∷ ps) l (inr h) = let r = location_from ps l h in (r.0, inr r.1, r.2)

abbrev first_of : List Piece → Text
first_of [] = []
first_of (p ∷ ps) = p.location

-- mappings at one site are at that of the first
at_first : (ps : List Piece) → AreTogether ps → (l : Text) → IsOneOf (locations_of ps) l → l ≡ first_of ps
at_first [] t l h = absurd h
at_first (p ∷ ps) t l h = let r = location_from (p ∷ ps) l h in sym r.2 ∙ t.one r.0 r.1 p (inl refl)

-- the sites are those of the olds, of the news, or of the job
split_sites : (op : Op) (l : Text) → IsOneOf (sites_of op) l → (IsOneOf (locations_of (listed op.olds)) l ⊎ IsOneOf (locations_of (listed op.news)) l) ⊎ IsOneOf (sites_of_extra op.extra) l
split_sites op l h = elim (one_of_two (locations_of (listed op.olds) ++ locations_of (listed op.news)) (sites_of_extra op.extra) l h) [
  | inl m ↦ inl (one_of_two (locations_of (listed op.olds)) (locations_of (listed op.news)) l m)
  | inr m ↦ inr m
]

module _ (image : Image) (sound : Sound image) (op : Op) (law : Lawful image op) where
  -- with no job put the two are those of the olds and of the news
  alone : op.extra ≡ extra.None → AreAtMostTwo (sites_of op)
  alone e =
      let both = together (rows_at image) (listed op.olds) (listed op.news) law.shape in
      record {
        one = first_of (listed op.olds);
        two = first_of (listed op.news);
        each = λ l h. elim (split_sites op l h) [
          | inl m ↦ elim m [ inl o ↦ inl (at_first (listed op.olds) both.0 l o) | inr n ↦ inr (at_first (listed op.news) both.1 l n) ]
          | inr m ↦ absurd (subst (λ x. IsOneOf (sites_of_extra x) l) e m)
        ];
      }

  module _ (job : JobRow) (stands : HasJob (global image).jobs job) where
    m : AreMappings (global image).maps (global image).mappings
    m = sound_mappings image sound

    -- the mapping of a batch that is to go offline is at the source
    at_source : (b : BatchStep (global image).maps (global image).mappings job (listed op.olds) (listed op.news) op.extra) → job.phase ≡ Idle → b.old.location ≡ job.source
    at_source b idle =
        let j = sound.jobs job stands in
        let low = cursor_in_range (global image).maps (global image).mappings m (global image).shards (next_job image) job j b.low b.end b.cursor b.above b.within in
        let front : not (before b.low (front_of job)) ≡ true = subst (λ x. not (before b.low (front_of (record job { phase = x }))) ≡ true) (sym idle) (subst (λ x. not (before b.low x) ≡ true) (sym b.cursor) (end_not_self (At b.low))) in
        let p = j.left b.low low.normal (and_from (at_most job.low b.low) (before b.low job.high) low.from low.to) front in
        let is : p.0 ≡ b.old = same_Some p.0 b.old (sym p.1 ∙ b.owner) in
        sym (ap (λ (x : Piece). x.location) is) ∙ p.2

    abbrev AtEnd : Text → Type 0
    AtEnd l = (l ≡ job.source) ⊎ (l ≡ job.target)

    -- else they are those of the job
    of_batch : BatchStep (global image).maps (global image).mappings job (listed op.olds) (listed op.news) op.extra → AreAtMostTwo (sites_of op)
    of_batch b = record {
      one = job.source;
      two = job.target;
      each = λ l h. elim (split_sites op l h) [
        | inl m ↦ elim m [
          | inl o ↦ one_at b.old (olds b.kind) l (subst (λ ps. IsOneOf (locations_of ps) l) b.old_are o)
          | inr n ↦ one_at b.new (news b.kind) l (subst (λ ps. IsOneOf (locations_of ps) l) b.new_are n)
        ]
        | inr m ↦ of_put l (subst (λ x. IsOneOf (sites_of_extra x) l) b.put_is m)
      ];
    }
      where
        one_at : (p : Piece) → AtEnd p.location → (l : Text) → IsOneOf (p.location ∷ []) l → AtEnd l
        one_at p at l (inl e) = subst AtEnd e at
        one_at p at l (inr e) = absurd e

        olds : BatchKind job b.end b.old b.new b.now → AtEnd b.old.location
        olds (Off idle n w) = inl (at_source b idle)
        olds (Move f s l n w) = inl l
        olds (On f l n w) = inr l

        news : BatchKind job b.end b.old b.new b.now → AtEnd b.new.location
        news (Off idle n w) = inl (ap (λ (p : Piece). p.location) n ∙ at_source b idle)
        news (Move f s l n w) = inr (ap (λ (p : Piece). p.location) n)
        news (On f l n w) = inr (ap (λ (p : Piece). p.location) n ∙ l)

        source : BatchKind job b.end b.old b.new b.now → b.now.source ≡ job.source
        source (Off f n w) = ap (λ (x : JobRow). x.source) w
        source (Move f s l n w) = ap (λ (x : JobRow). x.source) w
        source (On f l n w) = ap (λ (x : JobRow). x.source) w

        target : BatchKind job b.end b.old b.new b.now → b.now.target ≡ job.target
        target (Off f n w) = ap (λ (x : JobRow). x.target) w
        target (Move f s l n w) = ap (λ (x : JobRow). x.target) w
        target (On f l n w) = ap (λ (x : JobRow). x.target) w

        of_put : (l : Text) → IsOneOf (b.now.source ∷ b.now.target ∷ []) l → AtEnd l
        of_put l (inl e) = inl (sym e ∙ source b.kind)
        of_put l (inr (inl e)) = inr (sym e ∙ target b.kind)
        of_put l (inr (inr e)) = absurd e

    of_kind : StepKind (global image).maps (global image).mappings job (listed op.olds) (listed op.news) op.extra → AreAtMostTwo (sites_of op)
    of_kind (Merging s) = alone s.none
    of_kind (Splitting s) = alone s.none
    of_kind (Batching b) = of_batch b

    of_step : IsStepOf (read_tables image) job op → AreAtMostTwo (sites_of op)
    of_step s = of_kind (step_kind (global image).maps (global image).mappings m (global image).shards (next_job image) job (sound.jobs job stands) (listed op.olds) (listed op.news) op.extra image.locations (global image).away (sound.progress job stands) s.row)

  pub two_sites : AreAtMostTwo (sites_of op)
  two_sites = by (job_of_pieces (global image).jobs (listed op.olds)) refl law.job
    where
      by : (o : Option JobRow) → job_of_pieces (global image).jobs (listed op.olds) ≡ o → IsOfJob (read_tables image) op o → AreAtMostTwo (sites_of op)
      by None e s = alone s
      by (Some job) e s = of_step job (job_stands_in (global image).jobs (sound.keyed Global).jobs (listed op.olds) job e) s
