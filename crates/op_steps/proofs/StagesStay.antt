-- What others leave of an operation at a stage.
use Rattle.std.proofs.Common.{◌≡◌, ◌≢◌, ◌<◌, Bool, true, false, cond, refl, sym, ap, ◌∙◌, subst, None, inl, inr, List, [], arith}
use Rattle.std.specs.FinMap as map
use Rattle.std.proofs.lemmas.Bool.{cases_Bool}
use Rattle.std.proofs.lemmas.Cmp.{nat_cmp_total}
use Rattle.std.proofs.lemmas.Map.Lookups.{exact_unsigned}
use Rattle.cell_world.specs.Texts.{Text}
use Rattle.cell_world.specs.Keys.{same, overlaps}
use Rattle.cell_world.specs.Stores.{Store, Locals}
use Rattle.cell_world.specs.Images.{Image, Place, Global, Shard, global, with_store}
use Rattle.cell_world.specs.declared.changes.Edit.{Edit}
use Rattle.cell_world.specs.Meaning.{next_operation, counters_of}
use Rattle.cell_world.specs.Marked.{HasNoMark, MarkTables, mark_tables, MarkedOn, NoMarksElsewhereOn}
use Rattle.cell_world.specs.Operations.{sites_of}
use Rattle.cell_world.specs.Sound.{Sound, HasLog, IsAttachedIn, locals_at}
use Rattle.cell_world.specs.Sweep.{IsSwept}
use Rattle.cell_world.specs.UnderWay.{IsDone, IsUnborn, IsUnderWay, UnderWayOn}
use Rattle.cell_world.specs.declared.operations.Op.{Op}
use Rattle.cell_world.specs.declared.operations.Reach.{Reach}
use Rattle.cell_world.specs.declared.operations.StageName.{StageName}
use Rattle.cell_world.specs.declared.operations.StageName.TheVariants.{Logged, SourceDone, TargetDone, Committed, Settled}
use Rattle.cell_world.specs.declared.cells.Mark.{Mark}
use Rattle.cell_world.specs.declared.cells.Mark.TheVariants.{Plain, Old}
use Rattle.cell_world.proofs.ListLaws.{all_at, all_from}
use Rattle.cell_world.proofs.MappingLaws.{sound_mappings}
use Rattle.cell_world.proofs.SpanLaws.{same_is}
use Rattle.cell_world.proofs.StoreLaws.{get-insert_other, get-remove_other, get-remove_cases}
use Rattle.image_laws.specs.LocalSteps.{with_locals}
use Rattle.image_laws.proofs.NoMarks.{Undo, Step, none_swept, none_born, none_settled}
use Rattle.image_laws.proofs.OthersStay.{done_swept, done_born, done_settled, unborn_born, unborn_settled}
use Rattle.image_laws.proofs.SoundParts.{are_logged, births_apart}
use Rattle.image_laws.proofs.StepLaws.{unborn_swept, other_mark, plain_not_old}
use Rattle.image_laws.proofs.UnderWayLaws.{under_way_local, locals_here, locals_elsewhere}
use Rattle.op_log.specs.ShortChanges.{ShortChange, Catalog, Unshard, Retoken, PutRow, DeleteRow}
use Rattle.op_log.specs.JobSiteChanges.{JobSiteChange, BeginJob, FinishJob, Detach}
use Rattle.op_log.proofs.Detaching.{was_attached}
use Rattle.op_steps.specs.Passing.{changed_at}
use Rattle.op_steps.specs.Undoing.{UndoStep, AtSite, LogRow}
use Rattle.op_steps.specs.Beginning.{Logs}
use Rattle.op_steps.specs.Advancing.{IsCommitted, AtStage, AdvanceStep, Stepping, Committing, Settling}

-- ---- a change of the local rows of one site

no_mark_local : (op : Op) (image : Image) (l : Text) (last : Locals) → (HasNoMark op (locals_at image l) → HasNoMark op last) → (x : Text) → HasNoMark op (locals_at image x) → HasNoMark op (locals_at (with_locals image l last) x)
no_mark_local op image l last keeps x h = elim (cases_Bool (same l x)) [
  | inl t ↦ subst (λ y. HasNoMark op (locals_at (with_locals image l last) y)) (same_is l x t) (subst (HasNoMark op) (sym (locals_here image l last)) (keeps (subst (λ y. HasNoMark op (locals_at image y)) (sym (same_is l x t)) h)))
  | inr t ↦ subst (HasNoMark op) (sym (locals_elsewhere image l x last t)) h
]

module _ (op : Op) (image : Image) (l : Text) (last : Locals) (keeps_done : HasLog (global image).log op → IsDone op l (locals_at image l) → IsDone op l last) (keeps_unborn : IsUnborn op.number (locals_at image l) → IsUnborn op.number last)
    (keeps_clean : HasNoMark op (locals_at image l) → HasNoMark op last) where
  way_local : (sites : List Text) → IsUnderWay image op sites → IsUnderWay (with_locals image l last) op sites
  way_local sites w = under_way_local image op sites w l last (keeps_done w.logged) keeps_unborn

  committed_local : IsCommitted op image → IsCommitted op (with_locals image l last)
  committed_local c = record { out = c.out; elsewhere = λ x here out. no_mark_local op image l last keeps_clean x (c.elsewhere x here out); sites = c.sites; known = c.known }

  stage_local : (name : StageName) → AtStage op name image → AtStage op name (with_locals image l last)
  stage_local Logged w = way_local [] w
  stage_local SourceDone w = way_local _ w
  stage_local TargetDone w = way_local _ w
  stage_local Committed c = committed_local c
  stage_local Settled c = (
    committed_local c.0,
    (
      c.1.0,
      all_from (λ x. IsAttachedIn image x → HasNoMark op (locals_at (with_locals image l last) x)) (sites_of op)
          (λ x h at. no_mark_local op image l last keeps_clean x (all_at (λ y. IsAttachedIn image y → HasNoMark op (locals_at image y)) (sites_of op) c.1.1 x h at)),
    ),
  )

-- ---- two logged operations are apart

logged_apart : (image : Image) → Sound image → (op other : Op) → HasLog (global image).log op → HasLog (global image).log other → other.number ≢ op.number → op.map ≡ other.map → overlaps op.hull other.hull ≡ true → ⊥
logged_apart image sound op other h g ne e over = ne (sym (ap (λ (o : Op). o.number) (sound.logged.hulls op other h g e over)))

module _ (image : Image) (sound : Sound image) (op other : Op) (ne : other.number ≢ op.number) (also : HasLog (global image).log other) (l : Text) (here : IsAttachedIn image l) where
  swept_done : HasLog (global image).log op → (mark : Mark) (after : Locals) → IsSwept (global image).log other mark (locals_at image l) after → IsDone op l (locals_at image l) → IsDone op l after
  swept_done logged mark after swept done =
      done_swept (global image).maps (global image).mappings (sound_mappings image sound) (global image).log (next_operation image) (are_logged image sound) op other logged (logged_apart image sound op other logged also ne) l (locals_at image l) (sound.locals l here) done mark after swept

-- ---- a change of the global store alone, after which no other site is attached than was

module _ (op : Op) (image : Image) (g : Store) (was : (x : Text) → IsAttachedIn (with_store image Global g) x → IsAttachedIn image x) (logged : HasLog (global image).log op → HasLog g.log op) (none : map.get (global image).log op.number ≡ None → map.get g.log op.number ≡ None)
    (next : op.number < next_operation image → op.number < (counters_of g.counter).operation) where
  abbrev after : Image
  after = with_store image Global g

  way_global : (sites : List Text) → IsUnderWay image op sites → IsUnderWay after op sites
  way_global sites w = record { logged = logged w.logged; done = w.done; unborn = λ x at out. w.unborn x (was x at) out }

  committed_global : IsCommitted op image → IsCommitted op after
  committed_global c = record { out = (none c.out.0, next c.out.1); elsewhere = λ x at out. c.elsewhere x (was x at) out; sites = c.sites; known = c.known }

  stage_global : (name : StageName) → AtStage op name image → AtStage op name after
  stage_global Logged w = way_global [] w
  stage_global SourceDone w = way_global _ w
  stage_global TargetDone w = way_global _ w
  stage_global Committed c = committed_global c
  stage_global Settled c = (
    committed_global c.0,
    (
      (none c.1.0.0, next c.1.0.1),
      all_from (λ x. IsAttachedIn after x → HasNoMark op (locals_at image x)) (sites_of op)
          (λ x h at. all_at (λ y. IsAttachedIn image y → HasNoMark op (locals_at image y)) (sites_of op) c.1.1 x h (was x at)),
    ),
  )

-- what goes of the log is another one's
removed_none : (image : Image) (op other : Op) → map.get (global image).log op.number ≡ None → map.get (map.remove (global image).log other.number) op.number ≡ None
removed_none image op other e = elim (get-remove_cases nat_cmp_total exact_unsigned (global image).log other.number op.number) [ inl h ↦ h.1 | inr h ↦ h ∙ e ]

-- ---- the transactions of others

module _ (op other : Op) (name : StageName) (image : Image) (place : Place) (change : List Edit) (sound : Sound image) (ne : other.number ≢ op.number) (at : AtStage op name image) where
  turned : op.number ≢ other.number
  turned e = ne (sym e)

  removed : HasLog (global image).log op → HasLog (map.remove (global image).log other.number) op
  removed h = get-remove_other nat_cmp_total exact_unsigned (global image).log other.number op.number turned ∙ h

  pub advance_leaves : AdvanceStep other image place change → AtStage op name (changed_at image place change)
  advance_leaves (Stepping s) = subst (AtStage op name) (sym s.is) (stage_local op image s.location s.last
      (λ logged done. done_born op other s.location s.stepped.middle s.last turned (births_apart image sound op other logged s.logged turned) s.stepped.born (swept_done image sound op other ne s.logged s.location s.site.here logged (Old other.number) s.stepped.middle s.stepped.swept done))
      (λ unborn. unborn_born op.number other.number s.location _ s.stepped.middle s.last turned s.stepped.born (unborn_swept (global image).log other (Old other.number) (locals_at image s.location) s.stepped.middle op.number (other_mark op.number other.number turned) s.stepped.swept unborn))
      (λ clean. none_born op other.number ne s.location _ s.stepped.middle s.last s.stepped.born (none_swept op other (global image).log (Old other.number) (Step other.number refl ne) (locals_at image s.location) s.stepped.middle s.stepped.swept clean))
      name at)
  advance_leaves (Committing c) = subst (AtStage op name) (sym c.is) (stage_global op image _ (λ x now. now) removed (removed_none image op other) (λ lt. lt) name at)
  advance_leaves (Settling s) = subst (AtStage op name) (sym s.is) (stage_local op image s.location s.last
      (λ logged done. done_settled other.number (locals_at image s.location) s.last s.settled op s.location turned done)
      (λ unborn. unborn_settled other.number (locals_at image s.location) s.last s.settled op.number unborn)
      (λ clean. none_settled op other.number (locals_at image s.location) s.last s.settled clean)
      name at)

  pub undo_leaves : UndoStep other image place change → AtStage op name (changed_at image place change)
  undo_leaves (AtSite u) = subst (AtStage op name) (sym u.is) (stage_local op image u.location u.last
      (λ logged done. swept_done image sound op other ne u.logged u.location u.site.here logged Plain u.last u.swept done)
      (λ unborn. unborn_swept (global image).log other Plain (locals_at image u.location) u.last op.number (plain_not_old op.number) u.swept unborn)
      (λ clean. none_swept op other (global image).log Plain (Undo refl) (locals_at image u.location) u.last u.swept clean)
      name at)
  undo_leaves (LogRow d) = subst (AtStage op name) (sym d.is) (stage_global op image _ (λ x now. now) removed (removed_none image op other) (λ lt. lt) name at)

-- the number of an operation at a stage was given
number_given : (op : Op) (name : StageName) (image : Image) → Sound image → AtStage op name image → op.number < next_operation image
number_given op Logged image sound w = sound.logged.numbered op w.logged
number_given op SourceDone image sound w = sound.logged.numbered op w.logged
number_given op TargetDone image sound w = sound.logged.numbered op w.logged
number_given op Committed image sound c = c.out.1
number_given op Settled image sound c = c.0.out.1

pub begin_leaves : (op other : Op) (name : StageName) (image : Image) (place : Place) (change : List Edit) → Sound image → AtStage op name image → Logs other image place change → AtStage op name (changed_at image place change)
begin_leaves op other name image place change sound at l = subst (AtStage op name) (sym l.is) (stage_global op image _ (λ x now. now) (λ h. inserted ∙ h) (λ e. inserted ∙ e) (λ lt. omega (arith, lt)) name at)
  where
    apart : op.number ≢ other.number
    apart e = let given = number_given op name image sound at in let same : other.number ≡ next_operation image = l.number in absurd (omega (arith, given, same, e))

    inserted : map.get (map.insert (global image).log other.number other) op.number ≡ map.get (global image).log op.number
    inserted = get-insert_other nat_cmp_total exact_unsigned (global image).log other.number other op.number apart

-- ---- short changes and rows

-- what is said of marks, where the local rows of a shard stay
same_tables : (image : Image) (l : Text) (s : Store) → s.locals ≡ locals_at image l → mark_tables (with_store image (Shard l) s) ≡ mark_tables image
same_tables image l s e = ap (λ (f : Text → Locals). record (mark_tables image) { locals_at = f }) (λ i x. by x (same l x) refl i)
  where
    by : (x : Text) (b : Bool) → same l x ≡ b → (cond b s (image.at (Shard x))).locals ≡ (image.at (Shard x)).locals
    by x true t = e ∙ ap (λ y. (image.at (Shard y)).locals) (same_is l x t)
    by x false t = refl

row_leaves : (op : Op) (name : StageName) (image : Image) (l : Text) (s : Store) → s.locals ≡ locals_at image l → AtStage op name image → AtStage op name (with_store image (Shard l) s)
row_leaves op name image l s e = by name
  where
    tables : mark_tables image ≡ mark_tables (with_store image (Shard l) s)
    tables = sym (same_tables image l s e)

    way : (sites : List Text) → IsUnderWay image op sites → IsUnderWay (with_store image (Shard l) s) op sites
    way sites = subst (λ (t : MarkTables). UnderWayOn t op sites) tables

    kept : IsCommitted op image → IsCommitted op (with_store image (Shard l) s)
    kept c = record { out = c.out; elsewhere = subst (λ (t : MarkTables). NoMarksElsewhereOn t op) tables c.elsewhere; sites = c.sites; known = c.known }

    by : (name : StageName) → AtStage op name image → AtStage op name (with_store image (Shard l) s)
    by Logged w = way [] w
    by SourceDone w = way _ w
    by TargetDone w = way _ w
    by Committed c = kept c
    by Settled c = (kept c.0, subst (λ (t : MarkTables). MarkedOn t op Settled) tables c.1)

pub short_leaves : (op : Op) (name : StageName) (reached : Reach) (image now : Image) → AtStage op name image → ShortChange image reached now → AtStage op name now
short_leaves op name reached image now at (Catalog r maps shards tables serves is) = subst (AtStage op name) (sym is) (stage_global op image _ (λ x now. now) (λ h. h) (λ e. e) (λ lt. lt) name at)
short_leaves op name reached image now at (Unshard map_name location r here unmapped untargeted is) = subst (AtStage op name) (sym is) (stage_global op image _ (λ x now. now) (λ h. h) (λ e. e) (λ lt. lt) name at)
short_leaves op name reached image now at (Retoken p has r token old_free new_free is) = subst (AtStage op name) (sym is) (stage_global op image _ (λ x now. now) (λ h. h) (λ e. e) (λ lt. lt) name at)
short_leaves op name reached image now at (PutRow r row bytes p owned online here tabled is) = subst (AtStage op name) (sym is) (row_leaves op name image p.location _ refl at)
short_leaves op name reached image now at (DeleteRow r row p owned online here is) = subst (AtStage op name) (sym is) (row_leaves op name image p.location _ refl at)

pub job_site_leaves : (op : Op) (name : StageName) (reached : Reach) (image now : Image) → AtStage op name image → JobSiteChange image reached now → AtStage op name now
job_site_leaves op name reached image now at (BeginJob p r low high target batch may is) = subst (AtStage op name) (sym is) (stage_global op image _ (λ x now. now) (λ h. h) (λ e. e) (λ lt. lt) name at)
job_site_leaves op name reached image now at (FinishJob r job has at_finish mappings freed is) = subst (AtStage op name) (sym is) (stage_global op image _ (λ x now. now) (λ h. h) (λ e. e) (λ lt. lt) name at)
job_site_leaves op name reached image now at (Detach location r quiet is) = subst (AtStage op name) (sym is) (stage_global op image _ (was_attached image location) (λ h. h) (λ e. e) (λ lt. lt) name at)
