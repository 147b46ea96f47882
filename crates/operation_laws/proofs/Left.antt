-- What is committed and not settled yet: it stays so through what others do, and is clean where it is settled.
use Rattle.std.proofs.Common.{◌≡◌, ◌≢◌, inl, inr, Bool, true, false, ◌||◌, ℕ, refl, sym, ap, ◌∙◌, subst, Some, None, Option, List, [], ◌∷◌, ◌++◌}
use Rattle.std.specs.FinMap as map
use Rattle.std.proofs.lemmas.Bool.{cases_Bool}
use Rattle.cell_world.specs.Texts.{Text}
use Rattle.cell_world.specs.Keys.{same, is_among}
use Rattle.cell_world.specs.Lists.{IsOneOf}
use Rattle.cell_world.specs.Spelled.{listed}
use Rattle.cell_world.specs.Images.{Image, Place, Happening, global, after_all}
use Rattle.cell_world.specs.Marked.{HasNoMark, marked_sites}
use Rattle.cell_world.specs.Operations.{locations_of, sites_of, sites_of_extra}
use Rattle.cell_world.specs.Sound.{Sound, HasLog, IsAttachedIn, locals_at}
use Rattle.cell_world.specs.declared.operations.Op.{Op}
use Rattle.cell_world.specs.declared.operations.Reach.{Reach}
use Rattle.cell_world.specs.declared.operations.StageName.TheVariants.{Committed, Settled}
use Rattle.cell_world.specs.declared.changes.Edit.{Edit}
use Rattle.cell_world.proofs.ListLaws.{all_at, in_first}
use Rattle.cell_world.proofs.SpanLaws.{same_is}
use Rattle.image_laws.specs.LocalSteps.{with_locals}
use Rattle.image_laws.proofs.LocalImages.{at_each}
use Rattle.image_laws.proofs.LogKeepsSound.{log_keeps_sound}
use Rattle.image_laws.proofs.NoMarks.{none_settled}
use Rattle.op_log.specs.ShortChanges.{ShortChange}
use Rattle.op_log.proofs.SiteLists.{locations-append}
use Rattle.op_steps.specs.Passing.{IsCourse, changed_at}
use Rattle.op_steps.specs.Undoing.{UndoStep, AtSite, LogRow, UndoStepOf, AnyUndoStep}
use Rattle.op_steps.specs.Clearing.{IsAbandonedInWay}
use Rattle.op_steps.specs.Beginning.{BeginStep, Clearing, Logging, numbered}
use Rattle.op_steps.specs.Advancing.{AtStage, SettlesAt, AdvanceStep, Stepping, Committing, Settling}
use Rattle.op_steps.proofs.AdvanceMeaning.{advance_step_sound}
use Rattle.op_steps.proofs.Courses.{course_keeps, course_weaker}
use Rattle.op_steps.proofs.RecoverLaws.{undo_step_sound}
use Rattle.op_steps.proofs.StagesStay.{advance_leaves, undo_leaves, begin_leaves, short_leaves}
use Rattle.session_laws.specs.Doing.{AllDoing}
use Rattle.operation_laws.specs.Left.{AreLeft}

-- ---- one transaction

none_is : (x : Option Op) (o : Op) → x ≡ None → x ≡ Some o → ⊥
none_is x o a b = cc

-- what is logged isn't out of the log
logged_differs : (image : Image) (op q : Op) → AtStage op Committed image → HasLog (global image).log q → q.number ≢ op.number
logged_differs image op q c logged same = none_is (map.get (global image).log q.number) q (ap (map.get (global image).log) same ∙ c.out.0) logged

-- settling, of whatever number, leaves it committed
settle_leaves : (op q : Op) (image : Image) (place : Place) (change : List Edit) → AtStage op Committed image → SettlesAt q image place change → AtStage op Committed (changed_at image place change)
settle_leaves op q image place change c s = subst (AtStage op Committed) (sym s.is) (record {
  out = c.out;
  elsewhere = λ l here out. clean l (c.elsewhere l here out);
  sites = c.sites;
  known = c.known;
})
  where
    keeps : HasNoMark op (locals_at image s.location) → HasNoMark op s.last
    keeps = none_settled op q.number (locals_at image s.location) s.last s.settled

    clean : (l : Text) → HasNoMark op (locals_at image l) → HasNoMark op (locals_at (with_locals image s.location s.last) l)
    clean l none = at_each image s.location s.last (λ l locals. HasNoMark op (locals_at image l) → HasNoMark op locals) keeps l (λ n. n) none

left_undone : (op q : Op) (image : Image) (place : Place) (change : List Edit) → Sound image → AtStage op Committed image → UndoStep q image place change → AtStage op Committed (changed_at image place change)
left_undone op q image place change sound c step = undo_leaves op q Committed image place change sound (logged_differs image op q c (by step)) c step
  where
    by : UndoStep q image place change → HasLog (global image).log q
    by (AtSite u) = u.logged
    by (LogRow d) = d.logged

left_advanced : (op q : Op) (image : Image) (place : Place) (change : List Edit) → Sound image → AtStage op Committed image → AdvanceStep q image place change → AtStage op Committed (changed_at image place change)
left_advanced op q image place change sound c (Stepping s) = advance_leaves op q Committed image place change sound (logged_differs image op q c s.logged) c (Stepping s)
left_advanced op q image place change sound c (Committing s) = advance_leaves op q Committed image place change sound (logged_differs image op q c s.logged) c (Committing s)
left_advanced op q image place change sound c (Settling s) = settle_leaves op q image place change c s

-- ---- courses

-- sound, and what is to be settled is committed
abbrev IsFine : AllDoing → Image → Type 0
IsFine doing image = Sound image × AreLeft doing image

pub left_undo : (doing : AllDoing) (image : Image) → Sound image → AreLeft doing image → (hs : List Happening) → IsCourse AnyUndoStep image hs → AreLeft doing (after_all image hs)
left_undo doing image sound left hs c = (course_keeps AnyUndoStep (IsFine doing)
    (λ i place change f s. (undo_step_sound s.0 i place change f.0 s.2, λ t op is. left_undone op s.0 i place change f.0 (f.1 t op is) s.2)) image hs (sound, left) c).1

pub left_cleared : (doing : AllDoing) (image : Image) → Sound image → AreLeft doing image → (live : List ℕ) (reach : Reach) (hs : List Happening) → IsCourse (UndoStepOf (IsAbandonedInWay live reach)) image hs → AreLeft doing (after_all image hs)
left_cleared doing image sound left live reach hs c = left_undo doing image sound left hs (course_weaker (UndoStepOf (IsAbandonedInWay live reach)) AnyUndoStep (λ i place change s. (s.0, tt, s.2)) image hs c)

pub left_advance : (doing : AllDoing) (image : Image) → Sound image → AreLeft doing image → (q : Op) (hs : List Happening) → IsCourse (AdvanceStep q) image hs → AreLeft doing (after_all image hs)
left_advance doing image sound left q hs c = (course_keeps (AdvanceStep q) (IsFine doing)
    (λ i place change f s. (advance_step_sound q i place change f.0 s, λ t op is. left_advanced op q i place change f.0 (f.1 t op is) s)) image hs (sound, left) c).1

pub left_begin : (doing : AllDoing) (image : Image) → Sound image → AreLeft doing image → (live : List ℕ) (q : Op) (hs : List Happening) → IsCourse (BeginStep live q) image hs → AreLeft doing (after_all image hs)
left_begin doing image sound left live q hs c = (course_keeps (BeginStep live q) (IsFine doing) step image hs (sound, left) c).1
  where
    step : (i : Image) (place : Place) (change : List Edit) → IsFine doing i → BeginStep live q i place change → IsFine doing (changed_at i place change)
    step i place change f (Clearing u) = (undo_step_sound u.0 i place change f.0 u.2, λ t op is. left_undone op u.0 i place change f.0 (f.1 t op is) u.2)
    step i place change f (Logging l) = (
      subst Sound (sym l.1.is) (log_keeps_sound i f.0 (numbered q l.0) l.1.lawful l.1.number l.1.below l.1.clear),
      λ t op is. begin_leaves op (numbered q l.0) Committed i place change f.0 (f.1 t op is) l.1,
    )

pub left_short : (doing : AllDoing) (image after : Image) (reach : Reach) → AreLeft doing image → ShortChange image reach after → AreLeft doing after
left_short doing image after reach left change t op is = short_leaves op Committed reach image after (left t op is) change

-- ---- settled, it is clean everywhere

one_of_among : (xs : List Text) (x : Text) → is_among xs x ≡ true → IsOneOf xs x
one_of_among [] x h = absurd cc
one_of_among (y ∷ ys) x h = by (same x y) refl h (one_of_among ys x)
  where
    by : (b : Bool) → same x y ≡ b → (b || is_among ys x) ≡ true → (is_among ys x ≡ true → IsOneOf ys x) → IsOneOf (y ∷ ys) x
    by true e h more = inl (sym (same_is x y e))
    by false e h more = inr (more h)

pub settled_clean : (op : Op) (image : Image) → AtStage op Settled image → (location : Text) → IsAttachedIn image location → HasNoMark op (locals_at image location)
settled_clean op image s location here = elim (cases_Bool (is_among (marked_sites op) location)) [
  | inl t ↦ all_at (λ l. IsAttachedIn image l → HasNoMark op (locals_at image l)) (sites_of op) s.1.1 location (site location (one_of_among (marked_sites op) location t)) here
  | inr f ↦ s.0.elsewhere location here f
]
  where
    site : (l : Text) → IsOneOf (marked_sites op) l → IsOneOf (sites_of op) l
    site l h = in_first (locations_of (listed op.olds) ++ locations_of (listed op.news)) (sites_of_extra op.extra) l (subst (λ xs. IsOneOf xs l) (locations-append (listed op.olds) (listed op.news)) h)
