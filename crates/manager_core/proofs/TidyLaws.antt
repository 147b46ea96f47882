-- Operations are settled or undone, and nothing else happens.
use Rattle.std.proofs.Common.{◌≡◌, Bool, true, false, ℕ, refl, sym, ap, ◌∙◌, subst, Some, List, [], ◌∷◌, ◌++◌}
use Rattle.cell_world.specs.Images.{Image, Place, Happening, Committed, Wrote, Reopened, after_one, after_all}
use Rattle.cell_world.specs.Meaning.{meaning, next_operation}
use Rattle.cell_world.specs.Outside.{Outside, Told, IfContents, told_after}
use Rattle.cell_world.specs.Sound.{Sound}
use Rattle.cell_world.specs.declared.changes.Edit.{Edit}
use Rattle.cell_world.specs.declared.operations.Op.{Op}
use Rattle.cell_world.specs.declared.operations.Reach.{Reach}
use Rattle.cell_world.proofs.ContentsLaws.{contents_all, contents_both, contents_weaker}
use Rattle.op_steps.specs.Advancing.{SettlesAt, Settling}
use Rattle.op_steps.specs.Clearing.{IsAbandonedInWay}
use Rattle.op_steps.specs.Live.{is_live}
use Rattle.op_steps.specs.Passing.{IsCourse, Passes, changed_at, told_after_all}
use Rattle.op_steps.specs.Undoing.{UndoStepOf}
use Rattle.op_steps.proofs.Courses.{after_then, course_keeps, course_then, course_weaker}
use Rattle.op_steps.proofs.NumberLaws.{advance_leaves_numbers, undo_leaves_numbers}
use Rattle.op_steps.proofs.Passes.{contents_back}
use Rattle.plain_model.specs.OnTrail.{logs_put}
use Rattle.operation_laws.specs.Left.{left_of}
use Rattle.operation_laws.specs.LiveNumbers.{AreTheLive}
use Rattle.operation_laws.proofs.CalmSteps.{settle_means, undo_means}
use Rattle.session_laws.specs.Doing.{AllDoing, Doing}
use Rattle.manager_core.specs.Coming.{ClearStep, IsTidied, LeavesAll, LogNothing, SettleStep}
use Rattle.manager_core.specs.Steady.{IsSteady, AreSteady}
use Rattle.manager_core.proofs.Steadiness.{contents_after_all}

-- ---- one part after another

pub told_then : (told : Told) (hs gs : List Happening) → told_after_all (told_after_all told hs) gs ≡ told_after_all told (hs ++ gs)
told_then told [] gs = refl
told_then told (h ∷ hs) gs = told_then (told_after told h) hs gs

log_nothing_then : (hs gs : List Happening) → LogNothing hs → LogNothing gs → LogNothing (hs ++ gs)
log_nothing_then [] gs one two = two
log_nothing_then (Committed place change took ∷ hs) gs one two = (one.0, log_nothing_then hs gs one.1 two)
log_nothing_then (Wrote bytes ∷ hs) gs one two = absurd one
log_nothing_then (Reopened place cells ∷ hs) gs one two = absurd one

leaves_then : (image : Image) (hs gs : List Happening) → LeavesAll image hs → LeavesAll (after_all image hs) gs → LeavesAll image (hs ++ gs)
leaves_then image hs gs one two = record {
  quiet = log_nothing_then hs gs one.quiet two.quiet;
  same = ap meaning (sym (after_then image hs gs)) ∙ two.same ∙ one.same;
  number = ap next_operation (sym (after_then image hs gs)) ∙ two.number ∙ one.number;
}

leaves_none : (image : Image) → LeavesAll image []
leaves_none image = record { quiet = tt; same = refl; number = refl }

module _ (Step : Image → Place → List Edit → Type 0) where
  -- nothing happened
  pub tidied_none : (old new : Told) → new ≡ old → IsTidied Step old new
  tidied_none old new same = record {
    happened = [];
    told = same;
    course = contents_all old (λ image. Unit {0}) (λ image. tt);
    leaves = contents_all old (λ image. LeavesAll image []) leaves_none;
  }

  pub tidied_then : (a b c : Told) → IsTidied Step a b → IsTidied Step b c → IsTidied Step a c
  tidied_then a b c one two = record {
    happened = one.happened ++ two.happened;
    told = two.told ∙ ap (λ t. told_after_all t two.happened) one.told ∙ told_then a one.happened two.happened;
    course = contents_weaker a (λ image. IsCourse Step image one.happened × IsCourse Step (after_all image one.happened) two.happened) (λ image. IsCourse Step image (one.happened ++ two.happened))
        (λ image both. course_then Step image one.happened two.happened both.0 both.1)
        (contents_both a (λ image. IsCourse Step image one.happened) (λ image. IsCourse Step (after_all image one.happened) two.happened) one.course
        (contents_back a one.happened (λ image. IsCourse Step image two.happened) (subst (λ t. IfContents t (λ image. IsCourse Step image two.happened)) one.told two.course)));
    leaves = contents_weaker a (λ image. LeavesAll image one.happened × LeavesAll (after_all image one.happened) two.happened) (λ image. LeavesAll image (one.happened ++ two.happened))
        (λ image both. leaves_then image one.happened two.happened both.0 both.1)
        (contents_both a (λ image. LeavesAll image one.happened) (λ image. LeavesAll (after_all image one.happened) two.happened) one.leaves
        (contents_back a one.happened (λ image. LeavesAll image two.happened) (subst (λ t. IfContents t (λ image. LeavesAll image two.happened)) one.told two.leaves)));
  }

  -- steps of one kind are steps of another
  pub tidied_weaker : (Other : Image → Place → List Edit → Type 0) → ((image : Image) (place : Place) (change : List Edit) → Step image place change → Other image place change) → (old new : Told) → IsTidied Step old new → IsTidied Other old new
  tidied_weaker Other weaker old new t = record {
    happened = t.happened;
    told = t.told;
    course = contents_weaker old (λ image. IsCourse Step image t.happened) (λ image. IsCourse Other image t.happened) (λ image c. course_weaker Step Other weaker image t.happened c) t.course;
    leaves = t.leaves;
  }

  -- ---- what it leaves

  -- what is so of the contents before is so of an image that stands for the same, and the other way round
  pub tidied_on : (old new : Told) → IsTidied Step old new → (P Q : Image → Type 0) → ((image later : Image) → P image → meaning later ≡ meaning image → next_operation later ≡ next_operation image → Q later) → IfContents old P → IfContents new Q
  tidied_on old new t P Q goes p = subst (λ x. IfContents x Q) (sym t.told)
      (contents_after_all old t.happened (λ image. P image × LeavesAll image t.happened) Q (λ image both. goes image (after_all image t.happened) both.0 both.1.same both.1.number)
      (contents_both old P (λ image. LeavesAll image t.happened) p t.leaves))

  pub tidied_back : (old new : Told) → IsTidied Step old new → (P Q : Image → Type 0) → ((image later : Image) → Q later → meaning later ≡ meaning image → next_operation later ≡ next_operation image → P image) → IfContents new Q → IfContents old P
  tidied_back old new t P Q goes q = contents_weaker old (λ image. Q (after_all image t.happened) × LeavesAll image t.happened) P (λ image both. goes image (after_all image t.happened) both.0 both.1.same both.1.number)
      (contents_both old (λ image. Q (after_all image t.happened)) (λ image. LeavesAll image t.happened) (contents_back old t.happened Q (subst (λ x. IfContents x Q) t.told q)) t.leaves)

  -- ---- courses

  -- each step logs nothing, and leaves what the stores stand for and the next number
  abbrev pub EachLeaves : Type 0
  EachLeaves = (image : Image) (place : Place) (change : List Edit) → Step image place change → (logs_put change ≡ []) × (meaning (changed_at image place change) ≡ meaning image) × (next_operation (changed_at image place change) ≡ next_operation image)

  quiet_course : EachLeaves → (image : Image) (hs : List Happening) → IsCourse Step image hs → LogNothing hs
  quiet_course each image [] c = tt
  quiet_course each image (Committed place change took ∷ hs) c = ((each image place change c.0).0, quiet_course each (after_one image (Committed place change took)) hs c.1)
  quiet_course each image (Wrote bytes ∷ hs) c = absurd c.0
  quiet_course each image (Reopened place cells ∷ hs) c = absurd c.0

  pub leaves_course : EachLeaves → (image : Image) (hs : List Happening) → IsCourse Step image hs → LeavesAll image hs
  leaves_course each image hs c = record {
    quiet = quiet_course each image hs c;
    same = course_keeps Step (λ i. meaning i ≡ meaning image) (λ i place change is step. (each i place change step).1 ∙ is) image hs refl c;
    number = course_keeps Step (λ i. next_operation i ≡ next_operation image) (λ i place change is step. (each i place change step).2 ∙ is) image hs refl c;
  }

  -- what a call made of steady stores
  pub tidied_by : EachLeaves → (P : Image → List Happening → Type 0) (before : AllDoing) (old new : Outside) (passes : Passes P old new) → ((image : Image) → IsSteady before image → P image passes.happened → IsCourse Step image passes.happened) → AreSteady before old → IsTidied Step old.told new.told
  tidied_by each P before old new passes courses steady = record {
    happened = passes.happened;
    told = passes.told;
    course = course;
    leaves = contents_weaker old.told (λ image. IsCourse Step image passes.happened) (λ image. LeavesAll image passes.happened) (λ image c. leaves_course each image passes.happened c) course;
  }
    where
      course : IfContents old.told (λ image. IsCourse Step image passes.happened)
      course = contents_weaker old.told (λ image. IsSteady before image × P image passes.happened) (λ image. IsCourse Step image passes.happened) (λ image both. courses image both.0 both.1)
          (contents_both old.told (IsSteady before) (λ image. P image passes.happened) steady passes.each)

-- ---- operations are undone

pub undo_leaves_each : (These : Op → Type 0) → EachLeaves (UndoStepOf These)
undo_leaves_each These image place change step = let n = undo_leaves_numbers step.0 image place change step.2 in (n.0, undo_means step.0 image place change step.2, n.1)

pub tidied_undone : (These : Op → Type 0) (before : AllDoing) (old new : Outside) → Passes (λ image hs. Sound image → IsCourse (UndoStepOf These) image hs) old new → AreSteady before old → IsTidied (UndoStepOf These) old.told new.told
tidied_undone These before old new passes steady = tidied_by (UndoStepOf These) (undo_leaves_each These) (λ image hs. Sound image → IsCourse (UndoStepOf These) image hs) before old new passes (λ image s p. p s.sound) steady

-- those that conflict, and that aren't listed as live, are no session's
pub clear_step : (live : List ℕ) (before : AllDoing) → AreTheLive live before → (reached : Reach) (image : Image) (place : Place) (change : List Edit) → UndoStepOf (IsAbandonedInWay live reached) image place change → ClearStep before reached image place change
clear_step live before are reached image place change step = (
  step.0,
  (step.1.conflict, λ h. not_both (is_live live step.0.number) (subst (λ n. is_live live n ≡ true) h.named (are.listed h.session h.live h.here)) step.1.abandoned),
  step.2,
)
  where
    not_both : (b : Bool) → b ≡ true → b ≡ false → ⊥
    not_both b is not = cc

pub tidied_cleared : (live : List ℕ) (before : AllDoing) → AreTheLive live before → (reached : Reach) (old new : Outside) → Passes (λ image hs. Sound image → IsCourse (UndoStepOf (IsAbandonedInWay live reached)) image hs) old new → AreSteady before old
    → IsTidied (ClearStep before reached) old.told new.told
tidied_cleared live before are reached old new passes steady = tidied_weaker (UndoStepOf (IsAbandonedInWay live reached)) (ClearStep before reached) (clear_step live before are reached) old.told new.told
    (tidied_undone (IsAbandonedInWay live reached) before old new passes steady)

-- ---- an operation is settled

pub settle_leaves_each : (op : Op) → EachLeaves (SettlesAt op)
settle_leaves_each op image place change step = let n = advance_leaves_numbers op image place change (Settling step) in (n.0, settle_means op image place change step, n.1)

-- it is what the session has left
pub settle_step : (op : Op) (doing : Doing) → left_of doing ≡ Some op → (image : Image) (place : Place) (change : List Edit) → SettlesAt op image place change → SettleStep doing image place change
settle_step op doing is image place change step = (op, is, step)
