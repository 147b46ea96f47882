-- An operation that is settled stays so, whatever is undone, begun, moved on or settled.
use Rattle.std.proofs.Common.{◌≡◌, ℕ, refl, ap, ◌∙◌, subst, Some, None, List, []}
use Rattle.cell_world.specs.Images.{Image, Place, Happening, after_all}
use Rattle.cell_world.specs.Meaning.{meaning}
use Rattle.cell_world.specs.Sound.{Sound}
use Rattle.cell_world.specs.declared.changes.Edit.{Edit}
use Rattle.cell_world.specs.declared.operations.Op.{Op}
use Rattle.cell_world.specs.declared.operations.Reach.{Reach}
use Rattle.cell_world.specs.declared.operations.Extra.TheVariants as extra
use Rattle.cell_world.specs.declared.operations.StageName.TheVariants.{Committed}
use Rattle.op_log.specs.ShortChanges.{ShortChange}
use Rattle.op_steps.specs.Advancing.{AtStage, AdvanceStep, SettlesAt, Settling}
use Rattle.op_steps.specs.Beginning.{BeginStep, Clearing, Logging}
use Rattle.op_steps.specs.Passing.{IsCourse, changed_at}
use Rattle.op_steps.specs.Undoing.{UndoStepOf, AnyUndoStep}
use Rattle.op_steps.proofs.Courses.{course_keeps, course_weaker}
use Rattle.session_laws.specs.Doing.{AllDoing, Resting}
use Rattle.operation_laws.specs.Left.{AreLeft}
use Rattle.operation_laws.proofs.CalmSteps.{undo_means, settle_means}
use Rattle.operation_laws.proofs.Left.{left_undo, left_begin, left_advance, left_short}
use Rattle.manager_core.specs.Steady.{IsSettledOp}

-- ---- what stays of what is left

-- the operation with no mappings, so that it has no sites
abbrev pub bare : Op → Op
bare op = record op { olds = record { one = None; two = None }; news = record { one = None; two = None }; extra = extra.None }

-- a settled operation is committed as the one that has no sites
as_left : (op : Op) (image : Image) → IsSettledOp op image → AtStage (bare op) Committed image
as_left op image s = record {
  out = s.out;
  elsewhere = λ location here out. s.clean location here;
  sites = record { one = []; two = []; each = λ location none. absurd none };
  known = λ location none. absurd none;
}

as_settled : (op : Op) (image : Image) → AtStage (bare op) Committed image → IsSettledOp op image
as_settled op image c = record { out = c.out; clean = λ location here. c.elsewhere location here refl }

-- each session has it left
abbrev pub leaving : Op → AllDoing
leaving op = λ session. Resting (Some (bare op))

some_op : (a b : Op) → Some a ≡ Some b → a ≡ b
some_op a b is = cc

pub all_left : (op : Op) (image : Image) → IsSettledOp op image → AreLeft (leaving op) image
all_left op image s session o is = subst (λ x. AtStage x Committed image) (some_op (bare op) o is) (as_left op image s)

pub one_left : (op : Op) (image : Image) → AreLeft (leaving op) image → IsSettledOp op image
one_left op image left = as_settled op image (left 0 (bare op) refl)

-- so it stays, for each operation
abbrev pub StaysSettled : Image → Image → Type 0
StaysSettled image after = (op : Op) → IsSettledOp op image → IsSettledOp op after

pub settled_undone : (These : Op → Type 0) (image : Image) → Sound image → (hs : List Happening) → IsCourse (UndoStepOf These) image hs → StaysSettled image (after_all image hs)
settled_undone These image sound hs c op s = one_left op (after_all image hs)
    (left_undo (leaving op) image sound (all_left op image s) hs (course_weaker (UndoStepOf These) AnyUndoStep (λ i place change step. (step.0, tt, step.2)) image hs c))

pub settled_begun : (live : List ℕ) (q : Op) (image : Image) → Sound image → (hs : List Happening) → IsCourse (BeginStep live q) image hs → StaysSettled image (after_all image hs)
settled_begun live q image sound hs c op s = one_left op (after_all image hs) (left_begin (leaving op) image sound (all_left op image s) live q hs c)

pub settled_advanced : (q : Op) (image : Image) → Sound image → (hs : List Happening) → IsCourse (AdvanceStep q) image hs → StaysSettled image (after_all image hs)
settled_advanced q image sound hs c op s = one_left op (after_all image hs) (left_advance (leaving op) image sound (all_left op image s) q hs c)

pub settled_settled : (q : Op) (image : Image) → Sound image → (hs : List Happening) → IsCourse (SettlesAt q) image hs → StaysSettled image (after_all image hs)
settled_settled q image sound hs c = settled_advanced q image sound hs (course_weaker (SettlesAt q) (AdvanceStep q) (λ i place change step. Settling step) image hs c)

pub settled_short : (reach : Reach) (image after : Image) → ShortChange image reach after → StaysSettled image after
settled_short reach image after change op s = one_left op after (left_short (leaving op) image after reach (all_left op image s) change)

-- ---- what the stores stand for stays

pub means_undone : (These : Op → Type 0) (image : Image) (hs : List Happening) → IsCourse (UndoStepOf These) image hs → meaning (after_all image hs) ≡ meaning image
means_undone These image hs c = course_keeps (UndoStepOf These) (λ i. meaning i ≡ meaning image) (λ i place change same step. undo_means step.0 i place change step.2 ∙ same) image hs refl c

pub means_begun : (live : List ℕ) (q : Op) (image : Image) (hs : List Happening) → IsCourse (BeginStep live q) image hs → meaning (after_all image hs) ≡ meaning image
means_begun live q image hs c = course_keeps (BeginStep live q) (λ i. meaning i ≡ meaning image) by image hs refl c
  where
    by : (i : Image) (place : Place) (change : List Edit) → meaning i ≡ meaning image → BeginStep live q i place change → meaning (changed_at i place change) ≡ meaning image
    by i place change same (Clearing u) = undo_means u.0 i place change u.2 ∙ same
    by i place change same (Logging l) = ap meaning l.1.is ∙ same

pub means_settled : (q : Op) (image : Image) (hs : List Happening) → IsCourse (SettlesAt q) image hs → meaning (after_all image hs) ≡ meaning image
means_settled q image hs c = course_keeps (SettlesAt q) (λ i. meaning i ≡ meaning image) (λ i place change same step. settle_means q i place change step ∙ same) image hs refl c
