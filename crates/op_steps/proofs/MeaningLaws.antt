-- What the transactions leave of the stores: sound, and what they stand for.
use Rattle.std.proofs.Common.{◌≡◌, ℕ, refl, sym, ap, ◌∙◌, subst, List}
use Rattle.cell_world.specs.Images.{Image, Place, Happening}
use Rattle.cell_world.specs.declared.changes.Edit.{Edit}
use Rattle.cell_world.specs.Meaning.{meaning}
use Rattle.cell_world.specs.Sound.{Sound}
use Rattle.cell_world.specs.declared.operations.Op.{Op}
use Rattle.image_laws.proofs.LocalImages.{local_meaning}
use Rattle.image_laws.proofs.LogKeepsSound.{log_keeps_sound}
use Rattle.op_steps.specs.Passing.{IsCourse, AtEach, changed_at}
use Rattle.op_steps.specs.Undoing.{UndoStep, AtSite, LogRow, UndoStepOf}
use Rattle.op_steps.specs.Beginning.{BeginStep, Clearing, Logging, numbered}
use Rattle.op_steps.proofs.Courses.{course_each}
use Rattle.op_steps.proofs.RecoverLaws.{undo_step_sound}

-- sound, and standing for the same as a first image
abbrev pub IsSoundLike : Image → Image → Type 0
IsSoundLike first now = Sound now × (meaning now ≡ meaning first)

undo_step_like : (op : Op) (first image : Image) (place : Place) (change : List Edit) → IsSoundLike first image → UndoStep op image place change → IsSoundLike first (changed_at image place change)
undo_step_like op first image place change s (AtSite u) = (undo_step_sound op image place change s.0 (AtSite u), ap meaning u.is ∙ local_meaning image u.location u.last u.site.here ∙ s.1)
undo_step_like op first image place change s (LogRow d) = (undo_step_sound op image place change s.0 (LogRow d), ap meaning d.is ∙ s.1)

pub undo_each : (op : Op) (image : Image) → Sound image → (hs : List Happening) → IsCourse (UndoStep op) image hs → AtEach (IsSoundLike image) image hs
undo_each op image sound hs c = course_each (UndoStep op) (IsSoundLike image) (undo_step_like op image) image hs (sound, refl) c

pub undo_all_each : (These : Op → Type 0) (image : Image) → Sound image → (hs : List Happening) → IsCourse (UndoStepOf These) image hs → AtEach (IsSoundLike image) image hs
undo_all_each These image sound hs c = course_each (UndoStepOf These) (IsSoundLike image) (λ i p c s step. undo_step_like step.0 image i p c s step.2) image hs (sound, refl) c

begin_step_like : (live : List ℕ) (op : Op) (first image : Image) (place : Place) (change : List Edit) → IsSoundLike first image → BeginStep live op image place change → IsSoundLike first (changed_at image place change)
begin_step_like live op first image place change s (Clearing u) = undo_step_like u.0 first image place change s u.2
begin_step_like live op first image place change s (Logging l) =
    (subst Sound (sym l.1.is) (log_keeps_sound image s.0 (numbered op l.0) l.1.lawful l.1.number l.1.below l.1.clear), ap meaning l.1.is ∙ s.1)

pub begin_each : (live : List ℕ) (op : Op) (image : Image) → Sound image → (hs : List Happening) → IsCourse (BeginStep live op) image hs → AtEach (IsSoundLike image) image hs
begin_each live op image sound hs c = course_each (BeginStep live op) (IsSoundLike image) (begin_step_like live op image) image hs (sound, refl) c
