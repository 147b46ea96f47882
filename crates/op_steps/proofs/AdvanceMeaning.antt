-- What an operation that goes on leaves of the stores.
use Rattle.std.proofs.Common.{◌≡◌, ◌⊎◌, sym, ap, ◌∙◌, subst, inl, inr, List}
use Rattle.cell_world.specs.Images.{Image, Place, Happening, global}
use Rattle.cell_world.specs.declared.changes.Edit.{Edit}
use Rattle.cell_world.specs.Lawful.{rows_at}
use Rattle.cell_world.specs.Marked.{Marked, committed, jobs_after}
use Rattle.cell_world.specs.Meaning.{meaning}
use Rattle.cell_world.specs.Sound.{Sound}
use Rattle.cell_world.specs.Spelled.{listed}
use Rattle.cell_world.specs.declared.operations.Op.{Op}
use Rattle.cell_world.specs.declared.operations.StageName.{StageName}
use Rattle.cell_world.specs.declared.operations.StageName.TheVariants.{Logged, SourceDone, TargetDone, Committed, Settled}
use Rattle.image_laws.proofs.CommitImages.{commit_sound, commit_meaning}
use Rattle.image_laws.proofs.JobCommits.{parts}
use Rattle.image_laws.proofs.LocalImages.{local_meaning}
use Rattle.image_laws.proofs.StepImages.{step_sound, settle_sound, source_done}
use Rattle.image_laws.proofs.UnderWayLaws.{together}
use Rattle.op_steps.specs.Passing.{IsCourse, AtEach, changed_at}
use Rattle.op_steps.specs.Advancing.{AtStage, StepFrom, AdvanceStep, Stepping, Committing, Settling}
use Rattle.op_steps.proofs.CommitLaws.{all_marked, at_one}
use Rattle.op_steps.proofs.Courses.{course_each, course_weaker}

pub advance_step_sound : (op : Op) (image : Image) (place : Place) (change : List Edit) → Sound image → AdvanceStep op image place change → Sound (changed_at image place change)
advance_step_sound op image place change sound (Stepping s) = subst Sound (sym s.is) (step_sound image sound op s.logged s.location s.site.here s.unborn s.last s.stepped)
advance_step_sound op image place change sound (Committing c) =
    let law = sound.logged.lawful op c.logged in
    subst Sound (sym c.is) (commit_sound image sound op law (jobs_after (global image).jobs op.extra) c.logged c.marked (parts image sound op law))
advance_step_sound op image place change sound (Settling s) = subst Sound (sym s.is) (settle_sound image sound op.number s.out s.location s.here s.last s.settled)

pub advance_each : (op : Op) (image : Image) → Sound image → (hs : List Happening) → IsCourse (AdvanceStep op) image hs → AtEach Sound image hs
advance_each op image sound hs c = course_each (AdvanceStep op) Sound (advance_step_sound op) image hs sound c

pub advance_meaning : (op : Op) (image : Image) → Sound image → (place : Place) (change : List Edit) → AdvanceStep op image place change
    → (meaning (changed_at image place change) ≡ meaning image) ⊎ (meaning (changed_at image place change) ≡ record (meaning image) { mappings = (committed (global image) op).mappings; jobs = (committed (global image) op).jobs })
advance_meaning op image sound place change (Stepping s) = inl (ap meaning s.is ∙ local_meaning image s.location s.last s.site.here)
advance_meaning op image sound place change (Committing c) = inr (ap meaning c.is ∙ commit_meaning image sound op (sound.logged.lawful op c.logged) (jobs_after (global image).jobs op.extra))
advance_meaning op image sound place change (Settling s) = inl (ap meaning s.is ∙ local_meaning image s.location s.last s.here)

pub stage_marked : (op : Op) (name : StageName) (image : Image) → Sound image → AtStage op name image → Marked image op name
stage_marked op Logged image sound w = w.logged
stage_marked op SourceDone image sound w =
    let law = sound.logged.lawful op w.logged in
    source_done image sound op w.logged (λ old h. w.done old.location (at_one op.olds.one op.olds.two law.olds_in_order (together (rows_at image) (listed op.olds) (listed op.news) law.shape).0 old h))
stage_marked op TargetDone image sound w = all_marked image op sound w
stage_marked op Committed image sound c = c.out
stage_marked op Settled image sound c = c.1

-- what leads on from a stage is a transaction of an operation that goes on
pub step_from : (op : Op) (name : StageName) (image : Image) (place : Place) (change : List Edit) → StepFrom name op image place change → AdvanceStep op image place change
step_from op Logged image place change s = Stepping s
step_from op SourceDone image place change s = Stepping s
step_from op TargetDone image place change s = Committing s
step_from op Committed image place change s = Settling s
step_from op Settled image place change s = absurd s

pub course_from : (op : Op) (name : StageName) (image : Image) (hs : List Happening) → IsCourse (StepFrom name op) image hs → IsCourse (AdvanceStep op) image hs
course_from op name image hs c = course_weaker (StepFrom name op) (AdvanceStep op) (step_from op name) image hs c
