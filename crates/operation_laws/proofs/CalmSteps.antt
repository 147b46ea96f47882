-- Transactions that try no log cell and may be tried: those of undo, and of an operation that goes on.
use Rattle.std.proofs.Common.{◌≡◌, Some, Bool, true, false, refl, sym, ap, ◌∙◌, subst, List, []}
use Rattle.cell_world.specs.Texts.{Text}
use Rattle.cell_world.specs.Images.{Image, Place, Global, Shard, Committed, after_one}
use Rattle.cell_world.specs.Plain.{is_attached}
use Rattle.cell_world.specs.Meaning.{meaning, next_operation}
use Rattle.cell_world.specs.Sound.{Sound, IsAttachedIn}
use Rattle.cell_world.specs.declared.cells.Away.TheVariants as away
use Rattle.cell_world.specs.declared.operations.Op.{Op}
use Rattle.cell_world.specs.declared.changes.Edit.{Edit}
use Rattle.image_laws.proofs.LocalImages.{local_meaning}
use Rattle.plain_model.specs.Timelines.{Timeline, image_of}
use Rattle.plain_model.specs.OnTrail.{logs_put}
use Rattle.plain_model.specs.Legal.{MayHappen, KeepsCounter, TriesNumber, IsDetachedIn}
use Rattle.session_laws.specs.Core.{Quiet}
use Rattle.op_steps.specs.Passing.{changed_at}
use Rattle.op_steps.specs.Undoing.{UndoStep, AtSite, LogRow}
use Rattle.op_steps.specs.Advancing.{StepsAt, SettlesAt, AdvanceStep, Stepping, Committing, Settling}
use Rattle.op_steps.proofs.AdvanceMeaning.{advance_step_sound}
use Rattle.op_steps.proofs.NumberLaws.{undo_leaves_numbers, advance_leaves_numbers}
use Rattle.op_steps.proofs.RecoverLaws.{undo_step_sound}

-- No log cell is tried, the counter of operations stays, the place is attached, and where it is made the stores are sound.
pub record IsCalm (image : Image) (place : Place) (change : List Edit) : Type 0 where
  pub tries : logs_put change ≡ []
  pub next : next_operation (changed_at image place change) ≡ next_operation image
  pub here : (location : Text) → place ≡ Shard location → IsAttachedIn image location
  pub sound : Sound (changed_at image place change)

-- an attached site isn't detached
not_detached : (image : Image) (location : Text) → IsAttachedIn image location → IsDetachedIn image location → ⊥
not_detached image location here gone = let e : is_attached (Some away.Detached) ≡ true = ap is_attached (sym gone) ∙ here.attached in cc

-- Such a transaction may happen, made or not.
pub quiet_try : (start : Image) (past : Timeline) → Sound (image_of start past) → (place : Place) (change : List Edit) (took : Bool) → IsCalm (image_of start past) place change → Quiet start past (Committed place change took)
quiet_try start past sound place change took calm = record { silent = refl; tries = calm.tries; may = may place took calm; sound = after took }
  where
    after : (took : Bool) → Sound (after_one (image_of start past) (Committed place change took))
    after true = calm.sound
    after false = sound

    may : (place : Place) (took : Bool) → IsCalm (image_of start past) place change → MayHappen start past (Committed place change took)
    may Global true calm = subst (KeepsCounter (next_operation (image_of start past)) (next_operation (changed_at (image_of start past) Global change))) (sym calm.tries) calm.next
    may Global false calm = subst (TriesNumber (next_operation (image_of start past))) (sym calm.tries) tt
    may (Shard location) true calm = (calm.tries, λ gone. absurd (not_detached (image_of start past) location (calm.here location refl) gone))
    may (Shard location) false calm = (calm.tries, λ gone. absurd (not_detached (image_of start past) location (calm.here location refl) gone))

-- ---- which they are

abbrev location_of : Place → Text
location_of Global = []
location_of (Shard location) = location

-- a place that is the shard of an attached site
at_site : (image : Image) (place : Place) (l : Text) → place ≡ Shard l → IsAttachedIn image l → (location : Text) → place ≡ Shard location → IsAttachedIn image location
at_site image place l is here location also = subst (IsAttachedIn image) (ap location_of (sym is ∙ also)) here

-- and one that is no shard
at_global : (image : Image) (place : Place) → place ≡ Global → (location : Text) → place ≡ Shard location → IsAttachedIn image location
at_global image place is location also = let e : Global ≡ Shard location = sym is ∙ also in absurd cc

pub undo_calm : (op : Op) (image : Image) (place : Place) (change : List Edit) → Sound image → UndoStep op image place change → IsCalm image place change
undo_calm op image place change sound step =
    let numbers = undo_leaves_numbers op image place change step in
    record { tries = numbers.0; next = numbers.1; here = by step; sound = undo_step_sound op image place change sound step }
  where
    by : UndoStep op image place change → (location : Text) → place ≡ Shard location → IsAttachedIn image location
    by (AtSite u) = at_site image place u.location u.place_is u.site.here
    by (LogRow d) = at_global image place d.place_is

pub undo_means : (op : Op) (image : Image) (place : Place) (change : List Edit) → UndoStep op image place change → meaning (changed_at image place change) ≡ meaning image
undo_means op image place change (AtSite u) = ap meaning u.is ∙ local_meaning image u.location u.last u.site.here
undo_means op image place change (LogRow d) = ap meaning d.is

pub advance_calm : (op : Op) (image : Image) (place : Place) (change : List Edit) → Sound image → AdvanceStep op image place change → IsCalm image place change
advance_calm op image place change sound step =
    let numbers = advance_leaves_numbers op image place change step in
    record { tries = numbers.0; next = numbers.1; here = by step; sound = advance_step_sound op image place change sound step }
  where
    by : AdvanceStep op image place change → (location : Text) → place ≡ Shard location → IsAttachedIn image location
    by (Stepping s) = at_site image place s.location s.place_is s.site.here
    by (Committing c) = at_global image place c.place_is
    by (Settling s) = at_site image place s.location s.place_is s.here

pub step_means : (op : Op) (image : Image) (place : Place) (change : List Edit) → StepsAt op image place change → meaning (changed_at image place change) ≡ meaning image
step_means op image place change s = ap meaning s.is ∙ local_meaning image s.location s.last s.site.here

pub settle_means : (op : Op) (image : Image) (place : Place) (change : List Edit) → SettlesAt op image place change → meaning (changed_at image place change) ≡ meaning image
settle_means op image place change s = ap meaning s.is ∙ local_meaning image s.location s.last s.here
