-- A session's committed operation is left to be settled, and settled.
use Rattle.std.proofs.Common.{◌≡◌, ⊎_elim, ℕ, refl, sym, ap, ◌∙◌, subst, Some, None, List}
use Rattle.std.specs.Prelude.{Result, IsOk}
use Rattle.cell_world.specs.Texts.{Text}
use Rattle.cell_world.specs.Images.{Image, Happening, after_all}
use Rattle.cell_world.specs.Marked.{HasNoMark}
use Rattle.cell_world.specs.Plain.{Connections}
use Rattle.cell_world.specs.Sound.{Sound, IsAttachedIn, locals_at}
use Rattle.cell_world.specs.declared.operations.Op.{Op}
use Rattle.cell_world.specs.declared.operations.StageName.TheVariants.{TargetDone, Committed}
use Rattle.global_tables.specs.declared.faults.StepFault.{StepFault}
use Rattle.plain_model.specs.Timelines.{Timeline, Past, image_of}
use Rattle.plain_model.specs.Written.{Mode}
use Rattle.session_laws.specs.Doing.{Doing, Resting, Working, Operating, AllDoing, Live, live_of, going_of, IsThen}
use Rattle.session_laws.specs.Core.{Core, CoreAlone, SameGoing}
use Rattle.session_laws.specs.Needs.{Needs}
use Rattle.session_laws.proofs.SessionLaws.{this_or_other}
use Rattle.op_steps.specs.declared.stages.Stage.{Stage}
use Rattle.op_steps.specs.Passing.{FailsByMemory}
use Rattle.op_steps.specs.Advancing.{AtStage, Advances}
use Rattle.op_steps.proofs.AdvanceMeaning.{course_from}
use Rattle.operation_laws.specs.Courses.{happened_on}
use Rattle.operation_laws.specs.Left.{left_of, AreLeft, without_left}
use Rattle.operation_laws.proofs.CoreCourses.{settling_on_trail, settling_alone}
use Rattle.operation_laws.proofs.Left.{left_advance, settled_clean}
use Rattle.operation_laws.proofs.Timelines.{image_on}

none_some : (o : Op) → None ≡ Some o → ⊥
none_some o e = cc

-- ---- what is left of the sessions

going_stays : (d : Doing) → going_of (without_left d) ≡ going_of d
going_stays (Resting left) = refl
going_stays (Working command left) = refl
going_stays (Operating command op stage) = refl

live_stays : (d : Doing) → live_of (without_left d) ≡ live_of d
live_stays (Resting left) = refl
live_stays (Working command left) = refl
live_stays (Operating command op stage) = refl

nothing_left : (d : Doing) → left_of (without_left d) ≡ None
nothing_left (Resting left) = refl
nothing_left (Working command left) = refl
nothing_left (Operating command op stage) = refl

module _ (doing : AllDoing) (session : ℕ) (d : Doing) (next : AllDoing) (then : IsThen doing session d next) (image : Image) (left : AreLeft doing image) where
  -- what the session has to settle now is committed, and what the others have
  pub left_then : ((op : Op) → left_of d ≡ Some op → AtStage op Committed image) → AreLeft next image
  left_then own t op is = ⊎_elim
      (λ same. own op (sym (ap left_of then.here) ∙ ap (λ i. left_of (next i)) same ∙ is))
      (λ other. left t op (sym (ap left_of (then.others t other)) ∙ is))
      (this_or_other doing session d next then t)

module _ (doing : AllDoing) (session : ℕ) (next : AllDoing) (then : IsThen doing session (without_left (doing session)) next) where
  going_then : (t : ℕ) → going_of (next t) ≡ going_of (doing t)
  going_then t = ⊎_elim
      (λ same. ap (λ i. going_of (next i)) (sym same) ∙ ap going_of then.here ∙ going_stays (doing session) ∙ ap (λ i. going_of (doing i)) same)
      (λ other. ap going_of (then.others t other))
      (this_or_other doing session (without_left (doing session)) next then t)

  live_then : (t : ℕ) → live_of (next t) ≡ live_of (doing t)
  live_then t = ⊎_elim
      (λ same. ap (λ i. live_of (next i)) (sym same) ∙ ap live_of then.here ∙ live_stays (doing session) ∙ ap (λ i. live_of (doing i)) same)
      (λ other. ap live_of (then.others t other))
      (this_or_other doing session (without_left (doing session)) next then t)

  same_then : SameGoing doing next
  same_then = record { going = going_then; live = λ t l is. (l, sym (live_then t) ∙ is, refl, refl) }

  stages_then : (t : ℕ) (l : Live) → live_of (next t) ≡ Some l → live_of (doing t) ≡ Some l
  stages_then t l is = sym (live_then t) ∙ is

-- ---- it is committed

pub committed_left : (doing : AllDoing) (image : Image) → Sound image → AreLeft doing image → (op : Op) → AtStage op TargetDone image → (result : Result Stage StepFault) → IsOk result → (hs : List Happening) → Advances op TargetDone (IsOk result) (FailsByMemory result) image hs
    → (session : ℕ) (d : Doing) (next : AllDoing) → IsThen doing session d next → ((o : Op) → left_of d ≡ Some o → o ≡ op) → AreLeft next (after_all image hs)
committed_left doing image sound left op at result ok hs advances session d next then own =
    let a = advances sound at in
    left_then doing session d next then (after_all image hs) (left_advance doing image sound left op hs (course_from op TargetDone image hs a.course)) (λ o is. subst (λ x. AtStage x Committed (after_all image hs)) (sym (own o is)) (a.reached ok))

-- ---- it is settled

module _ (doing : AllDoing) (image : Image) (sound : Sound image) (left : AreLeft doing image) (session : ℕ) (op : Op) (is : left_of (doing session) ≡ Some op) (result : Result Stage StepFault) (hs : List Happening) (advances : Advances op Committed (IsOk result) (FailsByMemory result) image hs)
    (next : AllDoing) (then : IsThen doing session (without_left (doing session)) next) where
  settled_left : AreLeft next (after_all image hs)
  settled_left =
      let a = advances sound (left session op is) in
      left_then doing session (without_left (doing session)) next then (after_all image hs) (left_advance doing image sound left op hs (course_from op Committed image hs a.course)) (λ o here. absurd (none_some o (sym (nothing_left (doing session)) ∙ here)))

  settled_marks : IsOk result → (location : Text) → IsAttachedIn (after_all image hs) location → HasNoMark op (locals_at (after_all image hs) location)
  settled_marks ok = settled_clean op (after_all image hs) ((advances sound (left session op is)).reached ok)

pub settled_on_trail : (since : ℕ) (start : Image) (mode : Mode) (past : Timeline) (connections : Connections) (rest : Text) (doing : AllDoing) → Core Needs since start mode past connections rest doing → AreLeft doing (image_of start past) → (session : ℕ) (op : Op) → left_of (doing session) ≡ Some op
    → (result : Result Stage StepFault) (hs : List Happening) → Advances op Committed (IsOk result) (FailsByMemory result) (image_of start past) hs → (next : AllDoing) → IsThen doing session (without_left (doing session)) next
    → Core Needs since start mode (happened_on past hs) connections rest next × AreLeft next (image_of start (happened_on past hs))
    × (IsOk result → (location : Text) → IsAttachedIn (image_of start (happened_on past hs)) location → HasNoMark op (locals_at (image_of start (happened_on past hs)) location))
settled_on_trail since start mode past connections rest doing core left session op is result hs advances next then = (
  settling_on_trail since start mode past connections rest doing core op hs (advances core.sessions.sound (left session op is)).course next (same_then doing session next then) (stages_then doing session next then),
  subst (AreLeft next) (sym (image_on start past hs)) (settled_left doing (image_of start past) core.sessions.sound left session op is result hs advances next then),
  λ ok. subst (λ i. (location : Text) → IsAttachedIn i location → HasNoMark op (locals_at i location)) (sym (image_on start past hs)) (settled_marks doing (image_of start past) core.sessions.sound left session op is result hs advances next then ok),
)

pub settled_alone : (first : Image) (past : Past) (connections : Connections) (image : Image) (doing : AllDoing) → CoreAlone Needs first past connections image doing → AreLeft doing image → (session : ℕ) (op : Op) → left_of (doing session) ≡ Some op
    → (result : Result Stage StepFault) (hs : List Happening) → Advances op Committed (IsOk result) (FailsByMemory result) image hs → (next : AllDoing) → IsThen doing session (without_left (doing session)) next
    → CoreAlone Needs first past connections (after_all image hs) next × AreLeft next (after_all image hs) × (IsOk result → (location : Text) → IsAttachedIn (after_all image hs) location → HasNoMark op (locals_at (after_all image hs) location))
settled_alone first past connections image doing core left session op is result hs advances next then = (
  settling_alone first past connections image doing core op hs (advances core.run.sound (left session op is)).course next (same_then doing session next then) (stages_then doing session next then),
  settled_left doing image core.run.sound left session op is result hs advances next then,
  settled_marks doing image core.run.sound left session op is result hs advances next then,
)
