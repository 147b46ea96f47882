-- A session's operation goes on: to the next stage, or to the entry that names it.
use Rattle.std.proofs.Common.{◌≡◌, ◌≤◌, ⊎_elim, ◌⊎◌, inl, inr, ℕ, arith, Bool, true, false, refl, sym, ap, ◌∙◌, subst, Some, None, Option, List, [], ◌∷◌, length}
use Rattle.std.specs.Prelude.{Result, IsOk}
use Rattle.std.specs.FinMap as map
use Rattle.std.proofs.lemmas.Cmp.{nat_cmp_total}
use Rattle.cell_world.specs.Texts.{Text}
use Rattle.cell_world.specs.Images.{Image, Place, Global, Happening, Committed, Wrote, Reopened, global, after_one, after_all}
use Rattle.cell_world.specs.Plain.{Connections, with_connections}
use Rattle.cell_world.specs.Marked.{committed_image}
use Rattle.cell_world.specs.Meaning.{meaning}
use Rattle.cell_world.specs.Sound.{Sound, HasLog}
use Rattle.cell_world.specs.declared.operations.Op.{Op}
use Rattle.cell_world.specs.declared.operations.StageName.{StageName}
use Rattle.cell_world.specs.declared.operations.StageName.TheVariants.{Logged, SourceDone, TargetDone}
use Rattle.cell_world.specs.declared.operations.StageName.TheVariants as stage
use Rattle.cell_world.specs.declared.changes.Edit.{Edit}
use Rattle.cell_world.proofs.StoreLaws.{get-remove_same}
use Rattle.image_laws.specs.CommitEdits.{commit_edits}
use Rattle.global_tables.specs.declared.faults.StepFault.{StepFault}
use Rattle.plain_model.specs.declared.replies.Reply.{Reply}
use Rattle.plain_model.specs.declared.replies.Reply.TheVariants as reply
use Rattle.plain_model.specs.declared.history.Entry.{Entry}
use Rattle.plain_model.specs.Follows.{Follows}
use Rattle.plain_model.specs.Timelines.{Timeline, Past, Entered, image_of}
use Rattle.plain_model.specs.Legal.{Promises}
use Rattle.plain_model.specs.GoingOn.{IsOf}
use Rattle.plain_model.specs.Written.{Mode}
use Rattle.plain_model.specs.Running.{text_of}
use Rattle.session_laws.specs.Doing.{Doing, Operating, AllDoing, Live, live_of, going_of, all_going, IsThen}
use Rattle.session_laws.specs.Core.{Stands, AllStand, OthersStand, Core, CoreAlone, Answers, Leaves, SameGoing}
use Rattle.session_laws.specs.Needs.{Needs}
use Rattle.session_laws.proofs.AloneCore.{alone_core_goes_on, alone_core_enters}
use Rattle.session_laws.proofs.CoreLaws.{core_happens, answers_alone, answers_with, steps_with}
use Rattle.session_laws.proofs.SessionLaws.{live_then, live_going, this_or_other}
use Rattle.op_steps.specs.declared.stages.Stage.{Stage}
use Rattle.op_steps.specs.Passing.{IsCourse, FailsByMemory, changed_at}
use Rattle.op_steps.specs.Stages.{next_stage}
use Rattle.op_steps.specs.Advancing.{AtStage, StepFrom, StepsAt, CommitsOp, AdvanceStep, Stepping, Committing, HasAdvanced, Advances}
use Rattle.op_steps.proofs.AdvanceMeaning.{step_from}
use Rattle.operation_laws.specs.Courses.{happened_on}
use Rattle.operation_laws.specs.Forward.{IsForward, IsBeforeTarget}
use Rattle.operation_laws.proofs.CalmSteps.{quiet_try, advance_calm, step_means}
use Rattle.operation_laws.proofs.CoreCourses.{core_same}
use Rattle.operation_laws.proofs.Stages.{at_stage, needs_at}
use Rattle.operation_laws.proofs.Standing.{same_exchange, stands_advance}

some_live : (x y : Live) → Some x ≡ Some y → x ≡ y
some_live x y is = cc

-- ---- the stage becomes another one

module _ (doing : AllDoing) (session : ℕ) (l : Live) (is : live_of (doing session) ≡ Some l) (name : StageName) (next : AllDoing) (then : IsThen doing session (Operating l.command l.op name) next) where
  abbrev now : Live
  now = record { command = l.command; op = l.op; stage = name }

  pub same_operation : SameGoing doing next
  same_operation = record {
    going = λ t. ⊎_elim
        (λ this. ap (λ i. going_of (next i)) (sym this) ∙ ap going_of then.here ∙ sym (live_going (doing session) l is).0 ∙ ap (λ i. going_of (doing i)) this)
        (λ other. ap going_of (then.others t other))
        (this_or_other doing session (Operating l.command l.op name) next then t);
    live = λ t m at. ⊎_elim
        (λ this. let e = some_live now m this.1 in (l, ap (λ i. live_of (doing i)) (sym this.0) ∙ is, ap (λ (x : Live). x.op) e, ap (λ (x : Live). x.command) e))
        (λ other. (m, other.1, refl, refl))
        (live_then doing session (Operating l.command l.op name) next then t m at);
  }

  -- its operation stands at that stage, and each other one
  pub all_stand : (image : Image) → Stands Needs session now image → OthersStand Needs doing session image → AllStand Needs next image
  all_stand image own others t m at = ⊎_elim
      (λ this. subst (λ (m : Live). Stands Needs t m image) (some_live now m this.1) (subst (λ i. Stands Needs i now image) this.0 own))
      (λ other. others t m other.0 other.1)
      (live_then doing session (Operating l.command l.op name) next then t m at)

-- ---- what its transactions leave of the others

module _ (doing : AllDoing) (image : Image) (sound : Sound image) (stand : AllStand Needs doing image) (one : (s t : ℕ) (l m : Live) → live_of (doing s) ≡ Some l → live_of (doing t) ≡ Some m → l.op.number ≡ m.op.number → s ≡ t)
    (session : ℕ) (l : Live) (is : live_of (doing session) ≡ Some l) where
  pub others_stand : (place : Place) (change : List Edit) → AdvanceStep l.op image place change → OthersStand Needs doing session (changed_at image place change)
  others_stand place change step t m other at = stands_advance t m image sound (stand t m at) l.op (λ same. other (one session t l m is at (sym same))) place change step

  -- made or not
  pub others_after : (place : Place) (change : List Edit) (took : Bool) → AdvanceStep l.op image place change → OthersStand Needs doing session (after_one image (Committed place change took))
  others_after place change true step = others_stand place change step
  others_after place change false step = λ t m other at. stand t m at

  pub sound_after : (place : Place) (change : List Edit) (took : Bool) → AdvanceStep l.op image place change → Sound (after_one image (Committed place change took))
  sound_after place change true step = (advance_calm l.op image place change sound step).sound
  sound_after place change false step = sound

  pub means_after : (place : Place) (change : List Edit) (took : Bool) → StepsAt l.op image place change → meaning (after_one image (Committed place change took)) ≡ meaning image
  means_after place change true s = step_means l.op image place change s
  means_after place change false s = refl

  -- its operation stands at the next stage
  pub own_stands : (name : StageName) → IsForward name → (after : Image) → Sound after → meaning after ≡ meaning image → AtStage l.op name after → HasLog (global after).log l.op → Stands Needs session (record { command = l.command; op = l.op; stage = name }) after
  own_stands name forward after sound_now means at logged = record {
    logged = logged;
    exchange = same_exchange session l image sound (stand session l is) after means;
    more = needs_at after l.op (sound_now.logged.lawful l.op logged) name forward at;
  }

-- ---- at most one transaction

-- nothing, or one transaction
pub data IsOne (Step : Image → Place → List Edit → Type 0) (image : Image) (hs : List Happening) : Type 0 where
  Nothing : hs ≡ [] → IsOne Step image hs
  Tried : (place : Place) (change : List Edit) (took : Bool) → Step image place change → hs ≡ Committed place change took ∷ [] → IsOne Step image hs

pub is_one : (Step : Image → Place → List Edit → Type 0) (image : Image) (hs : List Happening) → IsCourse Step image hs → length hs ≤ 1 → IsOne Step image hs
is_one Step image [] c few = Nothing refl
is_one Step image (Committed place change took ∷ []) c few = Tried place change took c.0 refl
is_one Step image (Wrote bytes ∷ []) c few = absurd c.0
is_one Step image (Reopened place cells ∷ []) c few = absurd c.0
is_one Step image (h ∷ g ∷ hs) c few = absurd (omega (arith, few))

one_as : (S T : Image → Place → List Edit → Type 0) → ((image : Image) (place : Place) (change : List Edit) → S image place change → T image place change) → (image : Image) (hs : List Happening) → IsOne S image hs → IsOne T image hs
one_as S T f image hs (Nothing e) = Nothing e
one_as S T f image hs (Tried place change took s e) = Tried place change took (f image place change s) e

-- the log row of an operation at a stage before its commit
logged_at : (op : Op) (name : StageName) (image : Image) → IsForward name → AtStage op name image → HasLog (global image).log op
logged_at op Logged image f w = w.logged
logged_at op SourceDone image f w = w.logged
logged_at op TargetDone image f w = w.logged
logged_at op stage.Committed image f w = absurd f
logged_at op stage.Settled image f w = absurd f

before_forward : (name : StageName) → IsBeforeTarget name → IsForward name
before_forward Logged b = tt
before_forward SourceDone b = tt
before_forward TargetDone b = absurd b
before_forward stage.Committed b = absurd b
before_forward stage.Settled b = absurd b

next_forward : (name : StageName) → IsBeforeTarget name → IsForward (next_stage name)
next_forward Logged b = tt
next_forward SourceDone b = tt
next_forward TargetDone b = absurd b
next_forward stage.Committed b = absurd b
next_forward stage.Settled b = absurd b

module _ (since : ℕ) (start : Image) (mode : Mode) (past : Timeline) (connections : Connections) (rest : Text) (doing : AllDoing) (core : Core Needs since start mode past connections rest doing) (session : ℕ) (l : Live) (is : live_of (doing session) ≡ Some l) where
  abbrev I : Image
  I = image_of start past

  law_I : Rattle.cell_world.specs.Lawful.Lawful I l.op
  law_I = core.sessions.sound.logged.lawful l.op (core.sessions.stand session l is).logged

  -- it is at its stage
  pub stage_now : IsForward l.stage → AtStage l.op l.stage I
  stage_now f = at_stage I l.op law_I l.stage f (core.sessions.stand session l is).more

  -- ---- to the next stage

  module _ (before : IsBeforeTarget l.stage) (next : AllDoing) (then : IsThen doing session (Operating l.command l.op (next_stage l.stage)) next) where
    next_stands : (after : Image) → Sound after → meaning after ≡ meaning I → OthersStand Needs doing session after → AtStage l.op (next_stage l.stage) after → AllStand Needs next after
    next_stands after sound means others at = all_stand doing session l is (next_stage l.stage) next then after
        (own_stands doing I core.sessions.sound core.sessions.stand core.sessions.one session l is (next_stage l.stage) (next_forward l.stage before) after sound means at (logged_at l.op (next_stage l.stage) after (next_forward l.stage before) at)) others

    pub core_advances : (hs : List Happening) → IsOne (StepsAt l.op) I hs → AtStage l.op (next_stage l.stage) (after_all I hs) → Core Needs since start mode (happened_on past hs) connections rest next
    core_advances hs (Nothing e) at = subst (λ hs. AtStage l.op (next_stage l.stage) (after_all I hs) → Core Needs since start mode (happened_on past hs) connections rest next) (sym e)
        (λ at. core_same since start mode past connections rest doing next core (same_operation doing session l is (next_stage l.stage) next then)
        (next_stands I core.sessions.sound refl (λ t m other at. core.sessions.stand t m at) at)) at
    core_advances hs (Tried place change took s e) at = subst (λ hs. AtStage l.op (next_stage l.stage) (after_all I hs) → Core Needs since start mode (happened_on past hs) connections rest next) (sym e)
        (λ at.
        let means = means_after doing I core.sessions.sound core.sessions.stand core.sessions.one session l is place change took s in
        core_happens Needs since start mode past connections rest doing core (Committed place change took) next (same_operation doing session l is (next_stage l.stage) next then)
        (quiet_try start past core.sessions.sound place change took (advance_calm l.op I place change core.sessions.sound (Stepping s))) means
        (next_stands (after_one I (Committed place change took)) (sound_after doing I core.sessions.sound core.sessions.stand core.sessions.one session l is place change took (Stepping s)) means
        (others_after doing I core.sessions.sound core.sessions.stand core.sessions.one session l is place change took (Stepping s)) at)) at

  -- ---- to the entry that names it

  module _ (e : Entry) (of_session : e.session ≡ session) (d : Doing) (next : AllDoing) (then : IsThen doing session d next) (leaves : Leaves e d) (of : IsOf (record { command = l.command; operation = l.op.number }) e)
      (promise : Promises (all_going next) e [] e.reply) (some : e.reply ≡ Some (reply.Pending 0) → ⊥) (after : Connections) where
    here : live_of (doing e.session) ≡ Some l
    here = ap (λ t. live_of (doing t)) of_session ∙ is

    then_e : IsThen doing e.session d next
    then_e = subst (λ t. IsThen doing t d next) (sym of_session) then

    abbrev Ended : Text → List Happening → Type 0
    Ended left hs = Core Needs since start mode (Entered e ∷ happened_on past hs) after left next

    abbrev Said : List Happening → Type 0
    Said hs = Answers since start (happened_on past hs) e connections after

    pub core_ends : (r : Reply) → rest ≡ [] → e.reply ≡ Some r → (hs : List Happening) → IsOne (AdvanceStep l.op) I hs → Said hs → Ended (text_of mode e) hs
    core_ends r all answered hs (Nothing none) answers = subst (λ hs. Said hs → Ended (text_of mode e) hs) (sym none)
        (λ answers. answers_alone Needs since start mode past connections rest doing core e (record { command = l.command; operation = l.op.number }) (live_going (doing e.session) l here).0 of d next then_e leaves promise some after r all answered answers) answers
    core_ends r all answered hs (Tried place change took s one) answers = subst (λ hs. Said hs → Ended (text_of mode e) hs) (sym one)
        (λ answers. answers_with Needs since start mode past connections rest doing core e (record { command = l.command; operation = l.op.number }) (live_going (doing e.session) l here).0 of d next then_e leaves promise some after
        (Committed place change took) (quiet_try start past core.sessions.sound place change took (advance_calm l.op I place change core.sessions.sound s))
        (others_after doing I core.sessions.sound core.sessions.stand core.sessions.one e.session l here place change took s) answers r all answered) answers

    -- a step of a job, which is made: its entry has no reply
    pub core_ends_silent : e.reply ≡ None → (place : Place) (change : List Edit) (took : Bool) → AdvanceStep l.op I place change → Said (Committed place change took ∷ []) → Ended rest (Committed place change took ∷ [])
    core_ends_silent silent place change took s answers = steps_with Needs since start mode past connections rest doing core e (record { command = l.command; operation = l.op.number }) (live_going (doing e.session) l here).0 of d next then_e leaves promise some after
        (Committed place change took) (quiet_try start past core.sessions.sound place change took (advance_calm l.op I place change core.sessions.sound s))
        (others_after doing I core.sessions.sound core.sessions.stand core.sessions.one e.session l here place change took s) answers silent

-- ---- by contents alone

module _ (first : Image) (past : Past) (connections : Connections) (image : Image) (doing : AllDoing) (core : CoreAlone Needs first past connections image doing) (session : ℕ) (l : Live) (is : live_of (doing session) ≡ Some l) where
  pub alone_stage_now : IsForward l.stage → AtStage l.op l.stage image
  alone_stage_now f = at_stage image l.op (core.run.sound.logged.lawful l.op (core.stand session l is).logged) l.stage f (core.stand session l is).more

  module _ (before : IsBeforeTarget l.stage) (next : AllDoing) (then : IsThen doing session (Operating l.command l.op (next_stage l.stage)) next) where
    goes_to : (after : Image) → Sound after → meaning after ≡ meaning image → OthersStand Needs doing session after → AtStage l.op (next_stage l.stage) after → CoreAlone Needs first past connections after next
    goes_to after sound means others at = alone_core_goes_on Needs first past connections image doing core after next (same_operation doing session l is (next_stage l.stage) next then) sound means
        (all_stand doing session l is (next_stage l.stage) next then after
        (own_stands doing image core.run.sound core.stand core.one session l is (next_stage l.stage) (next_forward l.stage before) after sound means at (logged_at l.op (next_stage l.stage) after (next_forward l.stage before) at)) others)

    pub alone_core_advances : (hs : List Happening) → IsOne (StepsAt l.op) image hs → AtStage l.op (next_stage l.stage) (after_all image hs) → CoreAlone Needs first past connections (after_all image hs) next
    alone_core_advances hs (Nothing e) at = subst (λ hs. AtStage l.op (next_stage l.stage) (after_all image hs) → CoreAlone Needs first past connections (after_all image hs) next) (sym e)
        (λ at. goes_to image core.run.sound refl (λ t m other at. core.stand t m at) at) at
    alone_core_advances hs (Tried place change took s e) at = subst (λ hs. AtStage l.op (next_stage l.stage) (after_all image hs) → CoreAlone Needs first past connections (after_all image hs) next) (sym e)
        (λ at. goes_to (after_one image (Committed place change took)) (sound_after doing image core.run.sound core.stand core.one session l is place change took (Stepping s))
        (means_after doing image core.run.sound core.stand core.one session l is place change took s) (others_after doing image core.run.sound core.stand core.one session l is place change took (Stepping s)) at) at

  module _ (e : Entry) (of_session : e.session ≡ session) (d : Doing) (next : AllDoing) (then : IsThen doing session d next) (leaves : Leaves e d) (of : IsOf (record { command = l.command; operation = l.op.number }) e)
      (promise : Promises (all_going next) e [] e.reply) (some : e.reply ≡ Some (reply.Pending 0) → ⊥) (after : Connections) where
    also : live_of (doing e.session) ≡ Some l
    also = ap (λ t. live_of (doing t)) of_session ∙ is

    then_also : IsThen doing e.session d next
    then_also = subst (λ t. IsThen doing t d next) (sym of_session) then

    enters_at : (new : Image) → Sound new → OthersStand Needs doing e.session new → Follows past (with_connections (meaning image) connections) e (with_connections (meaning new) after) e.reply
        → CoreAlone Needs first (record { entry = e; before = meaning image } ∷ past) after new next
    enters_at new sound others follows = alone_core_enters Needs first past connections image doing core e (record { command = l.command; operation = l.op.number }) (live_going (doing e.session) l also).0 of d next then_also leaves promise some new after sound others follows

    pub alone_core_ends : (hs : List Happening) → IsOne (AdvanceStep l.op) image hs → Follows past (with_connections (meaning image) connections) e (with_connections (meaning (after_all image hs)) after) e.reply
        → CoreAlone Needs first (record { entry = e; before = meaning image } ∷ past) after (after_all image hs) next
    alone_core_ends hs (Nothing none) follows = subst (λ hs. Follows past (with_connections (meaning image) connections) e (with_connections (meaning (after_all image hs)) after) e.reply → CoreAlone Needs first (record { entry = e; before = meaning image } ∷ past) after (after_all image hs) next) (sym none)
        (enters_at image core.run.sound (λ t m other at. core.stand t m at)) follows
    alone_core_ends hs (Tried place change took s one) follows = subst (λ hs. Follows past (with_connections (meaning image) connections) e (with_connections (meaning (after_all image hs)) after) e.reply → CoreAlone Needs first (record { entry = e; before = meaning image } ∷ past) after (after_all image hs) next) (sym one)
        (enters_at (after_one image (Committed place change took)) (sound_after doing image core.run.sound core.stand core.one e.session l also place change took s) (others_after doing image core.run.sound core.stand core.one e.session l also place change took s)) follows

-- ---- what a call says

-- what leads on from a stage before its last one is at most one transaction of the operation
pub advanced_one : (op : Op) (name : StageName) → IsForward name → (ok memory : Type 0) (image : Image) (hs : List Happening) → HasAdvanced op name ok memory image hs → IsOne (AdvanceStep op) image hs
advanced_one op Logged f ok memory image hs a = one_as (StepFrom Logged op) (AdvanceStep op) (step_from op Logged) image hs (is_one (StepFrom Logged op) image hs a.course a.few)
advanced_one op SourceDone f ok memory image hs a = one_as (StepFrom SourceDone op) (AdvanceStep op) (step_from op SourceDone) image hs (is_one (StepFrom SourceDone op) image hs a.course a.few)
advanced_one op TargetDone f ok memory image hs a = one_as (StepFrom TargetDone op) (AdvanceStep op) (step_from op TargetDone) image hs (is_one (StepFrom TargetDone op) image hs a.course a.few)
advanced_one op stage.Committed f ok memory image hs a = absurd f
advanced_one op stage.Settled f ok memory image hs a = absurd f

-- of the local step
pub stepped_one : (op : Op) (name : StageName) → IsBeforeTarget name → (ok memory : Type 0) (image : Image) (hs : List Happening) → HasAdvanced op name ok memory image hs → IsOne (StepsAt op) image hs
stepped_one op Logged b ok memory image hs a = is_one (StepsAt op) image hs a.course a.few
stepped_one op SourceDone b ok memory image hs a = is_one (StepsAt op) image hs a.course a.few
stepped_one op TargetDone b ok memory image hs a = absurd b
stepped_one op stage.Committed b ok memory image hs a = absurd b
stepped_one op stage.Settled b ok memory image hs a = absurd b

-- ---- as calls tell it

module _ (since : ℕ) (start : Image) (mode : Mode) (past : Timeline) (connections : Connections) (rest : Text) (doing : AllDoing) (core : Core Needs since start mode past connections rest doing) where
  pub advances_on_trail : (session : ℕ) (l : Live) → live_of (doing session) ≡ Some l → IsBeforeTarget l.stage → (result : Result Stage StepFault) → IsOk result → (hs : List Happening) → Advances l.op l.stage (IsOk result) (FailsByMemory result) (image_of start past) hs
      → (next : AllDoing) → IsThen doing session (Operating l.command l.op (next_stage l.stage)) next → Core Needs since start mode (happened_on past hs) connections rest next
  advances_on_trail session l is before result ok hs advances next then =
      let a = advances core.sessions.sound (stage_now since start mode past connections rest doing core session l is (before_forward l.stage before)) in
      core_advances since start mode past connections rest doing core session l is before next then hs (stepped_one l.op l.stage before (IsOk result) (FailsByMemory result) (image_of start past) hs a) (a.reached ok)

  pub stage_on_trail : (session : ℕ) (l : Live) → live_of (doing session) ≡ Some l → IsForward l.stage → AtStage l.op l.stage (image_of start past)
  stage_on_trail session l is f = stage_now since start mode past connections rest doing core session l is f

module _ (first : Image) (past : Past) (connections : Connections) (image : Image) (doing : AllDoing) (core : CoreAlone Needs first past connections image doing) where
  pub advances_alone : (session : ℕ) (l : Live) → live_of (doing session) ≡ Some l → IsBeforeTarget l.stage → (result : Result Stage StepFault) → IsOk result → (hs : List Happening) → Advances l.op l.stage (IsOk result) (FailsByMemory result) image hs
      → (next : AllDoing) → IsThen doing session (Operating l.command l.op (next_stage l.stage)) next → CoreAlone Needs first past connections (after_all image hs) next
  advances_alone session l is before result ok hs advances next then =
      let a = advances core.run.sound (alone_stage_now first past connections image doing core session l is (before_forward l.stage before)) in
      alone_core_advances first past connections image doing core session l is before next then hs (stepped_one l.op l.stage before (IsOk result) (FailsByMemory result) image hs a) (a.reached ok)

  pub stage_alone : (session : ℕ) (l : Live) → live_of (doing session) ≡ Some l → IsForward l.stage → AtStage l.op l.stage image
  stage_alone session l is f = alone_stage_now first past connections image doing core session l is f

  pub ends_alone : (e : Entry) (l : Live) → live_of (doing e.session) ≡ Some l → IsForward l.stage → (result : Result Stage StepFault) (hs : List Happening) → Advances l.op l.stage (IsOk result) (FailsByMemory result) image hs
      → (d : Doing) (next : AllDoing) → IsThen doing e.session d next → Leaves e d → IsOf (record { command = l.command; operation = l.op.number }) e → Promises (all_going next) e [] e.reply → (e.reply ≡ Some (reply.Pending 0) → ⊥) → (after : Connections)
      → Follows past (with_connections (meaning image) connections) e (with_connections (meaning (after_all image hs)) after) e.reply → CoreAlone Needs first (record { entry = e; before = meaning image } ∷ past) after (after_all image hs) next
  ends_alone e l is f result hs advances d next then leaves of promise some after follows =
      let a = advances core.run.sound (stage_alone e.session l is f) in
      alone_core_ends first past connections image doing core e.session l is e refl d next then leaves of promise some after hs (advanced_one l.op l.stage f (IsOk result) (FailsByMemory result) image hs a) follows

pub ends_on_trail : (since : ℕ) (start : Image) (mode : Mode) (past : Timeline) (connections : Connections) (doing : AllDoing) → Core Needs since start mode past connections [] doing → (e : Entry) (l : Live) → live_of (doing e.session) ≡ Some l → IsForward l.stage
    → (result : Result Stage StepFault) (hs : List Happening) → Advances l.op l.stage (IsOk result) (FailsByMemory result) (image_of start past) hs → (d : Doing) (next : AllDoing) → IsThen doing e.session d next → Leaves e d
    → IsOf (record { command = l.command; operation = l.op.number }) e → (r : Reply) → e.reply ≡ Some r → Promises (all_going next) e [] e.reply → (e.reply ≡ Some (reply.Pending 0) → ⊥) → (after : Connections) → Answers since start (happened_on past hs) e connections after
    → Core Needs since start mode (Entered e ∷ happened_on past hs) after (text_of mode e) next
ends_on_trail since start mode past connections doing core e l is f result hs advances d next then leaves of r answered promise some after answers =
    let a = advances core.sessions.sound (stage_on_trail since start mode past connections [] doing core e.session l is f) in
    core_ends since start mode past connections [] doing core e.session l is e refl d next then leaves of promise some after r refl answered hs (advanced_one l.op l.stage f (IsOk result) (FailsByMemory result) (image_of start past) hs a) answers

-- ---- what the commit leaves

module _ (image : Image) (sound : Sound image) (op : Op) (at : AtStage op TargetDone image) where
  none_is : (x : Option Op) (o : Op) → x ≡ None → x ≡ Some o → ⊥
  none_is x o a b = cc

  -- it leaves other stores
  not_same : committed_image image op ≡ image → ⊥
  not_same e = none_is (map.get (global (committed_image image op)).log op.number) op (get-remove_same nat_cmp_total (global image).log op.number) (ap (λ i. map.get (global i).log op.number) e ∙ at.logged)

  made_one : (hs : List Happening) → IsOne (CommitsOp op) image hs → after_all image hs ≡ committed_image image op → hs ≡ Committed Global (commit_edits op) true ∷ []
  made_one hs (Nothing none) is = absurd (not_same (sym is ∙ ap (after_all image) none))
  made_one hs (Tried place change true s one) is = one ∙ (λ i. Committed (s.place_is i) (s.edits i) true ∷ [])
  made_one hs (Tried place change false s one) is = absurd (not_same (sym is ∙ ap (after_all image) one))

  module _ (result : Result Stage StepFault) (hs : List Happening) (advances : Advances op TargetDone (IsOk result) (FailsByMemory result) image hs) where
    advanced : HasAdvanced op TargetDone (IsOk result) (FailsByMemory result) image hs
    advanced = advances sound at

    one_commit : IsOne (CommitsOp op) image hs
    one_commit = is_one (CommitsOp op) image hs advanced.course advanced.few

    either : IsOne (CommitsOp op) image hs → (after_all image hs ≡ image) ⊎ (after_all image hs ≡ committed_image image op)
    either (Nothing none) = inl (ap (after_all image) none)
    either (Tried place change true s one) = inr (ap (after_all image) one ∙ s.is)
    either (Tried place change false s one) = inl (ap (after_all image) one)

pub commit_made : (image : Image) → Sound image → (op : Op) → AtStage op TargetDone image → (result : Result Stage StepFault) → IsOk result → (hs : List Happening) → Advances op TargetDone (IsOk result) (FailsByMemory result) image hs
    → (hs ≡ Committed Global (commit_edits op) true ∷ []) × (after_all image hs ≡ committed_image image op)
commit_made image sound op at result ok hs advances =
    let a = advanced image sound op at result hs advances in
    let is = a.committed refl ok in
    (made_one image sound op at hs (one_commit image sound op at result hs advances) is, is)

pub commit_failed : (image : Image) → Sound image → (op : Op) → AtStage op TargetDone image → (result : Result Stage StepFault) (hs : List Happening) → Advances op TargetDone (IsOk result) (FailsByMemory result) image hs
    → (after_all image hs ≡ image) ⊎ (after_all image hs ≡ committed_image image op)
commit_failed image sound op at result hs advances = either image sound op at result hs advances (one_commit image sound op at result hs advances)

pub commit_untried : (image : Image) → Sound image → (op : Op) → AtStage op TargetDone image → (result : Result Stage StepFault) → FailsByMemory result → (hs : List Happening) → Advances op TargetDone (IsOk result) (FailsByMemory result) image hs → hs ≡ []
commit_untried image sound op at result memory hs advances = (advanced image sound op at result hs advances).untried refl memory

pub step_leaves : (image : Image) → Sound image → (op : Op) (name : StageName) → IsBeforeTarget name → AtStage op name image → (result : Result Stage StepFault) (hs : List Happening) → Advances op name (IsOk result) (FailsByMemory result) image hs
    → meaning (after_all image hs) ≡ meaning image
step_leaves image sound op name before at result hs advances = by (stepped_one op name before (IsOk result) (FailsByMemory result) image hs (advances sound at))
  where
    by : IsOne (StepsAt op) image hs → meaning (after_all image hs) ≡ meaning image
    by (Nothing none) = ap (λ hs. meaning (after_all image hs)) none
    by (Tried place change true s one) = ap (λ hs. meaning (after_all image hs)) one ∙ step_means op image place change s
    by (Tried place change false s one) = ap (λ hs. meaning (after_all image hs)) one

-- a step of a job is made by its commit, and its entry has no reply
pub job_step_on_trail : (since : ℕ) (start : Image) (mode : Mode) (past : Timeline) (connections : Connections) (rest : Text) (doing : AllDoing) → Core Needs since start mode past connections rest doing → (e : Entry) (l : Live) → live_of (doing e.session) ≡ Some l
    → l.stage ≡ TargetDone → (result : Result Stage StepFault) → IsOk result → (hs : List Happening) → Advances l.op l.stage (IsOk result) (FailsByMemory result) (image_of start past) hs → (d : Doing) (next : AllDoing) → IsThen doing e.session d next → Leaves e d
    → IsOf (record { command = l.command; operation = l.op.number }) e → e.reply ≡ None → Promises (all_going next) e [] e.reply → (e.reply ≡ Some (reply.Pending 0) → ⊥) → (after : Connections) → Answers since start (happened_on past hs) e connections after
    → Core Needs since start mode (Entered e ∷ happened_on past hs) after rest next
job_step_on_trail since start mode past connections rest doing core e l is target result ok hs advances d next then leaves of silent promise some after answers =
    by (one_commit (image_of start past) core.sessions.sound l.op at result hs at_target)
  where
    at : AtStage l.op TargetDone (image_of start past)
    at = subst (λ name. AtStage l.op name (image_of start past)) target (stage_on_trail since start mode past connections rest doing core e.session l is (subst IsForward (sym target) tt))

    at_target : Advances l.op TargetDone (IsOk result) (FailsByMemory result) (image_of start past) hs
    at_target = subst (λ name. Advances l.op name (IsOk result) (FailsByMemory result) (image_of start past) hs) target advances

    by : IsOne (CommitsOp l.op) (image_of start past) hs → Core Needs since start mode (Entered e ∷ happened_on past hs) after rest next
    by (Nothing none) = absurd (not_same (image_of start past) core.sessions.sound l.op at (sym (commit_made (image_of start past) core.sessions.sound l.op at result ok hs at_target).1 ∙ ap (after_all (image_of start past)) none))
    by (Tried place change took s one) = subst (λ hs. Answers since start (happened_on past hs) e connections after → Core Needs since start mode (Entered e ∷ happened_on past hs) after rest next) (sym one)
        (λ answers. core_ends_silent since start mode past connections rest doing core e.session l is e refl d next then leaves of promise some after silent place change took (Committing s) answers) answers
