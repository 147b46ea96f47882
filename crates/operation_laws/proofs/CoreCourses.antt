-- A core goes on over a course of transactions that leave what the stores stand for.
use Rattle.std.proofs.Common.{◌≡◌, ◌≢◌, ℕ, Bool, true, false, refl, sym, ap, ◌∙◌, subst, Some, List, [], ◌∷◌}
use Rattle.cell_world.specs.Texts.{Text}
use Rattle.cell_world.specs.Images.{Image, Place, Happening, Committed, Wrote, Reopened, after_all}
use Rattle.cell_world.specs.Plain.{Connections}
use Rattle.cell_world.specs.Meaning.{meaning}
use Rattle.cell_world.specs.Sound.{Sound}
use Rattle.cell_world.specs.declared.operations.Op.{Op}
use Rattle.cell_world.specs.declared.operations.Reach.{Reach}
use Rattle.cell_world.specs.declared.changes.Edit.{Edit}
use Rattle.plain_model.specs.Timelines.{Timeline, Past, Happened, image_of}
use Rattle.plain_model.specs.OnTrail.{is_open}
use Rattle.plain_model.specs.Written.{Mode}
use Rattle.plain_model.specs.declared.commands.Command.{Command}
use Rattle.plain_model.specs.JobSteps.{asked_number}
use Rattle.session_laws.specs.Doing.{AllDoing, Live, live_of, command_of, all_going}
use Rattle.session_laws.specs.Core.{IsTriedFor, IsOpen, AllStand, Sessions, Core, CoreAlone, SameGoing}
use Rattle.session_laws.specs.Needs.{Needs}
use Rattle.session_laws.proofs.AloneCore.{alone_core_goes_on}
use Rattle.session_laws.proofs.CoreLaws.{core_happens}
use Rattle.session_laws.proofs.LookLaws.{looks_same}
use Rattle.session_laws.proofs.OpenLaws.{tried_wider}
use Rattle.session_laws.proofs.SessionLaws.{command_going, command_in}
use Rattle.op_steps.specs.Passing.{IsCourse, changed_at}
use Rattle.op_steps.specs.Undoing.{UndoStep, UndoStepOf, AnyUndoStep}
use Rattle.op_steps.specs.Clearing.{IsAbandonedInWay}
use Rattle.op_steps.specs.Advancing.{SettlesAt, Settling}
use Rattle.op_steps.proofs.Courses.{course_keeps}
use Rattle.operation_laws.specs.Courses.{happened_on}
use Rattle.operation_laws.specs.LiveNumbers.{AreTheLive}
use Rattle.operation_laws.proofs.CalmSteps.{IsCalm, quiet_try, undo_calm, undo_means, advance_calm, settle_means}
use Rattle.operation_laws.proofs.Standing.{stands_undo, stands_advance, out_differs}

pub same_doing : (doing : AllDoing) → SameGoing doing doing
same_doing doing = record { going = λ t. refl; live = λ t l is. (l, is, refl, refl) }

-- ---- one transaction

-- Made, it leaves the meaning, and each live operation stands on.
pub record IsCalmFor (doing : AllDoing) (image : Image) (place : Place) (change : List Edit) : Type 0 where
  pub calm : IsCalm image place change
  pub means : meaning (changed_at image place change) ≡ meaning image
  pub stand : AllStand Needs doing (changed_at image place change)

-- so is each such step, where the stores are sound and each live operation stands
abbrev pub AreCalmFor : AllDoing → (Image → Place → List Edit → Type 0) → Type 0
AreCalmFor doing Step = (image : Image) → Sound image → AllStand Needs doing image → (place : Place) (change : List Edit) → Step image place change → IsCalmFor doing image place change

module _ (since : ℕ) (start : Image) (mode : Mode) (connections : Connections) (rest : Text) (doing : AllDoing) where
  -- the core with this past
  abbrev Now : Timeline → Type 0
  Now past = Core Needs since start mode past connections rest doing

  pub core_tries : (past : Timeline) → Now past → (place : Place) (change : List Edit) (took : Bool) → IsCalmFor doing (image_of start past) place change → Now (Happened (Committed place change took) ∷ past)
  core_tries past core place change true calm =
      core_happens Needs since start mode past connections rest doing core (Committed place change true) doing (same_doing doing) (quiet_try start past core.sessions.sound place change true calm.calm) calm.means calm.stand
  core_tries past core place change false calm =
      core_happens Needs since start mode past connections rest doing core (Committed place change false) doing (same_doing doing) (quiet_try start past core.sessions.sound place change false calm.calm) refl core.sessions.stand

  -- ---- a course

  module _ (Step : Image → Place → List Edit → Type 0) (calm : AreCalmFor doing Step) where
    pub core_course : (past : Timeline) → Now past → (hs : List Happening) → IsCourse Step (image_of start past) hs → Now (happened_on past hs)
    core_course past core [] c = core
    core_course past core (Committed place change took ∷ hs) c =
        core_course (Happened (Committed place change took) ∷ past) (core_tries past core place change took (calm (image_of start past) core.sessions.sound core.sessions.stand place change c.0)) hs c.1
    core_course past core (Wrote bytes ∷ hs) c = absurd c.0
    core_course past core (Reopened place cells ∷ hs) c = absurd c.0

-- ---- by contents alone

-- sound, with the meaning of a first image, and each live operation stands
pub record GoesSo (doing : AllDoing) (first now : Image) : Type 0 where
  pub sound : Sound now
  pub means : meaning now ≡ meaning first
  pub stand : AllStand Needs doing now

pub course_goes : (doing : AllDoing) (Step : Image → Place → List Edit → Type 0) → AreCalmFor doing Step → (image : Image) → Sound image → AllStand Needs doing image → (hs : List Happening) → IsCourse Step image hs → GoesSo doing image (after_all image hs)
course_goes doing Step calm image sound stand hs c = course_keeps Step (GoesSo doing image)
    (λ i place change g s. let q = calm i g.sound g.stand place change s in record { sound = q.calm.sound; means = q.means ∙ g.means; stand = q.stand })
    image hs (record { sound = sound; means = refl; stand = stand }) c

pub alone_course : (first : Image) (past : Past) (connections : Connections) (image : Image) (doing : AllDoing) (Step : Image → Place → List Edit → Type 0) → AreCalmFor doing Step → CoreAlone Needs first past connections image doing
    → (hs : List Happening) → IsCourse Step image hs → CoreAlone Needs first past connections (after_all image hs) doing
alone_course first past connections image doing Step calm core hs c =
    let g = course_goes doing Step calm image core.run.sound core.stand hs c in
    alone_core_goes_on Needs first past connections image doing core (after_all image hs) doing (same_doing doing) g.sound g.means g.stand

-- ---- which courses these are

-- the undo of an operation that no session has live
undo_calm_for : (doing : AllDoing) (op : Op) → ((t : ℕ) (l : Live) → live_of (doing t) ≡ Some l → l.op.number ≢ op.number) → AreCalmFor doing (UndoStep op)
undo_calm_for doing op none image sound stand place change s = record {
  calm = undo_calm op image place change sound s;
  means = undo_means op image place change s;
  stand = λ t l is. stands_undo t l image sound (stand t l is) op (none t l is) place change s;
}

-- of abandoned operations
pub abandoned_calm : (doing : AllDoing) (live : List ℕ) (reach : Reach) → AreTheLive live doing → AreCalmFor doing (UndoStepOf (IsAbandonedInWay live reach))
abandoned_calm doing live reach are image sound stand place change s = undo_calm_for doing s.0 differ image sound stand place change s.2
  where
    no_truth : (b : Bool) → b ≡ true → b ≡ false → ⊥
    no_truth b t f = cc

    differ : (t : ℕ) (l : Live) → live_of (doing t) ≡ Some l → l.op.number ≢ s.0.number
    differ t l is e = no_truth (Rattle.op_steps.specs.Live.is_live live l.op.number) (are.listed t l is) (ap (Rattle.op_steps.specs.Live.is_live live) e ∙ s.1.abandoned)

-- of any operation, where no session has one live
pub recovery_calm : (doing : AllDoing) → ((t : ℕ) (l : Live) → live_of (doing t) ≡ Some l → ⊥) → AreCalmFor doing AnyUndoStep
recovery_calm doing none image sound stand place change s = undo_calm_for doing s.0 (λ t l is e. none t l is) image sound stand place change s.2

-- the settling of an operation that is out of the log
pub settling_calm : (doing : AllDoing) (op : Op) → AreCalmFor doing (SettlesAt op)
settling_calm doing op image sound stand place change s = record {
  calm = advance_calm op image place change sound (Settling s);
  means = settle_means op image place change s;
  stand = λ t l is. stands_advance t l image sound (stand t l is) op (out_differs t l image sound (stand t l is) op.number s.out) place change (Settling s);
}

-- ---- stages alone

-- an operation stays open under another stage
open_as : (start : Image) (past : Timeline) (t : ℕ) (m l : Live) → m.op ≡ l.op → m.command ≡ l.command → IsOpen start past t m → IsOpen start past t l
open_as start past t m l op command o = record {
  unnamed = subst (λ (x : Op). is_open x.number past ≡ true) op o.unnamed;
  tried = tried_wider start t (λ (image : Image) (x : Op). (x ≡ m.op) × IsTriedFor (asked_number m.command) image x) (λ (image : Image) (x : Op). (x ≡ l.op) × IsTriedFor (asked_number l.command) image x) past
      (λ image x h. (h.0 ∙ op, subst (λ (c : Command). IsTriedFor (asked_number c) image x) command h.1)) o.tried;
}

command_stays : (doing next : AllDoing) → SameGoing doing next → (t : ℕ) → command_of (next t) ≡ command_of (doing t)
command_stays doing next same t = command_going (next t) ∙ ap command_in (same.going t) ∙ sym (command_going (doing t))

-- What sessions have to settle, and the stages of their operations, may become others while nothing happens.
pub sessions_same : (start : Image) (past : Timeline) (doing next : AllDoing) → Sessions Needs start past doing → SameGoing doing next → AllStand Needs next (image_of start past) → Sessions Needs start past next
sessions_same start past doing next core same stand = record {
  sound = core.sound;
  tries = core.tries;
  looks = looks_same (all_going doing) (all_going next) same.going past core.looks;
  stand = stand;
  are_open = λ t l is. let m = same.live t l is in open_as start past t m.0 l m.2 m.3 (core.are_open t m.0 m.1);
  one = λ s t l m sl tm e. let l' = same.live s l sl in let m' = same.live t m tm in
      core.one s t l'.0 m'.0 l'.1 m'.1 (ap (λ (o : Op). o.number) l'.2 ∙ e ∙ sym (ap (λ (o : Op). o.number) m'.2));
  one_job = λ s t a b number sa tb an bn. core.one_job s t a b number (sym (command_stays doing next same s) ∙ sa) (sym (command_stays doing next same t) ∙ tb) an bn;
}

pub core_same : (since : ℕ) (start : Image) (mode : Mode) (past : Timeline) (connections : Connections) (rest : Text) (doing next : AllDoing) → Core Needs since start mode past connections rest doing → SameGoing doing next → AllStand Needs next (image_of start past)
    → Core Needs since start mode past connections rest next
core_same since start mode past connections rest doing next core same stand = record { owing = core.owing; sessions = sessions_same start past doing next core.sessions same stand }

pub alone_core_same : (first : Image) (past : Past) (connections : Connections) (image : Image) (doing next : AllDoing) → CoreAlone Needs first past connections image doing → SameGoing doing next → AllStand Needs next image → CoreAlone Needs first past connections image next
alone_core_same first past connections image doing next core same stand = alone_core_goes_on Needs first past connections image doing core image next same core.run.sound refl stand

-- ---- as calls tell it

pub undo_on_trail : (since : ℕ) (start : Image) (mode : Mode) (past : Timeline) (connections : Connections) (rest : Text) (doing : AllDoing) → Core Needs since start mode past connections rest doing → (live : List ℕ) → AreTheLive live doing → (reach : Reach) (hs : List Happening)
    → IsCourse (UndoStepOf (IsAbandonedInWay live reach)) (image_of start past) hs → Core Needs since start mode (happened_on past hs) connections rest doing
undo_on_trail since start mode past connections rest doing core live are reach hs c = core_course since start mode connections rest doing (UndoStepOf (IsAbandonedInWay live reach)) (abandoned_calm doing live reach are) past core hs c

pub undo_alone : (first : Image) (past : Past) (connections : Connections) (image : Image) (doing : AllDoing) → CoreAlone Needs first past connections image doing → (live : List ℕ) → AreTheLive live doing → (reach : Reach) (hs : List Happening)
    → IsCourse (UndoStepOf (IsAbandonedInWay live reach)) image hs → CoreAlone Needs first past connections (after_all image hs) doing
undo_alone first past connections image doing core live are reach hs c = alone_course first past connections image doing (UndoStepOf (IsAbandonedInWay live reach)) (abandoned_calm doing live reach are) core hs c

pub recovery_on_trail : (since : ℕ) (start : Image) (mode : Mode) (past : Timeline) (connections : Connections) (rest : Text) (doing : AllDoing) → Core Needs since start mode past connections rest doing → ((session : ℕ) (l : Live) → live_of (doing session) ≡ Some l → ⊥)
    → (hs : List Happening) → IsCourse AnyUndoStep (image_of start past) hs → Core Needs since start mode (happened_on past hs) connections rest doing
recovery_on_trail since start mode past connections rest doing core none hs c = core_course since start mode connections rest doing AnyUndoStep (recovery_calm doing none) past core hs c

pub recovery_alone : (first : Image) (past : Past) (connections : Connections) (image : Image) (doing : AllDoing) → CoreAlone Needs first past connections image doing → ((session : ℕ) (l : Live) → live_of (doing session) ≡ Some l → ⊥)
    → (hs : List Happening) → IsCourse AnyUndoStep image hs → CoreAlone Needs first past connections (after_all image hs) doing
recovery_alone first past connections image doing core none hs c = alone_course first past connections image doing AnyUndoStep (recovery_calm doing none) core hs c

pub settling_on_trail : (since : ℕ) (start : Image) (mode : Mode) (past : Timeline) (connections : Connections) (rest : Text) (doing : AllDoing) → Core Needs since start mode past connections rest doing → (op : Op) (hs : List Happening) → IsCourse (SettlesAt op) (image_of start past) hs
    → (next : AllDoing) → SameGoing doing next → ((session : ℕ) (l : Live) → live_of (next session) ≡ Some l → live_of (doing session) ≡ Some l) → Core Needs since start mode (happened_on past hs) connections rest next
settling_on_trail since start mode past connections rest doing core op hs c next same stages =
    let now = core_course since start mode connections rest doing (SettlesAt op) (settling_calm doing op) past core hs c in
    core_same since start mode (happened_on past hs) connections rest doing next now same (λ t l is. now.sessions.stand t l (stages t l is))

pub settling_alone : (first : Image) (past : Past) (connections : Connections) (image : Image) (doing : AllDoing) → CoreAlone Needs first past connections image doing → (op : Op) (hs : List Happening) → IsCourse (SettlesAt op) image hs
    → (next : AllDoing) → SameGoing doing next → ((session : ℕ) (l : Live) → live_of (next session) ≡ Some l → live_of (doing session) ≡ Some l) → CoreAlone Needs first past connections (after_all image hs) next
settling_alone first past connections image doing core op hs c next same stages =
    let now = alone_course first past connections image doing (SettlesAt op) (settling_calm doing op) core hs c in
    alone_core_same first past connections (after_all image hs) doing next now same (λ t l is. now.stand t l (stages t l is))
