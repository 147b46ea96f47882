-- What the steps of a command of one operation make of a core, over what is told.
use Rattle.std.proofs.Common.{◌≡◌, ◌⊎◌, inl, inr, ⊎_elim, ℕ, ◌+◌, ◌<◌, ◌^◌, Bool, true, false, refl, sym, ap, ◌∙◌, subst, Some, None, Option, List, [], ◌∷◌, ◌++◌, length}
use Rattle.std.specs.Prelude.{Result, Ok, Err, IsOk}
use Rattle.cell_world.specs.Texts.{Text}
use Rattle.cell_world.specs.Images.{Image, Happening, after_all, global}
use Rattle.cell_world.specs.Marked.{committed_image}
use Rattle.cell_world.specs.Plain.{PlainState, Connections, with_connections}
use Rattle.cell_world.specs.Meaning.{meaning, next_operation}
use Rattle.cell_world.specs.Outside.{Outside, IfTrail}
use Rattle.cell_world.specs.Images.{end_of_trail}
use Rattle.cell_world.specs.Sound.{Sound}
use Rattle.cell_world.specs.declared.operations.Op.{Op}
use Rattle.cell_world.specs.declared.operations.Reach.{Reach}
use Rattle.cell_world.specs.declared.operations.StageName.{StageName}
use Rattle.cell_world.specs.declared.operations.StageName.TheVariants.{Logged, TargetDone}
use Rattle.global_tables.specs.declared.faults.StepFault.{StepFault}
use Rattle.plain_model.specs.declared.commands.Command.{Command}
use Rattle.plain_model.specs.declared.replies.Reply.{Reply}
use Rattle.plain_model.specs.declared.replies.Reply.TheVariants as reply
use Rattle.plain_model.specs.declared.history.Entry.{Entry}
use Rattle.plain_model.specs.JobSteps.{asked_number, asked_job}
use Rattle.plain_model.specs.Timelines.{Timeline, Past, Entered, image_of, facts_of, happened_of, past_of}
use Rattle.plain_model.specs.Follows.{Follows}
use Rattle.plain_model.specs.OnTrail.{OnTrail}
use Rattle.plain_model.specs.Legal.{AllGoing, IsPlanned, Promises, is_job_running}
use Rattle.plain_model.specs.GoingOn.{IsOf}
use Rattle.plain_model.specs.Written.{Mode}
use Rattle.plain_model.specs.Running.{text_of}
use Rattle.op_steps.specs.declared.stages.Stage.{Stage}
use Rattle.op_steps.specs.declared.beginning.Begun.TheVariants.{Going, Pending}
use Rattle.op_steps.specs.declared.beginning.BeginFault.TheVariants as begin
use Rattle.op_steps.specs.Passing.{IsCourse, Passes, FailsByMemory}
use Rattle.op_steps.specs.Undoing.{UndoStepOf}
use Rattle.op_steps.specs.Clearing as way
use Rattle.op_steps.specs.Clearing.{IsAbandonedInWay}
use Rattle.op_steps.specs.Beginning.{Begins}
use Rattle.op_steps.specs.Advancing.{Advances}
use Rattle.op_steps.specs.Stages.{next_stage}
use Rattle.session_laws.specs.Doing.{Doing, Resting, Working, Operating, AllDoing, Live, live_of, command_of, going_of, all_going, IsThen, doing_then}
use Rattle.session_laws.specs.Core.{Core, CoreAlone, Stands, Answers, Leaves}
use Rattle.session_laws.specs.Contract.{Seen}
use Rattle.session_laws.specs.Needs.{Needs}
use Rattle.session_laws.proofs.AloneCore.{alone_core_takes, alone_core_enters}
use Rattle.session_laws.proofs.CoreLaws.{core_takes, answers_alone}
use Rattle.session_laws.proofs.SessionLaws.{then_is, live_then}
use Rattle.operation_laws.specs.Courses.{happened_on}
use Rattle.operation_laws.specs.Forward.{IsForward, IsBeforeTarget}
use Rattle.operation_laws.specs.LiveNumbers.{AreTheLive}
use Rattle.operation_laws.specs.Planned.{IsOpFor}
use Rattle.operation_laws.proofs.Beginnings.{begins_on_trail, begins_alone}
use Rattle.operation_laws.specs.Entries.{EndsNone, IsOneOperation, Names, FollowsAtCommit}
use Rattle.operation_laws.proofs.OwnSteps.{advances_on_trail, advances_alone}
use Rattle.operation_laws.proofs.Done.{done_on_trail, done_alone, faults_on_trail, faults_alone, memory_on_trail, memory_alone, log_faults_on_trail, log_faults_alone}
use Rattle.operation_laws.specs.Leading.{Leads, with_doing, with_entry}
use Rattle.operation_laws.proofs.Lifts.{lifts, lifts_to, lifts_entry, lifts_entry_to}

none_some : {A : Type 0} (a : A) → None ≡ Some a → ⊥
none_some a is = cc

no_job_in : (s : PlainState) (c : Command) → asked_number c ≡ None → asked_job s c ≡ None
no_job_in s c none = cc

-- ---- a session takes up its command

module _ (before : Seen) (session : ℕ) (c : Command) (no_job : asked_number c ≡ None) (left : Option Op) (rests : before.doing session ≡ Resting left) where
  abbrev pub working : AllDoing
  working = doing_then before.doing session (Working c left)

  takes : IsThen before.doing session (Working c left) working
  takes = then_is before.doing session (Working c left)

  only : (t : ℕ) (d : Command) (number : ℕ) → (session ≡ t → ⊥) → command_of (before.doing t) ≡ Some d → asked_number c ≡ Some number → asked_number d ≡ Some number → ⊥
  only t d number apart at asked other = none_some number (sym no_job ∙ asked)

  taken : (t0 : ℕ) (start : Image) (mode : Mode) (past : Timeline) → Core Needs t0 start mode past before.connections [] before.doing → Core Needs t0 start mode past before.connections [] working
  taken t0 start mode past core = core_takes Needs t0 start mode past before.connections [] before.doing core session c left working (ap command_of rests) takes only

  taken_alone : (first : Image) (past : Past) (image : Image) → CoreAlone Needs first past before.connections image before.doing → CoreAlone Needs first past before.connections image working
  taken_alone first past image core = alone_core_takes Needs first past before.connections image before.doing core session c left working (ap command_of rests) takes only

  -- no operation becomes live or ends by that
  still_live : (t : ℕ) (l : Live) → live_of (before.doing t) ≡ Some l → live_of (working t) ≡ Some l
  still_live t l is = ap live_of (takes.others t apart) ∙ is
    where
      apart : session ≡ t → ⊥
      apart same = none_some l (sym (ap live_of rests) ∙ ap (λ i. live_of (before.doing i)) same ∙ is)

  was_live : (t : ℕ) (l : Live) → live_of (working t) ≡ Some l → live_of (before.doing t) ≡ Some l
  was_live t l is = ⊎_elim (λ this. absurd (none_some l this.1)) (λ other. other.1) (live_then before.doing session (Working c left) working takes t l is)

  same_live : (live : List ℕ) → AreTheLive live before.doing → AreTheLive live working
  same_live live are = record {
    listed = λ t l is. are.listed t l (was_live t l is);
    had = λ number is. let h = are.had number is in record { session = h.session; live = h.live; here = still_live h.session h.live h.here; named = h.named };
  }

  then_working : (d : Doing) (next : AllDoing) → IsThen before.doing session d next → IsThen working session d next
  then_working d next then = record { here = then.here; others = λ other apart. then.others other apart ∙ sym (takes.others other apart) }

  -- ---- its operation begins

  module _ (mode : Mode) (old new : Outside) (live : List ℕ) (are : AreTheLive live before.doing) (op : Op) where
    -- it may begin
    abbrev pub MayBegin : Image → Type 0
    MayBegin image = IsOpFor c image op × (next_operation image < 2 ^ 63)

    module _ (made : Op) (stage : Stage) (passes : Passes (λ image hs. Sound image → IsOpFor c image op × (next_operation image < 2 ^ 63) × Begins live op (Ok (Going made stage)) image hs) old new) (next : AllDoing) (then : IsThen before.doing session (Operating c made Logged) next) where
      pub begin_leads : Leads mode old.told new.told before (with_doing before next) []
      begin_leads = record {
        keeps = lifts mode (λ image hs. Sound image → IsOpFor c image op × (next_operation image < 2 ^ 63) × Begins live op (Ok (Going made stage)) image hs) old new passes before (with_doing before next) refl
            (λ t0 start past p core. let q = p core.sessions.sound in
            begins_on_trail t0 start mode past before.connections [] working (taken t0 start mode past core) session c left takes.here live (same_live live are) op q.0 q.1 made stage passes.happened q.2 next (then_working (Operating c made Logged) next then));
        keeps_to = lifts_to mode (λ image hs. Sound image → IsOpFor c image op × (next_operation image < 2 ^ 63) × Begins live op (Ok (Going made stage)) image hs) old new passes before (with_doing before next) refl
            (λ first past image p core. let q = p core.run.sound in
            begins_alone first past before.connections image working (taken_alone first past image core) session c left takes.here live (same_live live are) op q.0 q.1 made stage passes.happened q.2 next (then_working (Operating c made Logged) next then));
      }

-- ---- the operation goes on

module _ (mode : Mode) (old new : Outside) (before : Seen) (session : ℕ) (l : Live) (is : live_of (before.doing session) ≡ Some l) (result : Result Stage StepFault) where
  -- to its next stage
  module _ (early : IsBeforeTarget l.stage) (ok : IsOk result) (passes : Passes (Advances l.op l.stage (IsOk result) (FailsByMemory result)) old new) (next : AllDoing) (then : IsThen before.doing session (Operating l.command l.op (next_stage l.stage)) next) where
    pub advance_leads : Leads mode old.told new.told before (with_doing before next) []
    advance_leads = record {
      keeps = lifts mode (Advances l.op l.stage (IsOk result) (FailsByMemory result)) old new passes before (with_doing before next) refl
          (λ t0 start past p core. advances_on_trail t0 start mode past before.connections [] before.doing core session l is early result ok passes.happened p next then);
      keeps_to = lifts_to mode (Advances l.op l.stage (IsOk result) (FailsByMemory result)) old new passes before (with_doing before next) refl
          (λ first past image p core. advances_alone first past before.connections image before.doing core session l is early result ok passes.happened p next then);
    }

-- ---- an entry ends the command

module _ (mode : Mode) (old new : Outside) (before : Seen) (e : Entry) (now : IfTrail new.told (λ trail. e.moment ≡ end_of_trail trail)) (left : Option Op) (next : AllDoing) (then : IsThen before.doing e.session (Resting left) next) where
  abbrev pub ended : Seen
  ended = with_entry before e next

  -- by a transaction of its operation, made or not, or by none
  module _ (l : Live) (is : live_of (before.doing e.session) ≡ Some l) (result : Result Stage StepFault) where
    -- what the plain step makes of the command at the commit
    abbrev pub AtCommit : Image → Type 0
    AtCommit image = Sound image → Stands Needs e.session l image → FollowsAtCommit e.session l.command image l.op before.connections before.connections

    abbrev On : Image → List Happening → Type 0
    On image hs = Advances l.op l.stage (IsOk result) (FailsByMemory result) image hs × AtCommit image

    -- the commit, and its answer
    pub done_leads : l.stage ≡ TargetDone → IsOneOperation l.command → IsOk result → Names e l.command l.op.number reply.Ok → Passes On old new → Leads mode old.told new.told before ended (text_of mode e)
    done_leads target one ok names passes = record {
      keeps = lifts_entry mode On old new passes before ended e refl now
          (λ t0 start past p moment core. done_on_trail t0 start mode past before.connections before.doing core e l is target one result ok passes.happened p.0 names moment before.connections
          (p.1 core.sessions.sound (core.sessions.stand e.session l is)) left next then);
      keeps_to = lifts_entry_to mode On old new passes before ended e refl
          (λ first past image p core. (
            record { entry = e; before = meaning image } ∷ past,
            refl,
            done_alone first past before.connections image before.doing core e l is target result ok passes.happened p.0 names before.connections (p.1 core.run.sound (core.stand e.session l is)) left next then,
          ));
    }

    -- a fault
    pub fault_leads : IsForward l.stage → EndsNone l.command → Names e l.command l.op.number reply.Fault → Passes On old new → Leads mode old.told new.told before ended (text_of mode e)
    fault_leads forward none names passes = record {
      keeps = lifts_entry mode On old new passes before ended e refl now
          (λ t0 start past p moment core. faults_on_trail t0 start mode past before.connections before.doing core e l is forward none result passes.happened p.0 names moment
          (p.1 core.sessions.sound (core.sessions.stand e.session l is)) left next then);
      keeps_to = lifts_entry_to mode On old new passes before ended e refl
          (λ first past image p core. (
            record { entry = e; before = meaning image } ∷ past,
            refl,
            faults_alone first past before.connections image before.doing core e l is forward none result passes.happened p.0 names (p.1 core.run.sound (core.stand e.session l is)) left next then,
          ));
    }

    -- want of memory
    pub memory_leads : IsForward l.stage → IsOneOperation l.command → FailsByMemory result → Names e l.command l.op.number reply.Memory → Passes (Advances l.op l.stage (IsOk result) (FailsByMemory result)) old new → Leads mode old.told new.told before ended (text_of mode e)
    memory_leads forward one fails names passes = record {
      keeps = lifts_entry mode (Advances l.op l.stage (IsOk result) (FailsByMemory result)) old new passes before ended e refl now
          (λ t0 start past p moment core. memory_on_trail t0 start mode past before.connections before.doing core e l is forward one result fails passes.happened p names moment left next then);
      keeps_to = lifts_entry_to mode (Advances l.op l.stage (IsOk result) (FailsByMemory result)) old new passes before ended e refl
          (λ first past image p core. (
            record { entry = e; before = meaning image } ∷ past,
            refl,
            memory_alone first past before.connections image before.doing core e l is forward one result fails passes.happened p names left next then,
          ));
    }

  -- by no operation that is live
  module _ (no_job : asked_number e.command ≡ None) (rests : before.doing e.session ≡ Resting left) (live : List ℕ) (are : AreTheLive live before.doing) where
    abbrev works : AllDoing
    works = working before e.session e.command no_job left rests

    at_work : IsThen before.doing e.session (Working e.command left) works
    at_work = takes before e.session e.command no_job left rests

    live_works : AreTheLive live works
    live_works = same_live before e.session e.command no_job left rests live are

    then_rests : IsThen works e.session (Resting left) next
    then_rests = then_working before e.session e.command no_job left rests (Resting left) next then

    -- its log row was tried and refused
    module _ (op : Op) where
      abbrev Tried : Image → List Happening → Type 0
      Tried image hs = (Sound image → MayBegin before e.session e.command no_job left rests mode old new live are op image) × Begins live op (Err (begin.Tried e.operation)) image hs

      pub log_fault_leads : EndsNone e.command → e.reply ≡ Some reply.Fault → Passes Tried old new → Leads mode old.told new.told before ended (text_of mode e)
      log_fault_leads none is passes = record {
        keeps = lifts_entry mode Tried old new passes before ended e refl now
            (λ t0 start past p moment core. let may = p.0 core.sessions.sound in
            log_faults_on_trail t0 start mode past before.connections works (taken before e.session e.command no_job left rests t0 start mode past core) e left at_work.here none live live_works op may.0 may.1 passes.happened p.1 is moment next then_rests);
        keeps_to = lifts_entry_to mode Tried old new passes before ended e refl
            (λ first past image p core. let may = p.0 core.run.sound in (
              record { entry = e; before = meaning image } ∷ past,
              refl,
              log_faults_alone first past before.connections image works (taken_alone before e.session e.command no_job left rests first past image core) e left at_work.here none live live_works op may.0 may.1 passes.happened p.1 is next then_rests,
            ));
      }
