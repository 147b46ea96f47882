-- Where nobody is connected a live operation of whatever command is committed by the plain step, and a fault names it.
use Rattle.std.proofs.Common.{◌≡◌, ◌+◌, ⊎_elim, ℕ, refl, sym, subst, Some, Option, List, [], ◌∷◌, length}
use Rattle.std.specs.Prelude.{Result, IsOk}
use Rattle.cell_world.specs.Images.{Image, Happening, after_all, end_of_trail}
use Rattle.cell_world.specs.Meaning.{meaning}
use Rattle.cell_world.specs.Outside.{Outside, IfTrail}
use Rattle.cell_world.specs.Plain.{Connections, nobody, with_connections}
use Rattle.cell_world.specs.Sound.{Sound}
use Rattle.cell_world.specs.declared.operations.Op.{Op}
use Rattle.global_tables.specs.declared.faults.StepFault.{StepFault}
use Rattle.plain_model.specs.declared.history.Entry.{Entry}
use Rattle.plain_model.specs.declared.replies.Reply.TheVariants as reply
use Rattle.plain_model.specs.Refusing.{given_token, mapping_of}
use Rattle.plain_model.specs.Running.{text_of}
use Rattle.plain_model.specs.Steps.{ended_under}
use Rattle.plain_model.specs.Timelines.{Entered, Past, Timeline, happened_of, image_of}
use Rattle.plain_model.specs.Written.{Mode}
use Rattle.op_steps.specs.Advancing.{Advances}
use Rattle.op_steps.specs.Passing.{FailsByMemory, Passes}
use Rattle.op_steps.specs.declared.stages.Stage.{Stage}
use Rattle.session_laws.specs.Contract.{Seen}
use Rattle.session_laws.specs.Core.{Core, CoreAlone, Stands}
use Rattle.session_laws.specs.Doing.{AllDoing, IsThen, Live, Resting, live_of}
use Rattle.session_laws.specs.Needs.{Needs}
use Rattle.operation_laws.specs.Courses.{happened_on}
use Rattle.operation_laws.specs.Entries.{FollowsAtCommit, IsOneOperation, Names}
use Rattle.operation_laws.specs.Forward.{IsForward}
use Rattle.operation_laws.specs.Leading.{Leads, with_entry}
use Rattle.operation_laws.specs.Opening.{Opens}
use Rattle.operation_laws.proofs.AtCommit.{operation_at_commit}
use Rattle.operation_laws.proofs.Done.{faults_alone, faults_on_trail}
use Rattle.operation_laws.proofs.FaultedOffline.{offline_faults, offline_faults_alone}
use Rattle.operation_laws.proofs.Lifts.{lifts_entry, lifts_entry_to}
use Rattle.manager_core.specs.Steady.{seen_with}
use Rattle.manager_core.proofs.NobodyEnds.{IsOffline, ends_nobody, nobody_ends, none_or_offline}

-- ---- the commit

-- The plain step of a command of one operation leads to its commit, and nobody is connected.
pub follows_at_commit : (session : ℕ) (l : Live) (image : Image) → Sound image → Stands Needs session l image → IsOneOperation l.command → Opens (given_token l.command) l.op → FollowsAtCommit session l.command image l.op nobody nobody
follows_at_commit session l image sound stands one opens = subst (FollowsAtCommit session l.command image l.op nobody) (ends_nobody (meaning image) l.command)
    (operation_at_commit session l image sound stands one opens nobody)

-- ---- a fault

-- On the trail the entry `fault` names the operation, whatever of its transaction was made.
module _ (since : ℕ) (start : Image) (mode : Mode) (past : Timeline) (doing : AllDoing) (core : Core Needs since start mode past nobody [] doing) (e : Entry) (l : Live) (is : live_of (doing e.session) ≡ Some l) (forward : IsForward l.stage)
    (result : Result Stage StepFault) (hs : List Happening) (advances : Advances l.op l.stage (IsOk result) (FailsByMemory result) (image_of start past) hs) (names : Names e l.command l.op.number reply.Fault)
    (moment : e.moment ≡ since + length (happened_of (happened_on past hs))) (f : FollowsAtCommit e.session l.command (image_of start past) l.op nobody nobody) (left : Option Op) (next : AllDoing) (then : IsThen doing e.session (Resting left) next) where
  abbrev Connected : Connections → Type 0
  Connected after = Core Needs since start mode (Entered e ∷ happened_on past hs) after (text_of mode e) next

  offline_named : IsOffline l.command → Connected nobody
  offline_named o =
      let ended = nobody_ends (mapping_of (with_connections (meaning (image_of start past)) nobody) o.name o.key) in
      subst Connected ended
      (offline_faults since start mode past nobody doing core e o.name o.key o.token l is o.is forward result hs advances (subst (λ c. Names e c l.op.number reply.Fault) o.is names) moment
      (subst (λ c. FollowsAtCommit e.session c (image_of start past) l.op nobody (ended_under (mapping_of (with_connections (meaning (image_of start past)) nobody) o.name o.key) nobody)) o.is
      (subst (FollowsAtCommit e.session l.command (image_of start past) l.op nobody) (sym ended) f)) left next then)

  pub fault_named : IsOneOperation l.command → Connected nobody
  fault_named one = ⊎_elim
      (λ none. faults_on_trail since start mode past nobody doing core e l is forward none result hs advances names moment f left next then)
      offline_named (none_or_offline l.command one)

-- So it is by contents alone.
module _ (first : Image) (past : Past) (image : Image) (doing : AllDoing) (core : CoreAlone Needs first past nobody image doing) (e : Entry) (l : Live) (is : live_of (doing e.session) ≡ Some l) (forward : IsForward l.stage)
    (result : Result Stage StepFault) (hs : List Happening) (advances : Advances l.op l.stage (IsOk result) (FailsByMemory result) image hs) (names : Names e l.command l.op.number reply.Fault)
    (f : FollowsAtCommit e.session l.command image l.op nobody nobody) (left : Option Op) (next : AllDoing) (then : IsThen doing e.session (Resting left) next) where
  abbrev ConnectedTo : Connections → Type 0
  ConnectedTo after = CoreAlone Needs first (record { entry = e; before = meaning image } ∷ past) after (after_all image hs) next

  offline_named_alone : IsOffline l.command → ConnectedTo nobody
  offline_named_alone o =
      let ended = nobody_ends (mapping_of (with_connections (meaning image) nobody) o.name o.key) in
      subst ConnectedTo ended
      (offline_faults_alone first past nobody image doing core e o.name o.key o.token l is o.is forward result hs advances (subst (λ c. Names e c l.op.number reply.Fault) o.is names)
      (subst (λ c. FollowsAtCommit e.session c image l.op nobody (ended_under (mapping_of (with_connections (meaning image) nobody) o.name o.key) nobody)) o.is
      (subst (FollowsAtCommit e.session l.command image l.op nobody) (sym ended) f)) left next then)

  pub fault_named_alone : IsOneOperation l.command → ConnectedTo nobody
  fault_named_alone one = ⊎_elim
      (λ none. faults_alone first past nobody image doing core e l is forward none result hs advances names f left next then)
      offline_named_alone (none_or_offline l.command one)

-- And so a core with nobody connected goes on over what is told.
module _ (mode : Mode) (old new : Outside) (history : List Entry) (before : AllDoing) (e : Entry) (now : IfTrail new.told (λ trail. e.moment ≡ end_of_trail trail)) (left : Option Op) (next : AllDoing) (then : IsThen before e.session (Resting left) next)
    (l : Live) (is : live_of (before e.session) ≡ Some l) (result : Result Stage StepFault) where
  abbrev seen : Seen
  seen = seen_with history before

  -- the transaction, and what the plain step makes of the command at the commit
  abbrev On : Image → List Happening → Type 0
  On image hs = Advances l.op l.stage (IsOk result) (FailsByMemory result) image hs × (Sound image → Stands Needs e.session l image → FollowsAtCommit e.session l.command image l.op nobody nobody)

  pub named_leads : IsForward l.stage → IsOneOperation l.command → Names e l.command l.op.number reply.Fault → Passes On old new → Leads mode old.told new.told seen (with_entry seen e next) (text_of mode e)
  named_leads forward one names passes = record {
    keeps = lifts_entry mode On old new passes seen (with_entry seen e next) e refl now
        (λ t0 start past p moment core. fault_named t0 start mode past before core e l is forward result passes.happened p.0 names moment
        (p.1 core.sessions.sound (core.sessions.stand e.session l is)) left next then one);
    keeps_to = lifts_entry_to mode On old new passes seen (with_entry seen e next) e refl
        (λ first past image p core. (
          record { entry = e; before = meaning image } ∷ past,
          refl,
          fault_named_alone first past image before core e l is forward result passes.happened p.0 names (p.1 core.run.sound (core.stand e.session l is)) left next then one,
        ));
  }
