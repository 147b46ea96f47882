-- A command of one operation is answered: by its commit, by a fault, or for want of memory.
use Rattle.std.proofs.Common.{◌≡◌, ◌⊎◌, inl, inr, ⊎_elim, ℕ, ◌+◌, ◌<◌, ◌^◌, false, refl, sym, ap, ◌∙◌, subst, Some, None, Option, List, [], ◌∷◌, length}
use Rattle.std.specs.Prelude.{Result, IsOk, Err}
use Rattle.cell_world.specs.Images.{Image, Happening, after_all}
use Rattle.cell_world.specs.Plain.{PlainState, Connections, with_connections}
use Rattle.cell_world.specs.Marked.{committed_image}
use Rattle.cell_world.specs.Meaning.{meaning, next_operation}
use Rattle.cell_world.specs.Sound.{Sound}
use Rattle.cell_world.specs.declared.operations.Op.{Op}
use Rattle.cell_world.specs.declared.operations.StageName.{StageName}
use Rattle.cell_world.specs.declared.operations.StageName.TheVariants.{Logged, SourceDone, TargetDone, Committed, Settled}
use Rattle.global_tables.specs.declared.faults.StepFault.{StepFault}
use Rattle.plain_model.specs.declared.commands.Command.{Command}
use Rattle.plain_model.specs.declared.replies.Reply.{Reply}
use Rattle.plain_model.specs.declared.replies.Reply.TheVariants as reply
use Rattle.plain_model.specs.declared.history.Entry.{Entry}
use Rattle.plain_model.specs.Steps.{plain_step}
use Rattle.plain_model.specs.Follows.{Follows}
use Rattle.plain_model.specs.Timelines.{Timeline, Past, Entered, image_of, happened_of, past_of}
use Rattle.plain_model.specs.Legal.{AllGoing, Promises, is_job_running}
use Rattle.plain_model.specs.GoingOn.{IsOf}
use Rattle.plain_model.specs.Written.{Mode}
use Rattle.plain_model.specs.Running.{text_of}
use Rattle.session_laws.specs.Doing.{Resting, Working, AllDoing, Live, live_of, going_of, all_going, IsThen}
use Rattle.session_laws.specs.Core.{Core, CoreAlone, Leaves}
use Rattle.session_laws.specs.Needs.{Needs}
use Rattle.session_laws.proofs.AloneCore.{alone_core_enters}
use Rattle.session_laws.proofs.CoreLaws.{answers_alone}
use Rattle.op_steps.specs.declared.stages.Stage.{Stage}
use Rattle.op_steps.specs.declared.beginning.BeginFault.TheVariants as begin
use Rattle.op_steps.specs.Passing.{FailsByMemory}
use Rattle.op_steps.specs.Advancing.{AtStage, Advances}
use Rattle.op_steps.specs.Beginning.{Begins, numbered}
use Rattle.operation_laws.specs.Courses.{happened_on}
use Rattle.operation_laws.specs.Forward.{IsForward}
use Rattle.operation_laws.specs.LiveNumbers.{AreTheLive}
use Rattle.operation_laws.specs.Planned.{IsOpFor}
use Rattle.operation_laws.specs.Entries.{EndsNone, IsOneOperation, Names, FollowsAtCommit}
use Rattle.operation_laws.proofs.Beginnings.{fails_on_trail, fails_alone, tried_means}
use Rattle.operation_laws.proofs.Entries.{follows_ok, follows_fault, follows_memory, at_commit, answers_ok, answers_fault, answers_memory}
use Rattle.operation_laws.proofs.OwnSteps.{ends_on_trail, ends_alone, stage_on_trail, stage_alone, commit_made, commit_failed, commit_untried, step_leaves}

-- ---- the entry

-- a reply that says nothing of later entries
abbrev pub IsPlainReply : Reply → Type 0
IsPlainReply reply.Ok = Unit {0}
IsPlainReply reply.Fault = Unit {0}
IsPlainReply reply.Memory = Unit {0}
IsPlainReply other = ⊥

not_running : (r : Reply) → IsPlainReply r → is_job_running (Some r) ≡ false
not_running reply.Ok p = refl
not_running reply.Fault p = refl
not_running reply.Memory p = refl
not_running other p = absurd p

no_promise : (going : AllGoing) (e : Entry) (r : Reply) → IsPlainReply r → Promises going e [] (Some r)
no_promise going e reply.Ok p = tt
no_promise going e reply.Fault p = tt
no_promise going e reply.Memory p = tt
no_promise going e other p = absurd p

not_pending : (r : Reply) → IsPlainReply r → Some r ≡ Some (reply.Pending 0) → ⊥
not_pending reply.Ok p is = absurd cc
not_pending reply.Fault p is = absurd cc
not_pending reply.Memory p is = absurd cc
not_pending other p is = absurd p

module _ (e : Entry) (c : Command) (number : ℕ) (r : Reply) (names : Names e c number r) (plain : IsPlainReply r) where
  pub of_it : IsOf (record { command = c; operation = number }) e
  of_it = record { command = names.command; operation = names.operation; runs = ap is_job_running names.reply ∙ not_running r plain }

  pub promises_it : (going : AllGoing) → Promises going e [] e.reply
  promises_it going = subst (Promises going e []) (sym names.reply) (no_promise going e r plain)

  pub not_zero : e.reply ≡ Some (reply.Pending 0) → ⊥
  not_zero is = not_pending r plain (sym names.reply ∙ is)

pub leaves_resting : (e : Entry) (r : Reply) → e.reply ≡ Some r → (left : Option Op) → Leaves e (Resting left)
leaves_resting e r is left = record { no_operation = refl; answered = λ a given. refl; going = λ silent. absurd (none_some r (sym silent ∙ is)) }
  where
    none_some : {A : Type 0} (a : A) → None ≡ Some a → ⊥
    none_some a is_some = cc

-- ---- what a call leaves of the states

-- from a stage up to the commit: what they stood for, or the exchange
pub stands_either : (image : Image) → Sound image → (op : Op) (name : StageName) → IsForward name → AtStage op name image → (result : Result Stage StepFault) (hs : List Happening) → Advances op name (IsOk result) (FailsByMemory result) image hs
    → (meaning (after_all image hs) ≡ meaning image) ⊎ (after_all image hs ≡ committed_image image op)
stands_either image sound op Logged f at result hs advances = inl (step_leaves image sound op Logged tt at result hs advances)
stands_either image sound op SourceDone f at result hs advances = inl (step_leaves image sound op SourceDone tt at result hs advances)
stands_either image sound op TargetDone f at result hs advances = ⊎_elim (λ same. inl (ap meaning same)) (λ made. inr made) (commit_failed image sound op at result hs advances)
stands_either image sound op Committed f at result hs advances = absurd f
stands_either image sound op Settled f at result hs advances = absurd f

-- for want of memory what they stood for
stands_for_memory : (image : Image) → Sound image → (op : Op) (name : StageName) → IsForward name → AtStage op name image → (result : Result Stage StepFault) → FailsByMemory result → (hs : List Happening) → Advances op name (IsOk result) (FailsByMemory result) image hs
    → meaning (after_all image hs) ≡ meaning image
stands_for_memory image sound op Logged f at result m hs advances = step_leaves image sound op Logged tt at result hs advances
stands_for_memory image sound op SourceDone f at result m hs advances = step_leaves image sound op SourceDone tt at result hs advances
stands_for_memory image sound op TargetDone f at result m hs advances = ap (λ hs. meaning (after_all image hs)) (commit_untried image sound op at result m hs advances)
stands_for_memory image sound op Committed f at result m hs advances = absurd f
stands_for_memory image sound op Settled f at result m hs advances = absurd f

module _ (image : Image) (sound : Sound image) (past : Past) (connections : Connections) (e : Entry) (c : Command) (op : Op) (number : ℕ) (hs : List Happening) where
  abbrev A : PlainState
  A = with_connections (meaning image) connections

  -- the plain step at the commit, of the entry's command
  step_is : (after : Connections) (f : FollowsAtCommit e.session c image op connections after) → e.command ≡ c → after_all image hs ≡ committed_image image op → plain_step f.held A e.session e.command ≡ (with_connections (meaning (after_all image hs)) after, reply.Ok)
  step_is after f is made = subst (λ (x : Command). plain_step f.held A e.session x ≡ (with_connections (meaning (after_all image hs)) after, reply.Ok)) (sym is) (at_commit e.session c image (after_all image hs) op connections after f made)

  pub done_follows : (after : Connections) → FollowsAtCommit e.session c image op connections after → Names e c number reply.Ok → after_all image hs ≡ committed_image image op → Follows past A e (with_connections (meaning (after_all image hs)) after) e.reply
  done_follows after f names made = follows_ok past A (with_connections (meaning (after_all image hs)) after) e f.held (step_is after f names.command made) names.reply

  pub fault_follows : EndsNone c → FollowsAtCommit e.session c image op connections connections → Names e c number reply.Fault → (meaning (after_all image hs) ≡ meaning image) ⊎ (after_all image hs ≡ committed_image image op)
      → Follows past A e (with_connections (meaning (after_all image hs)) connections) e.reply
  fault_follows none f names either = follows_fault past A (with_connections (meaning (after_all image hs)) connections) e (subst EndsNone (sym names.command) none)
      (⊎_elim (λ same. inl (ap (λ s. with_connections s connections) same)) (λ made. inr (f.held, sym (ap (λ (x : PlainState × Reply). x.0) (step_is connections f names.command made)))) either) names.reply

  -- where what they stood for stays
  pub stay_follows : EndsNone c → Names e c number reply.Fault → meaning (after_all image hs) ≡ meaning image → Follows past A e (with_connections (meaning (after_all image hs)) connections) e.reply
  stay_follows none names same = follows_fault past A (with_connections (meaning (after_all image hs)) connections) e (subst EndsNone (sym names.command) none) (inl (ap (λ s. with_connections s connections) same)) names.reply

  pub memory_follows : IsOneOperation c → Names e c number reply.Memory → meaning (after_all image hs) ≡ meaning image → Follows past A e (with_connections (meaning (after_all image hs)) connections) e.reply
  memory_follows one names same = follows_memory past A (with_connections (meaning (after_all image hs)) connections) e (subst IsOneOperation (sym names.command) one) (ap (λ s. with_connections s connections) same) names.reply

-- ---- on the trail

module _ (since : ℕ) (start : Image) (mode : Mode) (past : Timeline) (connections : Connections) (doing : AllDoing) (core : Core Needs since start mode past connections [] doing) (e : Entry) where
  abbrev I : Image
  I = image_of start past

  abbrev IsNow : List Happening → Type 0
  IsNow hs = e.moment ≡ since + length (happened_of (happened_on past hs))

  abbrev EndsSo : Connections → List Happening → AllDoing → Type 0
  EndsSo after hs next = Core Needs since start mode (Entered e ∷ happened_on past hs) after (text_of mode e) next

  module _ (l : Live) (is : live_of (doing e.session) ≡ Some l) where
    pub done_on_trail : l.stage ≡ TargetDone → IsOneOperation l.command → (result : Result Stage StepFault) → IsOk result → (hs : List Happening) → Advances l.op l.stage (IsOk result) (FailsByMemory result) I hs → Names e l.command l.op.number reply.Ok → IsNow hs
        → (after : Connections) → FollowsAtCommit e.session l.command I l.op connections after → (left : Option Op) (next : AllDoing) → IsThen doing e.session (Resting left) next → EndsSo after hs next
    done_on_trail target one result ok hs advances names now after f left next then =
        let forward : IsForward l.stage = subst IsForward (sym target) tt in
        let at : AtStage l.op TargetDone I = subst (λ name. AtStage l.op name I) target (stage_on_trail since start mode past connections [] doing core e.session l is forward) in
        let made = (commit_made I core.sessions.sound l.op at result ok hs (subst (λ name. Advances l.op name (IsOk result) (FailsByMemory result) I hs) target advances)).1 in
        ends_on_trail since start mode past connections doing core e l is forward result hs advances (Resting left) next then (leaves_resting e reply.Ok names.reply left) (of_it e l.command l.op.number reply.Ok names tt) reply.Ok names.reply
        (promises_it e l.command l.op.number reply.Ok names tt (all_going next)) (not_zero e l.command l.op.number reply.Ok names tt) after
        (answers_ok since start past core.owing.run.exact hs e connections after now (subst IsOneOperation (sym names.command) one) names.reply
        (done_follows I core.sessions.sound (past_of start (happened_on past hs)) connections e l.command l.op l.op.number hs after f names made))

    pub faults_on_trail : IsForward l.stage → EndsNone l.command → (result : Result Stage StepFault) (hs : List Happening) → Advances l.op l.stage (IsOk result) (FailsByMemory result) I hs → Names e l.command l.op.number reply.Fault → IsNow hs
        → FollowsAtCommit e.session l.command I l.op connections connections → (left : Option Op) (next : AllDoing) → IsThen doing e.session (Resting left) next → EndsSo connections hs next
    faults_on_trail forward none result hs advances names now f left next then =
        ends_on_trail since start mode past connections doing core e l is forward result hs advances (Resting left) next then (leaves_resting e reply.Fault names.reply left) (of_it e l.command l.op.number reply.Fault names tt) reply.Fault names.reply
        (promises_it e l.command l.op.number reply.Fault names tt (all_going next)) (not_zero e l.command l.op.number reply.Fault names tt) connections
        (answers_fault since start past core.owing.run.exact hs e connections connections now (subst EndsNone (sym names.command) none) names.reply
        (fault_follows I core.sessions.sound (past_of start (happened_on past hs)) connections e l.command l.op l.op.number hs none f names
        (stands_either I core.sessions.sound l.op l.stage forward (stage_on_trail since start mode past connections [] doing core e.session l is forward) result hs advances)))

    pub memory_on_trail : IsForward l.stage → IsOneOperation l.command → (result : Result Stage StepFault) → FailsByMemory result → (hs : List Happening) → Advances l.op l.stage (IsOk result) (FailsByMemory result) I hs → Names e l.command l.op.number reply.Memory → IsNow hs
        → (left : Option Op) (next : AllDoing) → IsThen doing e.session (Resting left) next → EndsSo connections hs next
    memory_on_trail forward one result fails hs advances names now left next then =
        ends_on_trail since start mode past connections doing core e l is forward result hs advances (Resting left) next then (leaves_resting e reply.Memory names.reply left) (of_it e l.command l.op.number reply.Memory names tt) reply.Memory names.reply
        (promises_it e l.command l.op.number reply.Memory names tt (all_going next)) (not_zero e l.command l.op.number reply.Memory names tt) connections
        (answers_memory since start past core.owing.run.exact hs e connections connections now (subst IsOneOperation (sym names.command) one) names.reply
        (memory_follows I core.sessions.sound (past_of start (happened_on past hs)) connections e l.command l.op l.op.number hs one names
        (stands_for_memory I core.sessions.sound l.op l.stage forward (stage_on_trail since start mode past connections [] doing core e.session l is forward) result fails hs advances)))

  -- at the log row
  pub log_faults_on_trail : (left : Option Op) → doing e.session ≡ Working e.command left → EndsNone e.command → (live : List ℕ) → AreTheLive live doing → (op : Op) → IsOpFor e.command I op → next_operation I < 2 ^ 63 → (hs : List Happening)
      → Begins live op (Err (begin.Tried e.operation)) I hs → e.reply ≡ Some reply.Fault → IsNow hs → (next : AllDoing) → IsThen doing e.session (Resting left) next → EndsSo connections hs next
  log_faults_on_trail left works none live are op own below hs begun is now next then =
      let names : Names e e.command e.operation reply.Fault = record { command = refl; operation = refl; reply = is } in
      fails_on_trail since start mode past connections doing core e left works live are op own below hs begun (Resting left) next then (leaves_resting e reply.Fault is left) reply.Fault is (of_it e e.command e.operation reply.Fault names tt)
      (promises_it e e.command e.operation reply.Fault names tt (all_going next)) (not_zero e e.command e.operation reply.Fault names tt) connections
      (answers_fault since start past core.owing.run.exact hs e connections connections now none is
      (stay_follows I core.sessions.sound (past_of start (happened_on past hs)) connections e e.command op e.operation hs none names
      (tried_means live op (numbered op e.operation) I core.sessions.sound (begun core.sessions.sound own.lawful below).0 hs (begun core.sessions.sound own.lawful below).1)))

  -- where nothing of it was tried
  module _ (left : Option Op) (works : doing e.session ≡ Working e.command left) (now : IsNow []) (next : AllDoing) (then : IsThen doing e.session (Resting left) next) (unnamed : e.operation ≡ 0) where
    ends_alone_with : (r : Reply) → e.reply ≡ Some r → IsPlainReply r → Rattle.session_laws.specs.Core.Answers since start past e connections connections → EndsSo connections [] next
    ends_alone_with r is plain answers =
        let names : Names e e.command 0 r = record { command = refl; operation = unnamed; reply = is } in
        answers_alone Needs since start mode past connections [] doing core e (record { command = e.command; operation = 0 }) (ap going_of works) (of_it e e.command 0 r names plain) (Resting left) next then (leaves_resting e r is left)
        (promises_it e e.command 0 r names plain (all_going next)) (not_zero e e.command 0 r names plain) connections r refl is answers

    pub fault_before_on_trail : EndsNone e.command → e.reply ≡ Some reply.Fault → EndsSo connections [] next
    fault_before_on_trail none is = ends_alone_with reply.Fault is tt (answers_fault since start past core.owing.run.exact [] e connections connections now none is
        (follows_fault (past_of start past) (with_connections (meaning I) connections) (with_connections (meaning I) connections) e none (inl refl) is))

    pub memory_before_on_trail : IsOneOperation e.command → e.reply ≡ Some reply.Memory → EndsSo connections [] next
    memory_before_on_trail one is = ends_alone_with reply.Memory is tt (answers_memory since start past core.owing.run.exact [] e connections connections now one is
        (follows_memory (past_of start past) (with_connections (meaning I) connections) (with_connections (meaning I) connections) e one refl is))

-- ---- by contents alone

module _ (first : Image) (past : Past) (connections : Connections) (image : Image) (doing : AllDoing) (core : CoreAlone Needs first past connections image doing) (e : Entry) where
  abbrev EndsTo : Connections → List Happening → AllDoing → Type 0
  EndsTo after hs next = CoreAlone Needs first (record { entry = e; before = meaning image } ∷ past) after (after_all image hs) next

  module _ (l : Live) (is : live_of (doing e.session) ≡ Some l) where
    pub done_alone : l.stage ≡ TargetDone → (result : Result Stage StepFault) → IsOk result → (hs : List Happening) → Advances l.op l.stage (IsOk result) (FailsByMemory result) image hs → Names e l.command l.op.number reply.Ok
        → (after : Connections) → FollowsAtCommit e.session l.command image l.op connections after → (left : Option Op) (next : AllDoing) → IsThen doing e.session (Resting left) next → EndsTo after hs next
    done_alone target result ok hs advances names after f left next then =
        let forward : IsForward l.stage = subst IsForward (sym target) tt in
        let at : AtStage l.op TargetDone image = subst (λ name. AtStage l.op name image) target (stage_alone first past connections image doing core e.session l is forward) in
        let made = (commit_made image core.run.sound l.op at result ok hs (subst (λ name. Advances l.op name (IsOk result) (FailsByMemory result) image hs) target advances)).1 in
        ends_alone first past connections image doing core e l is forward result hs advances (Resting left) next then (leaves_resting e reply.Ok names.reply left) (of_it e l.command l.op.number reply.Ok names tt)
        (promises_it e l.command l.op.number reply.Ok names tt (all_going next)) (not_zero e l.command l.op.number reply.Ok names tt) after
        (done_follows image core.run.sound past connections e l.command l.op l.op.number hs after f names made)

    pub faults_alone : IsForward l.stage → EndsNone l.command → (result : Result Stage StepFault) (hs : List Happening) → Advances l.op l.stage (IsOk result) (FailsByMemory result) image hs → Names e l.command l.op.number reply.Fault
        → FollowsAtCommit e.session l.command image l.op connections connections → (left : Option Op) (next : AllDoing) → IsThen doing e.session (Resting left) next → EndsTo connections hs next
    faults_alone forward none result hs advances names f left next then =
        ends_alone first past connections image doing core e l is forward result hs advances (Resting left) next then (leaves_resting e reply.Fault names.reply left) (of_it e l.command l.op.number reply.Fault names tt)
        (promises_it e l.command l.op.number reply.Fault names tt (all_going next)) (not_zero e l.command l.op.number reply.Fault names tt) connections
        (fault_follows image core.run.sound past connections e l.command l.op l.op.number hs none f names
        (stands_either image core.run.sound l.op l.stage forward (stage_alone first past connections image doing core e.session l is forward) result hs advances))

    pub memory_alone : IsForward l.stage → IsOneOperation l.command → (result : Result Stage StepFault) → FailsByMemory result → (hs : List Happening) → Advances l.op l.stage (IsOk result) (FailsByMemory result) image hs → Names e l.command l.op.number reply.Memory
        → (left : Option Op) (next : AllDoing) → IsThen doing e.session (Resting left) next → EndsTo connections hs next
    memory_alone forward one result fails hs advances names left next then =
        ends_alone first past connections image doing core e l is forward result hs advances (Resting left) next then (leaves_resting e reply.Memory names.reply left) (of_it e l.command l.op.number reply.Memory names tt)
        (promises_it e l.command l.op.number reply.Memory names tt (all_going next)) (not_zero e l.command l.op.number reply.Memory names tt) connections
        (memory_follows image core.run.sound past connections e l.command l.op l.op.number hs one names
        (stands_for_memory image core.run.sound l.op l.stage forward (stage_alone first past connections image doing core e.session l is forward) result fails hs advances))

  pub log_faults_alone : (left : Option Op) → doing e.session ≡ Working e.command left → EndsNone e.command → (live : List ℕ) → AreTheLive live doing → (op : Op) → IsOpFor e.command image op → next_operation image < 2 ^ 63 → (hs : List Happening)
      → Begins live op (Err (begin.Tried e.operation)) image hs → e.reply ≡ Some reply.Fault → (next : AllDoing) → IsThen doing e.session (Resting left) next → EndsTo connections hs next
  log_faults_alone left works none live are op own below hs begun is next then =
      let names : Names e e.command e.operation reply.Fault = record { command = refl; operation = refl; reply = is } in
      fails_alone first past connections image doing core e left works live are op own below hs begun (Resting left) next then (leaves_resting e reply.Fault is left) (of_it e e.command e.operation reply.Fault names tt)
      (promises_it e e.command e.operation reply.Fault names tt (all_going next)) (not_zero e e.command e.operation reply.Fault names tt) connections
      (stay_follows image core.run.sound past connections e e.command op e.operation hs none names
      (tried_means live op (numbered op e.operation) image core.run.sound (begun core.run.sound own.lawful below).0 hs (begun core.run.sound own.lawful below).1))

  module _ (left : Option Op) (works : doing e.session ≡ Working e.command left) (next : AllDoing) (then : IsThen doing e.session (Resting left) next) (unnamed : e.operation ≡ 0) where
    enters_with : (r : Reply) → e.reply ≡ Some r → IsPlainReply r → Follows past (with_connections (meaning image) connections) e (with_connections (meaning image) connections) e.reply → EndsTo connections [] next
    enters_with r is plain follows =
        let names : Names e e.command 0 r = record { command = refl; operation = unnamed; reply = is } in
        alone_core_enters Needs first past connections image doing core e (record { command = e.command; operation = 0 }) (ap going_of works) (of_it e e.command 0 r names plain) (Resting left) next then (leaves_resting e r is left)
        (promises_it e e.command 0 r names plain (all_going next)) (not_zero e e.command 0 r names plain) image connections core.run.sound (λ t l other at. core.stand t l at) follows

    pub fault_before_alone : EndsNone e.command → e.reply ≡ Some reply.Fault → EndsTo connections [] next
    fault_before_alone none is = enters_with reply.Fault is tt (follows_fault past (with_connections (meaning image) connections) (with_connections (meaning image) connections) e none (inl refl) is)

    pub memory_before_alone : IsOneOperation e.command → e.reply ≡ Some reply.Memory → EndsTo connections [] next
    memory_before_alone one is = enters_with reply.Memory is tt (follows_memory past (with_connections (meaning image) connections) (with_connections (meaning image) connections) e one refl is)
