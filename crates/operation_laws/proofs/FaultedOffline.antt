-- A faulted `offline`: once its log row was tried the connections of its mapping have ended, whether it is committed or not.
use Rattle.std.proofs.Common.{◌≡◌, ◌⊎◌, inl, inr, ⊎_elim, Bool, true, false, ℕ, ◌+◌, ◌<◌, ◌^◌, refl, sym, ap, ◌∙◌, subst, Some, None, Option, List, [], ◌∷◌, length}
use Rattle.std.specs.Prelude.{Result, IsOk, Err, ◌==◌}
use Rattle.std.specs.Bool.{MatchBool}
use Rattle.cell_world.specs.Lists.{SomeOf}
use Rattle.cell_world.specs.Texts.{Text}
use Rattle.cell_world.specs.Images.{Image, Happening, Committed, Wrote, Reopened, after_all}
use Rattle.cell_world.specs.Plain.{PlainState, Connections, Held, with_connections}
use Rattle.cell_world.specs.Marked.{committed_image}
use Rattle.cell_world.specs.Meaning.{meaning, next_operation}
use Rattle.cell_world.specs.declared.cells.Token.{Token}
use Rattle.cell_world.specs.declared.operations.Op.{Op}
use Rattle.cell_world.specs.declared.operations.Piece.{Piece}
use Rattle.global_tables.specs.declared.faults.StepFault.{StepFault}
use Rattle.plain_model.specs.declared.commands.Command.{Command}
use Rattle.plain_model.specs.declared.commands.Command.TheVariants as command
use Rattle.plain_model.specs.declared.replies.Reply.{Reply}
use Rattle.plain_model.specs.declared.replies.Reply.TheVariants as reply
use Rattle.plain_model.specs.declared.history.Entry.{Entry}
use Rattle.plain_model.specs.Refusing.{mapping_of}
use Rattle.plain_model.specs.Steps.{plain_step, ended_under}
use Rattle.plain_model.specs.JobSteps.{asked_job, with_ended}
use Rattle.plain_model.specs.Follows.{Follows, FollowsFault}
use Rattle.plain_model.specs.OnTrail.{OnTrail, FaultOnTrail, EndsIfTried, TakesOffline, WasTried, logs_put}
use Rattle.plain_model.specs.Timelines.{Timeline, Past, Happened, Entered, image_of, facts_of, happened_of, past_of}
use Rattle.plain_model.specs.Legal.{IsPlanned}
use Rattle.plain_model.specs.GoingOn.{AreNumbered, TriesNumbered}
use Rattle.plain_model.specs.Written.{Mode}
use Rattle.plain_model.specs.Running.{text_of}
use Rattle.session_laws.specs.Doing.{Resting, Working, AllDoing, Live, live_of, going_of, all_going, IsThen}
use Rattle.session_laws.specs.Core.{Core, CoreAlone, Answers}
use Rattle.session_laws.specs.Needs.{Needs}
use Rattle.session_laws.proofs.AloneCore.{alone_core_enters}
use Rattle.session_laws.proofs.CoreLaws.{answers_alone}
use Rattle.op_steps.specs.declared.stages.Stage.{Stage}
use Rattle.op_steps.specs.declared.beginning.BeginFault.TheVariants as begin
use Rattle.op_steps.specs.Passing.{FailsByMemory}
use Rattle.op_steps.specs.Advancing.{Advances}
use Rattle.op_steps.specs.Beginning.{Begins, numbered}
use Rattle.operation_laws.specs.Courses.{happened_on}
use Rattle.operation_laws.specs.Forward.{IsForward}
use Rattle.operation_laws.specs.LiveNumbers.{AreTheLive}
use Rattle.operation_laws.specs.Planned.{IsOpFor}
use Rattle.operation_laws.specs.Entries.{Names, FollowsAtCommit}
use Rattle.operation_laws.proofs.Beginnings.{fails_on_trail, fails_alone, tried_means}
use Rattle.operation_laws.proofs.Done.{of_it, promises_it, not_zero, leaves_resting, stands_either}
use Rattle.operation_laws.proofs.Entries.{at_commit}
use Rattle.operation_laws.proofs.OwnSteps.{ends_on_trail, ends_alone, stage_on_trail, stage_alone}
use Rattle.operation_laws.proofs.Timelines.{image_on, facts_on}

-- ---- the entry

-- the state after it: the new one, or the old one without the connections
abbrev IsFaulted : PlainState → PlainState → Entry → Text → Text → Type 0
IsFaulted A B e name key = ((held : Held) × (B ≡ (plain_step held A e.session e.command).0)) ⊎ (B ≡ with_ended A (mapping_of A name key))

module _ (e : Entry) (name key : Text) (token : Option Token) (is : e.command ≡ command.Offline name key token) (answer : e.reply ≡ Some reply.Fault) where
  follows_faulted : (past : Past) (A B : PlainState) → IsFaulted A B e name key → Follows past A e B e.reply
  follows_faulted past A B h = subst (Follows past A e B) (sym answer) (subst (λ c. FollowsFault A B e c (asked_job A e.command)) (sym is) (⊎_elim (λ new. inl new) (λ old. inr (inr old)) h))

  -- in both cases the connections have ended
  ends_if : (start : Image) (p : Timeline) (A B : PlainState) (m : Option Piece) → B.connections ≡ ended_under m A.connections → EndsIfTried start p e A B m
  ends_if start p A B None h = tt
  ends_if start p A B (Some x) h = λ tried. h

  told_faulted : (start : Image) (p : Timeline) (A B : PlainState) → B.connections ≡ ended_under (mapping_of A name key) A.connections → OnTrail start p A e B e.reply
  told_faulted start p A B h = subst (OnTrail start p A e B) (sym answer) (subst (λ c. FaultOnTrail start p e A B c (asked_job A e.command)) (sym is) (ends_if start p A B (mapping_of A name key) h))

  no_job : (s : PlainState) → asked_job s e.command ≡ None
  no_job s = ap (asked_job s) is

  module _ (since : ℕ) (start : Image) (past : Timeline) (exact : meaning (image_of start past) ≡ facts_of start past) (hs : List Happening) (connections : Connections) (moment : e.moment ≡ since + length (happened_of (happened_on past hs))) where
    abbrev p : Timeline
    p = happened_on past hs

    abbrev A : PlainState
    A = with_connections (meaning (image_of start past)) connections

    abbrev after : Connections
    after = ended_under (mapping_of A name key) connections

    a_is : A ≡ with_connections (facts_of start p) connections
    a_is = ap (λ s. with_connections s connections) (exact ∙ sym (facts_on start past hs))

    answers_faulted : Follows (past_of start p) A e (with_connections (meaning (after_all (image_of start past) hs)) after) e.reply → Answers since start p e connections after
    answers_faulted follows = record {
      moment = moment;
      follows = subst (λ i. Follows (past_of start p) (with_connections (facts_of start p) connections) e (with_connections (meaning i) after) e.reply) (sym (image_on start past hs))
          (subst (λ s. Follows (past_of start p) s e (with_connections (meaning (after_all (image_of start past) hs)) after) e.reply) a_is follows);
      on_trail = told_faulted start p (with_connections (facts_of start p) connections) (with_connections (meaning (image_of start p)) after) (ap (λ s. ended_under (mapping_of s name key) connections) a_is);
      planned = subst (IsPlanned start p (with_connections (facts_of start p) connections) e (with_connections (meaning (image_of start p)) after)) (sym (no_job (facts_of start p))) tt;
    }

-- ---- of states

module _ (image last : Image) (connections : Connections) (e : Entry) (name key : Text) (token : Option Token) (is : e.command ≡ command.Offline name key token) where
  abbrev S : PlainState
  S = with_connections (meaning image) connections

  abbrev ended : Connections
  ended = ended_under (mapping_of S name key) connections

  -- what it stood for stays
  faulted_same : meaning last ≡ meaning image → IsFaulted S (with_connections (meaning last) ended) e name key
  faulted_same same = inr (ap (λ s. with_connections s ended) same)

  -- or it is committed
  faulted_made : (op : Op) → FollowsAtCommit e.session (command.Offline name key token) image op connections ended → last ≡ committed_image image op → IsFaulted S (with_connections (meaning last) ended) e name key
  faulted_made op f made = inl (f.held, sym (ap (λ (x : PlainState × Reply). x.0) (subst (λ (c : Command). plain_step f.held S e.session c ≡ (with_connections (meaning last) ended, reply.Ok)) (sym is) (at_commit e.session (command.Offline name key token) image last op connections ended f made))))

-- ---- on the trail

module _ (since : ℕ) (start : Image) (mode : Mode) (past : Timeline) (connections : Connections) (doing : AllDoing) (core : Core Needs since start mode past connections [] doing) (e : Entry) (name key : Text) (token : Option Token) where
  abbrev I : Image
  I = image_of start past

  abbrev then_connected : Connections
  then_connected = ended_under (mapping_of (with_connections (meaning I) connections) name key) connections

  pub offline_faults : (l : Live) → live_of (doing e.session) ≡ Some l → l.command ≡ command.Offline name key token → IsForward l.stage → (result : Result Stage StepFault) (hs : List Happening) → Advances l.op l.stage (IsOk result) (FailsByMemory result) I hs
      → Names e (command.Offline name key token) l.op.number reply.Fault → e.moment ≡ since + length (happened_of (happened_on past hs)) → FollowsAtCommit e.session (command.Offline name key token) I l.op connections then_connected
      → (left : Option Op) (next : AllDoing) → IsThen doing e.session (Resting left) next → Core Needs since start mode (Entered e ∷ happened_on past hs) then_connected (text_of mode e) next
  offline_faults l live c forward result hs advances names moment f left next then =
      let named : Names e l.command l.op.number reply.Fault = subst (λ c. Names e c l.op.number reply.Fault) (sym c) names in
      ends_on_trail since start mode past connections doing core e l live forward result hs advances (Resting left) next then (leaves_resting e reply.Fault names.reply left) (of_it e l.command l.op.number reply.Fault named tt) reply.Fault names.reply
      (promises_it e l.command l.op.number reply.Fault named tt (all_going next)) (not_zero e l.command l.op.number reply.Fault named tt) then_connected
      (answers_faulted e name key token names.command names.reply since start past core.owing.run.exact hs connections moment
      (follows_faulted e name key token names.command names.reply (past_of start (happened_on past hs)) (with_connections (meaning I) connections) (with_connections (meaning (after_all I hs)) then_connected)
      (⊎_elim (λ same. faulted_same I (after_all I hs) connections e name key token names.command same) (λ made. faulted_made I (after_all I hs) connections e name key token names.command l.op f made)
      (stands_either I core.sessions.sound l.op l.stage forward (stage_on_trail since start mode past connections [] doing core e.session l live forward) result hs advances))))

  pub offline_log_faults : (left : Option Op) → doing e.session ≡ Working e.command left → e.command ≡ command.Offline name key token → (live : List ℕ) → AreTheLive live doing → (op : Op) → IsOpFor e.command I op → next_operation I < 2 ^ 63 → (hs : List Happening)
      → Begins live op (Err (begin.Tried e.operation)) I hs → e.reply ≡ Some reply.Fault → e.moment ≡ since + length (happened_of (happened_on past hs)) → (next : AllDoing) → IsThen doing e.session (Resting left) next
      → Core Needs since start mode (Entered e ∷ happened_on past hs) then_connected (text_of mode e) next
  offline_log_faults left works is live are op own below hs begun answer moment next then =
      let named : Names e e.command e.operation reply.Fault = record { command = refl; operation = refl; reply = answer } in
      fails_on_trail since start mode past connections doing core e left works live are op own below hs begun (Resting left) next then (leaves_resting e reply.Fault answer left) reply.Fault answer (of_it e e.command e.operation reply.Fault named tt)
      (promises_it e e.command e.operation reply.Fault named tt (all_going next)) (not_zero e e.command e.operation reply.Fault named tt) then_connected
      (answers_faulted e name key token is answer since start past core.owing.run.exact hs connections moment
      (follows_faulted e name key token is answer (past_of start (happened_on past hs)) (with_connections (meaning I) connections) (with_connections (meaning (after_all I hs)) then_connected)
      (faulted_same I (after_all I hs) connections e name key token is (tried_means live op (numbered op e.operation) I core.sessions.sound (begun core.sessions.sound own.lawful below).0 hs (begun core.sessions.sound own.lawful below).1))))

-- ---- by contents alone

module _ (first : Image) (past : Past) (connections : Connections) (image : Image) (doing : AllDoing) (core : CoreAlone Needs first past connections image doing) (e : Entry) (name key : Text) (token : Option Token) where
  abbrev connected_then : Connections
  connected_then = ended_under (mapping_of (with_connections (meaning image) connections) name key) connections

  pub offline_faults_alone : (l : Live) → live_of (doing e.session) ≡ Some l → l.command ≡ command.Offline name key token → IsForward l.stage → (result : Result Stage StepFault) (hs : List Happening) → Advances l.op l.stage (IsOk result) (FailsByMemory result) image hs
      → Names e (command.Offline name key token) l.op.number reply.Fault → FollowsAtCommit e.session (command.Offline name key token) image l.op connections connected_then
      → (left : Option Op) (next : AllDoing) → IsThen doing e.session (Resting left) next → CoreAlone Needs first (record { entry = e; before = meaning image } ∷ past) connected_then (after_all image hs) next
  offline_faults_alone l live c forward result hs advances names f left next then =
      let named : Names e l.command l.op.number reply.Fault = subst (λ c. Names e c l.op.number reply.Fault) (sym c) names in
      ends_alone first past connections image doing core e l live forward result hs advances (Resting left) next then (leaves_resting e reply.Fault names.reply left) (of_it e l.command l.op.number reply.Fault named tt)
      (promises_it e l.command l.op.number reply.Fault named tt (all_going next)) (not_zero e l.command l.op.number reply.Fault named tt) connected_then
      (follows_faulted e name key token names.command names.reply past (with_connections (meaning image) connections) (with_connections (meaning (after_all image hs)) connected_then)
      (⊎_elim (λ same. faulted_same image (after_all image hs) connections e name key token names.command same) (λ made. faulted_made image (after_all image hs) connections e name key token names.command l.op f made)
      (stands_either image core.run.sound l.op l.stage forward (stage_alone first past connections image doing core e.session l live forward) result hs advances)))

  pub offline_log_faults_alone : (left : Option Op) → doing e.session ≡ Working e.command left → e.command ≡ command.Offline name key token → (live : List ℕ) → AreTheLive live doing → (op : Op) → IsOpFor e.command image op → next_operation image < 2 ^ 63 → (hs : List Happening)
      → Begins live op (Err (begin.Tried e.operation)) image hs → e.reply ≡ Some reply.Fault → (next : AllDoing) → IsThen doing e.session (Resting left) next
      → CoreAlone Needs first (record { entry = e; before = meaning image } ∷ past) connected_then (after_all image hs) next
  offline_log_faults_alone left works is live are op own below hs begun answer next then =
      let named : Names e e.command e.operation reply.Fault = record { command = refl; operation = refl; reply = answer } in
      fails_alone first past connections image doing core e left works live are op own below hs begun (Resting left) next then (leaves_resting e reply.Fault answer left) (of_it e e.command e.operation reply.Fault named tt)
      (promises_it e e.command e.operation reply.Fault named tt (all_going next)) (not_zero e e.command e.operation reply.Fault named tt) connected_then
      (follows_faulted e name key token is answer past (with_connections (meaning image) connections) (with_connections (meaning (after_all image hs)) connected_then)
      (faulted_same image (after_all image hs) connections e name key token is (tried_means live op (numbered op e.operation) image core.run.sound (begun core.run.sound own.lawful below).0 hs (begun core.run.sound own.lawful below).1)))

-- ---- before its log row

some_numbered : (p : Piece) (ops : List Op) → AreNumbered ops → SomeOf (λ (op : Op). TakesOffline 0 p op) ops → ⊥
some_numbered p [] n h = absurd h
some_numbered p (op ∷ ops) n (inl t) = n.0 t.numbered
some_numbered p (op ∷ ops) n (inr m) = some_numbered p ops n.1 m

either_bool : (b : Bool) (X : Type 0) → (X → ⊥) → MatchBool b ⊥ X → ⊥
either_bool true X f h = absurd h
either_bool false X f h = f h

-- no log row of number 0 was tried
never_tried : (start : Image) (session : ℕ) (p : Piece) (past : Timeline) → TriesNumbered past → WasTried start session (λ (image : Image) (op : Op). TakesOffline 0 p op) past → ⊥
never_tried start session p [] n t = t
never_tried start session p (Happened (Committed place change took) ∷ past) n t = ⊎_elim (λ this. some_numbered p (logs_put change) n.0 this) (λ before. never_tried start session p past n.1 before) t
never_tried start session p (Happened (Wrote bytes) ∷ past) n t = never_tried start session p past n t
never_tried start session p (Happened (Reopened place cells) ∷ past) n t = never_tried start session p past n t
never_tried start session p (Entered x ∷ past) n t = either_bool (x.session == session) (WasTried start session (λ (image : Image) (op : Op). TakesOffline 0 p op) past) (never_tried start session p past n) t

module _ (e : Entry) (name key : Text) (token : Option Token) (is : e.command ≡ command.Offline name key token) (unnamed : e.operation ≡ 0) (answer : e.reply ≡ Some reply.Fault) where
  follows_before : (past : Past) (A : PlainState) → Follows past A e A e.reply
  follows_before past A = subst (Follows past A e A) (sym answer) (subst (λ c. FollowsFault A A e c (asked_job A e.command)) (sym is) (inr (inl refl)))

  ends_before : (start : Image) (past : Timeline) → TriesNumbered past → (A B : PlainState) (m : Option Piece) → EndsIfTried start past e A B m
  ends_before start past n A B None = tt
  ends_before start past n A B (Some p) = λ t. absurd (never_tried start e.session p past n (subst (λ k. WasTried start e.session (λ (image : Image) (op : Op). TakesOffline k p op) past) unnamed t))

pub offline_faults_before : (since : ℕ) (start : Image) (mode : Mode) (past : Timeline) (connections : Connections) (doing : AllDoing) → Core Needs since start mode past connections [] doing → (e : Entry) (name key : Text) (token : Option Token) → (left : Option Op) → doing e.session ≡ Working e.command left
    → e.command ≡ command.Offline name key token → e.operation ≡ 0 → e.reply ≡ Some reply.Fault → e.moment ≡ since + length (happened_of past) → (next : AllDoing) → IsThen doing e.session (Resting left) next → Core Needs since start mode (Entered e ∷ past) connections (text_of mode e) next
offline_faults_before since start mode past connections doing core e name key token left works is unnamed answer moment next then =
    let named : Names e e.command 0 reply.Fault = record { command = refl; operation = unnamed; reply = answer } in
    answers_alone Needs since start mode past connections [] doing core e (record { command = e.command; operation = 0 }) (ap going_of works) (of_it e e.command 0 reply.Fault named tt) (Resting left) next then (leaves_resting e reply.Fault answer left)
    (promises_it e e.command 0 reply.Fault named tt (all_going next)) (not_zero e e.command 0 reply.Fault named tt) connections reply.Fault refl answer
    (record {
      moment = moment;
      follows = subst (λ s. Follows (past_of start past) s e (with_connections (meaning (image_of start past)) connections) e.reply) (ap (λ s. with_connections s connections) core.owing.run.exact)
          (follows_before e name key token is unnamed answer (past_of start past) (with_connections (meaning (image_of start past)) connections));
      on_trail = subst (OnTrail start past (with_connections (facts_of start past) connections) e (with_connections (meaning (image_of start past)) connections)) (sym answer)
          (subst (λ c. FaultOnTrail start past e (with_connections (facts_of start past) connections) (with_connections (meaning (image_of start past)) connections) c (asked_job (with_connections (facts_of start past) connections) e.command)) (sym is)
          (ends_before e name key token is unnamed answer start past core.sessions.tries (with_connections (facts_of start past) connections) (with_connections (meaning (image_of start past)) connections)
          (mapping_of (with_connections (facts_of start past) connections) name key)));
      planned = subst (IsPlanned start past (with_connections (facts_of start past) connections) e (with_connections (meaning (image_of start past)) connections)) (sym (ap (asked_job (facts_of start past)) is)) tt;
    })

pub offline_faults_before_alone : (first : Image) (past : Past) (connections : Connections) (image : Image) (doing : AllDoing) → CoreAlone Needs first past connections image doing → (e : Entry) (name key : Text) (token : Option Token) → (left : Option Op) → doing e.session ≡ Working e.command left
    → e.command ≡ command.Offline name key token → e.operation ≡ 0 → e.reply ≡ Some reply.Fault → (next : AllDoing) → IsThen doing e.session (Resting left) next → CoreAlone Needs first (record { entry = e; before = meaning image } ∷ past) connections image next
offline_faults_before_alone first past connections image doing core e name key token left works is unnamed answer next then =
    let named : Names e e.command 0 reply.Fault = record { command = refl; operation = unnamed; reply = answer } in
    alone_core_enters Needs first past connections image doing core e (record { command = e.command; operation = 0 }) (ap going_of works) (of_it e e.command 0 reply.Fault named tt) (Resting left) next then (leaves_resting e reply.Fault answer left)
    (promises_it e e.command 0 reply.Fault named tt (all_going next)) (not_zero e e.command 0 reply.Fault named tt) image connections core.run.sound (λ t l other at. core.stand t l at)
    (follows_before e name key token is unnamed answer past (with_connections (meaning image) connections))
