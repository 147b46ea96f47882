-- One command is run to its end: it begins, goes on at most three times, and is answered.
use Rattle.std.proofs.Common.{◌≡◌, inl, inr, ℕ, zero, suc, ◌+◌, ◌≤◌, Bool, true, false, List, [], ◌∷◌, Option, Some, None, refl, sym, ap, ◌∙◌, subst, arith}
use Rattle.std.specs.List.{AllByRecursion}
use Rattle.cell_world.specs.Texts.{Text}
use Rattle.cell_world.specs.Outside.{Outside, Told, IfContents, IsLater, StoreRoseBy}
use Rattle.cell_world.specs.declared.operations.Op.{Op}
use Rattle.cell_world.specs.declared.operations.StageName.{StageName}
use Rattle.cell_world.specs.declared.operations.StageName.TheVariants.{Logged, SourceDone, TargetDone}
use Rattle.cell_world.proofs.ContentsLaws.{contents_weaker}
use Rattle.cell_world.proofs.OutsideLaws.{later_then}
use Rattle.map_ops.specs.Planning.{is_long}
use Rattle.plain_model.specs.declared.commands.Command.{Command}
use Rattle.plain_model.specs.declared.history.Entry.{Entry}
use Rattle.plain_model.specs.declared.replies.Reply.{Reply}
use Rattle.plain_model.specs.declared.replies.Reply.TheVariants as reply
use Rattle.plain_model.specs.Written.{EachReply}
use Rattle.op_steps.proofs.Rises.{rose_before, rose_after}
use Rattle.operation_laws.specs.Left.{left_of}
use Rattle.session_laws.specs.Contract.{KeepsCore, KeepsCoreTo}
use Rattle.session_laws.specs.Doing.{Doing, Live, Operating, IsThen, live_of}
use Rattle.session_laws.proofs.ContractLaws.{core_kept_then, core_kept_to_then}
use Rattle.manager_core.specs.declared.doings.Doing.{Doing as Seat}
use Rattle.manager_core.specs.declared.doings.Doing.TheVariants as seat
use Rattle.manager_core.specs.declared.manager.Event.{Event}
use Rattle.manager_core.specs.declared.manager.Event.TheVariants as event
use Rattle.manager_core.specs.declared.manager.Outcome.{Outcome}
use Rattle.manager_core.specs.declared.manager.Outcome.TheVariants.{Going, Ended, Stopped}
use Rattle.manager_core.specs.declared.manager.StopCause.{StopCause}
use Rattle.manager_core.specs.declared.manager.StopCause.TheVariants as cause
use Rattle.manager_core.specs.Coming.{AsksExactly, TriesFor, IsBefore, failures, left_after}
use Rattle.manager_core.specs.Cores.{Parts, IsReady, seen_of}
use Rattle.manager_core.specs.Doings.{IsProper, all_doing}
use Rattle.manager_core.specs.Events.{IsOf, IsEntered, IsOperating, Enters, Goes, Comes, ComesAfter, ComesTo, IsNumbered, StaysReady, rest_after}
use Rattle.manager_core.specs.Steady.{IsSettledOp, IsSteady, KeepsSettled}
use Rattle.script_shell.specs.Serving.{IsUnderWay, GoesFurther, IsToSettle, Served, Serves}
use Rattle.script_shell.proofs.RiseLaws.{rose_once}
use Rattle.script_shell.proofs.ToldLaws.{still_told}

-- ---- a session whose command is going

-- after an event that leaves it going its session has an operation
pub under_way : (stop : Option StopCause) (session : ℕ) (e : Event) (old new : Parts) (outcome : Outcome) → ComesAfter stop false session e old new outcome → IsUnderWay outcome (new.doing session)
under_way (Some why) session e old new (Going number) comes = absurd (never comes.0)
  where
    never : Going number ≡ Stopped why → ⊥
    never is = cc
under_way (Some why) session e old new (Ended sort) comes = tt
under_way (Some why) session e old new (Stopped other) comes = tt
under_way None session e old new (Going number) comes = subst IsOperating (sym comes.next.here) tt
under_way None session e old new (Ended sort) comes = tt
under_way None session e old new (Stopped other) comes = tt

-- a command that is going is a long one
pub going_is_long : (ds : List Seat) (session : ℕ) (c : Command) (op : Op) (stage : StageName) → AllByRecursion IsProper ds → all_doing ds session ≡ Operating c op stage → is_long c ≡ true
going_is_long ds zero c op stage proper is = absurd cc
going_is_long [] (suc n) c op stage proper is = absurd cc
going_is_long (seat.Resting ∷ ds) (suc zero) c op stage proper is = absurd cc
going_is_long (seat.Leaving o s ∷ ds) (suc zero) c op stage proper is = absurd cc
going_is_long (seat.Operating d o s ∷ ds) (suc zero) c op stage proper is = ap long_of (sym is) ∙ proper.0.0
  where
    long_of : Doing → Bool
    long_of (Operating x o s) = is_long x
    long_of other = false
going_is_long (d ∷ ds) (suc (suc n)) c op stage proper is = going_is_long ds (suc n) c op stage proper.1 is

-- ---- stages

-- how many steps an operation at this stage may have behind it
abbrev rank : StageName → ℕ
rank Logged = 0
rank SourceDone = 1
rank TargetDone = 2
rank other = 3

later_stage : (one other : StageName) → IsBefore one other → (rank one + 1 ≤ rank other) × (rank other ≤ 2)
later_stage Logged SourceDone is = (omega arith, omega arith)
later_stage Logged TargetDone is = (omega arith, omega arith)
later_stage SourceDone TargetDone is = (omega arith, omega arith)
later_stage one other is = absurd is

-- ---- replies

-- a command that was asked names an operation only where it is `fault`
no_number : (r : Reply) (number : ℕ) (old new : Told) → (r ≡ reply.Fault → ⊥) → TriesFor (Some r) number old new → number ≡ 0
no_number (reply.Refused x) number old new calm tries = tries.0
no_number (reply.Pending p) number old new calm tries = tries.0
no_number reply.Memory number old new calm tries = tries.0
no_number reply.Fault number old new calm tries = absurd (calm refl)
no_number r number old new calm tries = tries.0

ok_is_calm : (r : Reply) → r ≡ reply.Ok → r ≡ reply.Fault → ⊥
ok_is_calm r ok fault = let no : reply.Ok ≡ reply.Fault = sym ok ∙ fault in absurd cc

some_is : (a b : Reply) → Some a ≡ Some b → a ≡ b
some_is a b is = cc

none_is_some : {A : Type 0} (x : A) → None ≡ Some x → ⊥
none_is_some x is = cc

-- an entry of the command that the event is of
of_command : (session : ℕ) (c d : Command) (r : Reply) (number : ℕ) (before after : List Entry) → d ≡ c → IsEntered session d r number before after → IsEntered session c r number before after
of_command session c d r number before after is entered = subst (λ x. IsEntered session x r number before after) is entered

-- ---- what its session had left

rose_of : (came : Option Reply) (old new : Outside) → StoreRoseBy (failures came) old new → StoreRoseBy 1 old new
rose_of came old new = rose_once (failures came) old new (some came)
  where
    some : (came : Option Reply) → 1 ≤ failures came
    some None = omega arith
    some (Some reply.Fault) = omega arith
    some (Some r) = omega arith

-- ---- a command that is going

-- the session's command is going, and its operation has come to this stage
pub record IsGoing (session : ℕ) (c : Command) (op : Op) (stage : StageName) (old now : Parts) : Type 0 where
  pub here : now.doing session ≡ Operating c op stage
  pub others : (other : ℕ) → (session ≡ other → ⊥) → now.doing other ≡ old.doing other
  pub same : now.history ≡ old.history
  pub on : now.stop ≡ None
  pub long : is_long c ≡ true
  pub settles : IsReady old → (op : Op) → left_of (old.doing session) ≡ Some op → (StoreRoseBy 1 old.outside now.outside → ⊥) → IfContents now.outside.told (IsSettledOp op)
  pub settled : IsReady old → KeepsSettled old.outside now.outside
  pub ready : IsReady old → IsReady now
  pub keeps : IsReady old → KeepsCore (EachReply false) old.outside.told (seen_of old) now.outside.told (seen_of now) []
  pub keeps_to : IsReady old → KeepsCoreTo old.outside.told (seen_of old) now.outside.told (seen_of now)
  pub later : IsLater old.outside now.outside

-- After this many steps: it is going, at a stage that has so many behind it; or it was answered.
abbrev pub Course : ℕ → ℕ → Command → Parts → Parts → Outcome → Type 0
Course steps session c old now (Going number) = (op : Op) × (stage : StageName) × (steps ≤ rank stage) × (rank stage ≤ 2) × IsGoing session c op stage old now
Course steps session c old now other = Serves session c old now other

-- after three it was answered
pub course_ends : (session : ℕ) (c : Command) (old now : Parts) (outcome : Outcome) → Course 3 session c old now outcome → Serves session c old now outcome
course_ends session c old now (Going number) course = absurd (omega (arith, course.2, course.3))
course_ends session c old now (Ended sort) course = course
course_ends session c old now (Stopped why) course = course

-- ---- it is asked

module _ (session : ℕ) (c : Command) (old new : Parts) (on : old.stop ≡ None) (proper : (d : Command) (op : Op) (stage : StageName) → new.doing session ≡ Operating d op stage → is_long d ≡ true) (stays : StaysReady old new) (later : IsLater old.outside new.outside) where
  abbrev Asks : Event
  Asks = event.Ask c

  asked_served : (r : Reply) (written : Option Text) (rest : Text) → Enters false session Asks r old new written rest → Served session c r old new rest
  asked_served r written rest enters = record {
    number = enters.number;
    entered = of_command session c enters.command r enters.number old.history new.history enters.of_event enters.entered;
    left = None;
    rests = enters.rests;
    to_settle = λ ready ok. inl (numbered ready (ok_is_calm r ok));
    named = λ ready. still_told old.outside new.outside (stays.settled ready on) _ (never_ok ready);
    settles = λ ready op left enough calm. enters.settles ready op left (λ is. enough (some_is r reply.Memory is)) (λ rose. calm (rose_of (Some r) old.outside new.outside rose));
    settled = λ ready. stays.settled ready on;
    short = λ short. enters.numbered (ap is_long enters.of_event ∙ short);
    ready = stays.ready;
    keeps = λ ready. enters.keeps ready on;
    keeps_to = λ ready. enters.keeps_to ready on;
    fault = enters.fault;
  }
    where
      -- a long command goes on before it is done
      never_ok : IsReady old → IfContents old.outside.told (λ image. is_long c ≡ true → r ≡ reply.Ok → (enters.number ≡ 0 → ⊥) × IsToSettle enters.number None)
      never_ok ready = contents_weaker old.outside.told (AsksExactly old.doing session enters.command (Some r)) _
          (λ image exact long ok. absurd (exact.long (ap is_long enters.of_event ∙ long) (ap Some ok))) (enters.has_cause ready on).1

      numbered : IsReady old → (r ≡ reply.Fault → ⊥) → enters.number ≡ 0
      numbered ready calm = let why = enters.has_cause ready on in no_number r enters.number why.0.between enters.between calm why.0.tries

  asked_going : (number : ℕ) → Goes session Asks number old new → Course 0 session c old new (Going number)
  asked_going number goes = (
    goes.op,
    goes.stage,
    omega arith,
    few goes.stage goes.stage_comes,
    record {
      here = goes.next.here ∙ ap (λ d. Operating d goes.op goes.stage) goes.of_event;
      others = goes.next.others;
      same = goes.same;
      on = goes.on;
      long = ap is_long (sym goes.of_event) ∙ proper goes.command goes.op goes.stage goes.next.here;
      settles = λ ready op left calm. goes.settles ready op left (none_is_some reply.Memory) (λ rose. calm (rose_of None old.outside new.outside rose));
      settled = λ ready. stays.settled ready on;
      ready = stays.ready;
      keeps = λ ready. goes.keeps ready on false;
      keeps_to = λ ready. goes.keeps_to ready on;
      later = later;
    },
  )
    where
      few : (stage : StageName) → stage ≡ Logged → rank stage ≤ 2
      few stage is = subst (λ s. rank s ≤ 2) (sym is) (omega arith)

  by_outcome : (outcome : Outcome) → Comes false session Asks old new outcome → Course 0 session c old new outcome
  by_outcome (Going number) comes = asked_going number comes
  by_outcome (Ended sort) comes = (comes.0, comes.1, comes.2, asked_served comes.0 _ [] comes.3)
  by_outcome (Stopped cause.Sink) comes = (comes.0, comes.2, (comes.3.1, asked_served comes.0 _ comes.3.1 comes.3.2))
  by_outcome (Stopped cause.Memory) comes = (comes.0, (_, asked_served comes.0 _ _ comes.2))

  pub asked_course : (outcome : Outcome) → ComesAfter old.stop false session Asks old new outcome → Course 0 session c old new outcome
  asked_course outcome comes = by_outcome outcome (subst (λ stop. ComesAfter stop false session Asks old new outcome) on comes)

-- ---- it goes on

module _ (steps session : ℕ) (c : Command) (op : Op) (stage : StageName) (old mid new : Parts) (going : IsGoing session c op stage old mid) (least : steps ≤ rank stage) (stays : StaysReady mid new) (later : IsLater mid.outside new.outside) where
  abbrev At : Doing
  At = Operating c op stage

  still : IsReady old → KeepsSettled old.outside new.outside
  still ready other settled = stays.settled (going.ready ready) going.on other (going.settled ready other settled)

  settles_still : IsReady old → (before : Op) → left_of (old.doing session) ≡ Some before → (StoreRoseBy 1 old.outside new.outside → ⊥) → IfContents new.outside.told (IsSettledOp before)
  settles_still ready before left calm = stays.settled (going.ready ready) going.on before (going.settles ready before left (λ rose. calm (rose_before old.outside mid.outside new.outside rose later going.later)))

  then_others : (d : Doing) → IsThen mid.doing session d new.doing → (other : ℕ) → (session ≡ other → ⊥) → new.doing other ≡ old.doing other
  then_others d next other apart = next.others other apart ∙ going.others other apart

  gone_served : (r : Reply) (written : Option Text) (rest : Text) → Enters false session event.Go r mid new written rest → Served session c r old new rest
  gone_served r written rest enters = record {
    number = enters.number;
    entered = subst (λ h. IsEntered session c r enters.number h new.history) going.same
        (of_command session c enters.command r enters.number mid.history new.history (subst (λ d. IsOf event.Go d enters.command) going.here enters.of_event) enters.entered);
    left = left_after r op;
    rests = record { here = enters.rests.here ∙ ap (λ d. rest_after event.Go d r) going.here; others = then_others _ enters.rests };
    to_settle = λ ready ok. inr (to_settle ok);
    named = λ ready. still_told mid.outside new.outside (stays.settled (going.ready ready) going.on) _
        (contents_weaker mid.outside.told (IsSteady mid.doing) _ (λ image steady long ok. (λ none. (steady.plain session live here).1 (sym named ∙ none), to_settle ok)) (going.ready ready).steady);
    settles = λ ready before left enough. settles_still ready before left;
    settled = still;
    short = λ short. absurd (not_both (is_long c) going.long short);
    ready = λ ready. stays.ready (going.ready ready);
    keeps = λ ready. core_kept_then (EachReply false) old.outside.told mid.outside.told new.outside.told (seen_of old) (seen_of mid) (seen_of new) rest (going.keeps ready) (enters.keeps (going.ready ready) going.on);
    keeps_to = λ ready. core_kept_to_then old.outside.told mid.outside.told new.outside.told (seen_of old) (seen_of mid) (seen_of new) (going.keeps_to ready) (enters.keeps_to (going.ready ready) going.on);
    fault = λ is. rose_after old.outside mid.outside new.outside going.later (enters.fault is);
  }
    where
      named : enters.number ≡ op.number
      named = subst (λ d. IsNumbered event.Go d enters.command enters.number) going.here enters.numbered

      to_settle : r ≡ reply.Ok → IsToSettle enters.number (left_after r op)
      to_settle ok = (op, sym named, ap (λ x. left_after x op) ok)

      -- its operation is live
      live : Live
      live = record { command = c; op = op; stage = stage }

      here : live_of (mid.doing session) ≡ Some live
      here = ap live_of going.here

      not_both : (b : Bool) → b ≡ true → b ≡ false → ⊥
      not_both b is isnt = let both : true ≡ false = sym is ∙ isnt in absurd cc

  gone_going : (number : ℕ) → Goes session event.Go number mid new → Course (steps + 1) session c old new (Going number)
  gone_going number goes =
      let comes = subst (λ d. ComesTo event.Go d goes.op goes.stage) going.here goes.stage_comes in
      let after = later_stage stage goes.stage comes.1 in (
        goes.op,
        goes.stage,
        omega (arith, least, after.0),
        after.1,
        record {
          here = goes.next.here ∙ ap (λ d. Operating d goes.op goes.stage) (subst (λ d. IsOf event.Go d goes.command) going.here goes.of_event);
          others = then_others _ goes.next;
          same = goes.same ∙ going.same;
          on = goes.on;
          long = going.long;
          settles = settles_still;
          settled = still;
          ready = λ ready. stays.ready (going.ready ready);
          keeps = λ ready. core_kept_then (EachReply false) old.outside.told mid.outside.told new.outside.told (seen_of old) (seen_of mid) (seen_of new) [] (going.keeps ready) (goes.keeps (going.ready ready) going.on false);
          keeps_to = λ ready. core_kept_to_then old.outside.told mid.outside.told new.outside.told (seen_of old) (seen_of mid) (seen_of new) (going.keeps_to ready) (goes.keeps_to (going.ready ready) going.on);
          later = later_then old.outside mid.outside new.outside going.later later;
        },
      )

  gone_by : (outcome : Outcome) → Comes false session event.Go mid new outcome → Course (steps + 1) session c old new outcome
  gone_by (Going number) comes = gone_going number comes
  gone_by (Ended sort) comes = (comes.0, comes.1, comes.2, gone_served comes.0 _ [] comes.3)
  gone_by (Stopped cause.Sink) comes = (comes.0, omega (arith, going.later.sink, comes.2), (comes.3.1, gone_served comes.0 _ comes.3.1 comes.3.2))
  gone_by (Stopped cause.Memory) comes = (comes.0, (_, gone_served comes.0 _ _ comes.2))

pub gone_course : (steps session : ℕ) (c : Command) (old mid new : Parts) (outcome next : Outcome) → Course steps session c old mid outcome → GoesFurther session outcome mid new next → IsLater mid.outside new.outside → Course (steps + 1) session c old new next
gone_course steps session c old mid new (Going number) next course further later =
    gone_by steps session c course.0 course.1 old mid new course.4 course.2 further.1 later next (subst (λ stop. ComesAfter stop false session event.Go mid new next) course.4.on further.0)
gone_course steps session c old mid new (Ended sort) next course further later = subst (λ o. Course (steps + 1) session c old new o) (sym further.0) (subst (λ p. Serves session c old p (Ended sort)) (sym further.1) course)
gone_course steps session c old mid new (Stopped why) next course further later = subst (λ o. Course (steps + 1) session c old new o) (sym further.0) (subst (λ p. Serves session c old p (Stopped why)) (sym further.1) course)
