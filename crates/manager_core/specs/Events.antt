-- What an event does.
use Rattle.std.specs.Prelude.{◌≡◌, ℕ, Bool, true, false, List, [], ◌∷◌, ◌++◌, Option, Some, None}
use Rattle.cell_world.specs.Texts.{Text}
use Rattle.cell_world.specs.Counts.{Rose}
use Rattle.cell_world.specs.Images.{Wrote}
use Rattle.cell_world.specs.Outside.{Told, IfContents, StoreRoseBy, told_after}
use Rattle.cell_world.specs.declared.operations.Op.{Op}
use Rattle.cell_world.specs.declared.operations.StageName.{StageName}
use Rattle.cell_world.specs.declared.operations.StageName.TheVariants.{Logged}
use Rattle.map_ops.specs.Planning.{is_asked, is_long}
use Rattle.operation_laws.specs.LiveNumbers.{HasLive}
use Rattle.plain_model.specs.declared.commands.Command.{Command}
use Rattle.plain_model.specs.declared.history.Entry.{Entry}
use Rattle.plain_model.specs.declared.replies.Reply.{Reply}
use Rattle.plain_model.specs.declared.replies.Reply.TheVariants as reply
use Rattle.plain_model.specs.Lines.{reply_lines, tag_of}
use Rattle.plain_model.specs.Summary.{sort_of}
use Rattle.plain_model.specs.Written.{EachReply}
use Rattle.session_laws.specs.Contract.{KeepsCore, KeepsCoreTo}
use Rattle.session_laws.specs.Doing.{Doing, Resting, Operating, IsThen}
use Rattle.manager_core.specs.declared.manager.Event.{Event}
use Rattle.manager_core.specs.declared.manager.Event.TheVariants as event
use Rattle.manager_core.specs.declared.manager.Outcome.{Outcome}
use Rattle.manager_core.specs.declared.manager.Outcome.TheVariants.{Going, Ended, Stopped}
use Rattle.manager_core.specs.declared.manager.StopCause.{StopCause}
use Rattle.manager_core.specs.declared.manager.StopCause.TheVariants as cause
use Rattle.manager_core.specs.Coming.{HappensAsking, HappensGoing, AsksExactly, SettlesLeft, IsBefore, IsEndOfGoing, left_after}
use Rattle.manager_core.specs.Cores.{Parts, IsReady, seen_of}
use Rattle.manager_core.specs.Steady.{KeepsSettled}

-- ---- which event may come

-- nothing is going
abbrev pub IsResting : Doing → Type 0
IsResting (Resting left) = Unit {0}
IsResting other = ⊥

-- a command is going, and its operation is live
abbrev pub IsOperating : Doing → Type 0
IsOperating (Operating c op stage) = Unit {0}
IsOperating other = ⊥

-- A session that rests may ask a command, and one that has something going may go on.
abbrev pub MayCome : Event → Doing → Type 0
MayCome (event.Ask c) doing = (is_asked c ≡ true) × IsResting doing
MayCome event.Go doing = IsOperating doing

-- The event is of this command: it is asked, or it is what is going.
abbrev pub IsOf : Event → Doing → Command → Type 0
IsOf (event.Ask asked) doing c = c ≡ asked
IsOf event.Go (Operating going op stage) c = c ≡ going
IsOf event.Go other c = ⊥

-- ---- an entry

-- The session's command was answered so: its entry stands at the end of the history.
pub record IsEntered (session : ℕ) (c : Command) (r : Reply) (number : ℕ) (before after : List Entry) : Type 0 where
  pub entry : Entry
  pub of_session : entry.session ≡ session
  pub command : entry.command ≡ c
  pub answered : entry.reply ≡ Some r
  pub operation : entry.operation ≡ number  -- its operation's number, once the log row was tried, and 0 before
  pub added : after ≡ before ++ entry ∷ []  -- it is the only new one

-- ---- what an event comes to

-- the bytes that were written
abbrev pub front_of : Option Text → Text
front_of None = []
front_of (Some front) = front

-- what happens of the output: this is written by one write; or nothing is
abbrev pub WritesOnce : Option Text → Told → Told → Type 0
WritesOnce None old new = new ≡ old
WritesOnce (Some front) old new = new ≡ told_after old (Wrote front)

-- What happens of the stores, until a reply is there or the operation has come to a further stage, and why it is that reply.
abbrev pub HasCause : Event → Doing → ℕ → Command → Option Reply → ℕ → Parts → Told → Type 0
HasCause (event.Ask asked) doing session c came number old between = HappensAsking old.doing session c came number old.outside.told between × IfContents old.outside.told (AsksExactly old.doing session c came)
HasCause event.Go (Operating going op stage) session c came number old between = (number ≡ op.number) × HappensGoing op came old.outside.told between
HasCause event.Go other session c came number old between = ⊥

-- The number is 0 for a command that is no operation, and for one that goes on that of its operation.
abbrev pub IsNumbered : Event → Doing → Command → ℕ → Type 0
IsNumbered (event.Ask asked) doing c number = is_long c ≡ false → number ≡ 0
IsNumbered event.Go (Operating going op stage) c number = number ≡ op.number
IsNumbered event.Go other c number = ⊥

-- What an asking session had left to settle is settled; one that goes on has nothing left.
abbrev pub Settles : Event → Doing → Option Reply → Parts → Parts → Type 0
Settles (event.Ask asked) doing came old new = SettlesLeft doing came old.outside new.outside
Settles event.Go doing came old new = Unit {0}

-- What the session does once its command is answered: it rests, and an operation that was committed is left to be settled.
abbrev pub rest_after : Event → Doing → Reply → Doing
rest_after (event.Ask asked) doing r = Resting None
rest_after event.Go (Operating going op stage) r = Resting (left_after r op)
rest_after event.Go other r = Resting None

-- a command that goes on ends with `ok`, `fault` or `memory`
abbrev pub MayEnd : Event → Reply → Type 0
MayEnd (event.Ask asked) r = Unit {0}
MayEnd event.Go r = IsEndOfGoing r

-- The run goes on with the entry; of its lines so much was written, and this rest is still to be written.
pub record Enters (tagged : Bool) (session : ℕ) (e : Event) (r : Reply) (old new : Parts) (written : Option Text) (rest : Text) : Type 0 where
  pub command : Command
  pub of_event : IsOf e (old.doing session) command
  pub number : ℕ
  pub entered : IsEntered session command r number old.history new.history
  -- its session rests, and the others do what they did
  pub rests : IsThen old.doing session (rest_after e (old.doing session) r) new.doing
  pub may_end : MayEnd e r
  pub numbered : IsNumbered e (old.doing session) command number
  -- it waits for a live operation, so for none where every other session rests
  pub waits_for : (other : ℕ) → r ≡ reply.Pending other → HasLive old.doing other
  -- what was written and the rest are the lines of the reply
  pub lines : front_of written ++ rest ≡ reply_lines (tag_of tagged session) r
  -- the transactions come first, and then the one write
  pub between : Told
  pub has_cause : IsReady old → old.stop ≡ None → HasCause e (old.doing session) session command (Some r) number old between
  pub writes : WritesOnce written between new.outside.told
  pub settles : IsReady old → Settles e (old.doing session) (Some r) old new
  -- whatever the core was on its trail, it goes on so
  pub keeps : IsReady old → old.stop ≡ None → KeepsCore (EachReply tagged) old.outside.told (seen_of old) new.outside.told (seen_of new) rest
  -- and by contents alone
  pub keeps_to : IsReady old → old.stop ≡ None → KeepsCoreTo old.outside.told (seen_of old) new.outside.told (seen_of new)
  -- a fault has its cause: the store count rose
  pub fault : r ≡ reply.Fault → StoreRoseBy 1 old.outside new.outside

-- ---- a command that goes on

-- The operation has come to this stage by the event: it was begun, or it was at an earlier one.
abbrev pub ComesTo : Event → Doing → Op → StageName → Type 0
ComesTo (event.Ask asked) doing op stage = stage ≡ Logged
ComesTo event.Go (Operating going before earlier) op stage = (op ≡ before) × IsBefore earlier stage
ComesTo event.Go other op stage = ⊥

-- By one transaction its operation was logged, or made one local step; nothing is entered or written.
pub record Goes (session : ℕ) (e : Event) (number : ℕ) (old new : Parts) : Type 0 where
  pub command : Command
  pub of_event : IsOf e (old.doing session) command
  pub op : Op
  pub named : op.number ≡ number
  pub stage : StageName
  pub stage_comes : ComesTo e (old.doing session) op stage
  -- its session has it live, and the others do what they did
  pub next : IsThen old.doing session (Operating command op stage) new.doing
  pub same : new.history ≡ old.history
  pub on : new.stop ≡ None
  pub has_cause : IsReady old → old.stop ≡ None → HasCause e (old.doing session) session command None number old new.outside.told
  pub settles : IsReady old → Settles e (old.doing session) None old new
  pub keeps : IsReady old → old.stop ≡ None → (tagged : Bool) → KeepsCore (EachReply tagged) old.outside.told (seen_of old) new.outside.told (seen_of new) []
  pub keeps_to : IsReady old → old.stop ≡ None → KeepsCoreTo old.outside.told (seen_of old) new.outside.told (seen_of new)

-- ---- outcomes

-- With `memory` the core stops.
abbrev pub stop_after : Reply → Option StopCause
stop_after reply.Memory = Some cause.Memory
stop_after other = None

-- The operation goes on; or the command is answered and all lines are written; or the entry stands and the core stops, with a front of the lines written where a write failed, and nothing written where it found no memory.
abbrev pub Comes : Bool → ℕ → Event → Parts → Parts → Outcome → Type 0
Comes tagged session e old new (Going number) = Goes session e number old new
Comes tagged session e old new (Ended sort) = (r : Reply) × (sort ≡ sort_of r) × (new.stop ≡ stop_after r) × Enters tagged session e r old new (Some (reply_lines (tag_of tagged session) r)) []
Comes tagged session e old new (Stopped cause.Sink) = (r : Reply) × (new.stop ≡ Some cause.Sink) × Rose old.outside.sink_faults new.outside.sink_faults × ((front rest : Text) × Enters tagged session e r old new (Some front) rest)
Comes tagged session e old new (Stopped cause.Memory) = (r : Reply) × (new.stop ≡ Some cause.Memory) × Enters tagged session e r old new None (reply_lines (tag_of tagged session) r)

-- A core that stopped answers so again, and does nothing.
abbrev pub ComesAfter : Option StopCause → Bool → ℕ → Event → Parts → Parts → Outcome → Type 0
ComesAfter (Some why) tagged session e old new outcome = (outcome ≡ Stopped why) × (new ≡ old)
ComesAfter None tagged session e old new outcome = Comes tagged session e old new outcome

-- Whatever comes, the stores stay ready, and what is settled stays so.
pub record StaysReady (old new : Parts) : Type 0 where
  pub ready : IsReady old → IsReady new
  pub settled : IsReady old → old.stop ≡ None → KeepsSettled old.outside new.outside
