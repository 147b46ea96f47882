-- How one command is run to its end: it is asked, and while it is going it goes on.
use Rattle.std.specs.Prelude.{◌≡◌, ◌⊎◌, ℕ, true, false, [], Option, Some}
use Rattle.cell_world.specs.Texts.{Text}
use Rattle.cell_world.specs.Counts.{Rose}
use Rattle.cell_world.specs.Outside.{IfContents, StoreRoseBy}
use Rattle.cell_world.specs.declared.operations.Op.{Op}
use Rattle.map_ops.specs.Planning.{is_long}
use Rattle.plain_model.specs.declared.commands.Command.{Command}
use Rattle.plain_model.specs.declared.replies.Reply.{Reply}
use Rattle.plain_model.specs.declared.replies.Reply.TheVariants as reply
use Rattle.plain_model.specs.Summary.{sort_of}
use Rattle.plain_model.specs.Written.{EachReply}
use Rattle.operation_laws.specs.Left.{left_of}
use Rattle.session_laws.specs.Contract.{KeepsCore, KeepsCoreTo}
use Rattle.session_laws.specs.Doing.{Doing, Resting, IsThen}
use Rattle.manager_core.specs.declared.manager.Event.TheVariants as event
use Rattle.manager_core.specs.declared.manager.Outcome.{Outcome}
use Rattle.manager_core.specs.declared.manager.Outcome.TheVariants.{Going, Ended, Stopped}
use Rattle.manager_core.specs.declared.manager.StopCause.TheVariants as cause
use Rattle.manager_core.specs.Cores.{Parts, IsReady, seen_of}
use Rattle.manager_core.specs.Events.{ComesAfter, IsEntered, IsOperating, StaysReady, stop_after}
use Rattle.manager_core.specs.Steady.{IsSettledOp, KeepsSettled}

-- ---- one step more

-- a command that is going has a live operation
abbrev pub IsUnderWay : Outcome → Doing → Type 0
IsUnderWay (Going number) doing = IsOperating doing
IsUnderWay other doing = Unit {0}

-- A command that is going goes on by one event; for another nothing is done.
abbrev pub GoesFurther : ℕ → Outcome → Parts → Parts → Outcome → Type 0
GoesFurther session (Going number) old new next = ComesAfter old.stop false session event.Go old new next × StaysReady old new
GoesFurther session other old new next = (next ≡ other) × (new ≡ old)

-- ---- a whole command

-- The operation of this number is what the session has left to settle.
abbrev pub IsToSettle : ℕ → Option Op → Type 0
IsToSettle number left = (op : Op) × (op.number ≡ number) × (left ≡ Some op)

-- What was done for a command between its asking and its reply: its entry was added, and these lines are still to be written.
pub record Served (session : ℕ) (c : Command) (r : Reply) (old new : Parts) (unwritten : Text) : Type 0 where
  pub number : ℕ
  pub entered : IsEntered session c r number old.history new.history
  -- its session rests, with this to settle, and the others do what they did
  pub left : Option Op
  pub rests : IsThen old.doing session (Resting left) new.doing
  -- the operation of a command that was done is to be settled
  pub to_settle : IsReady old → r ≡ reply.Ok → (number ≡ 0) ⊎ IsToSettle number left
  -- a long command that was done has one, where contents are told
  pub named : IsReady old → IfContents new.outside.told (λ image. is_long c ≡ true → r ≡ reply.Ok → (number ≡ 0 → ⊥) × IsToSettle number left)
  -- what its session had left before is settled, unless memory was short or a store failed; and what was settled stays so
  pub settles : IsReady old → (op : Op) → left_of (old.doing session) ≡ Some op → (r ≡ reply.Memory → ⊥) → (StoreRoseBy 1 old.outside new.outside → ⊥) → IfContents new.outside.told (IsSettledOp op)
  pub settled : IsReady old → KeepsSettled old.outside new.outside
  -- a command that is no long one has no operation
  pub short : is_long c ≡ false → number ≡ 0
  -- the core goes on
  pub ready : IsReady old → IsReady new
  pub keeps : IsReady old → KeepsCore (EachReply false) old.outside.told (seen_of old) new.outside.told (seen_of new) unwritten
  pub keeps_to : IsReady old → KeepsCoreTo old.outside.told (seen_of old) new.outside.told (seen_of new)
  -- a fault has its cause
  pub fault : r ≡ reply.Fault → StoreRoseBy 1 old.outside new.outside

-- By the outcome: the command was answered, and all lines are written; or the core stopped at its lines. It is going no more.
abbrev pub Serves : ℕ → Command → Parts → Parts → Outcome → Type 0
Serves session c old new (Going number) = ⊥
Serves session c old new (Ended sort) = (r : Reply) × (sort ≡ sort_of r) × (new.stop ≡ stop_after r) × Served session c r old new []
Serves session c old new (Stopped cause.Sink) = (r : Reply) × Rose old.outside.sink_faults new.outside.sink_faults × ((unwritten : Text) × Served session c r old new unwritten)
Serves session c old new (Stopped cause.Memory) = (r : Reply) × ((unwritten : Text) × Served session c r old new unwritten)
