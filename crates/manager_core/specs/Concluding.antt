-- What comes of an event before its entry is made and its lines are written.
use Rattle.std.specs.Prelude.{◌≡◌, ℕ, Option, Some, None, IfSome}
use Rattle.cell_world.specs.Outside.{Outside, IsLater, StoreRoseBy}
use Rattle.global_tables.specs.Known.{Known}
use Rattle.plain_model.specs.declared.commands.Command.{Command}
use Rattle.plain_model.specs.declared.replies.Reply.{Reply}
use Rattle.plain_model.specs.declared.replies.Reply.TheVariants as reply
use Rattle.operation_laws.specs.LiveNumbers.{HasLive}
use Rattle.session_laws.specs.Doing.{AllDoing, IsThen}
use Rattle.manager_core.specs.declared.coming.Came.{Came}
use Rattle.manager_core.specs.declared.manager.Event.{Event}
use Rattle.manager_core.specs.declared.manager.Event.TheVariants as event
use Rattle.manager_core.specs.Answering.{IsCopy}
use Rattle.manager_core.specs.Coming.{ComesOfAsking, GoesOn}
use Rattle.manager_core.specs.Cores.{Parts, IsReady}
use Rattle.manager_core.specs.Events.{IsOf, IsNumbered, MayEnd, HasCause, Settles, rest_after}
use Rattle.manager_core.specs.Steady.{AreSteady, Ends}

-- ---- the copy of the tables

-- A command was asked with the copy of the tables that the core had, or with what was read where it had none.
pub record ComesWithTables (session : ℕ) (c : Command) (came : Came) (known fresh : Option Known) (before after : AllDoing) (old new : Outside) : Type 0 where
  pub copy : Known  -- with which it was planned
  pub last : Known  -- as that is afterwards
  -- it is what the global cells say, if what the core had is
  pub is_copy : AreSteady before old → IfSome known (λ k. IsCopy k old.told) → IsCopy copy old.told
  -- the core keeps the last, or none
  pub keeps : IfSome fresh (λ k. k ≡ last)
  pub comes : ComesOfAsking session c came copy last before after old new

-- After `fault` nothing is assumed of the copy: the tables are read again.
abbrev pub known_after : Reply → Option Known → Option Known
known_after reply.Fault known = None
known_after other known = known

-- ---- an event

abbrev pub ComesOfEvent : ℕ → Event → Came → Parts → Parts → Type 0
ComesOfEvent session (event.Ask c) came old now = ComesWithTables session c came old.known now.known old.doing now.doing old.outside now.outside
ComesOfEvent session event.Go came old now = (now.known ≡ old.known) × GoesOn session came old.doing now.doing old.outside now.outside

-- A command was asked, or one that was going went on. No entry came yet.
pub record ComesOf (session : ℕ) (e : Event) (came : Came) (old now : Parts) : Type 0 where
  pub same : now.history ≡ old.history
  pub on : now.stop ≡ old.stop
  pub comes : ComesOfEvent session e came old now

-- From the parts before the event it came to these: the command of the session ended with this reply, and its entry, which names the operation of this number or 0, comes next.
pub record Waiting (session : ℕ) (e : Event) (c : Command) (r : Reply) (number : ℕ) (old now : Parts) : Type 0 where
  pub on : old.stop ≡ None
  pub of_event : IsOf e (old.doing session) c
  -- its session rests, and the others do what they did
  pub rests : IsThen old.doing session (rest_after e (old.doing session) r) now.doing
  pub may_end : MayEnd e r
  pub numbered : IsNumbered e (old.doing session) c number
  pub waits_for : (other : ℕ) → r ≡ reply.Pending other → HasLive old.doing other
  -- its world is the same one, later, and no entry came yet
  pub later : IsLater old.outside now.outside
  pub same : now.history ≡ old.history
  -- why it is that reply, and what was settled
  pub has_cause : IsReady old → HasCause e (old.doing session) session c (Some r) number old now.outside.told
  pub settles : IsReady old → Settles e (old.doing session) (Some r) old now
  pub fault : r ≡ reply.Fault → StoreRoseBy 1 old.outside now.outside
  -- the copy of the tables with which it came to that, and as it is afterwards, if the core keeps one
  pub copy : Known
  pub last : Known
  pub is_copy : IsReady old → IsCopy copy old.outside.told
  pub keeps : IfSome now.known (λ k. k ≡ last)
  -- and the core goes on with the entry
  pub ends : Ends session c r number copy last old.outside now.outside old.doing now.doing
