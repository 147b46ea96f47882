-- The parts of the event of a command that is asked.
use Rattle.std.specs.Prelude.{◌≡◌, ℕ, true, List, Option, Some, None, Result, Ok, Err}
use Rattle.cell_world.specs.Images.{Image, after_one, global}
use Rattle.cell_world.specs.Meaning.{next_operation}
use Rattle.cell_world.specs.Outside.{Outside, IfContents, StoreRoseBy}
use Rattle.cell_world.specs.declared.changes.Edit.{Edit}
use Rattle.cell_world.specs.declared.operations.Reach.{Reach}
use Rattle.global_tables.specs.Known.{Known, known_of}
use Rattle.global_tables.specs.declared.faults.StepFault.{StepFault}
use Rattle.map_ops.specs.Planning.{NoneInWay}
use Rattle.plain_model.specs.ShortCommands.{is_short, short_commit, IsShortChange}
use Rattle.op_log.specs.ShortChanges.{ShortChange}
use Rattle.operation_laws.specs.LiveNumbers.{HasLive}
use Rattle.plain_model.specs.declared.commands.Command.{Command}
use Rattle.plain_model.specs.declared.replies.Reply.{Reply}
use Rattle.plain_model.specs.declared.replies.Reply.TheVariants as reply
use Rattle.session_laws.specs.Doing.{AllDoing, Resting}
use Rattle.manager_core.specs.Answering.{IsCopy}
use Rattle.manager_core.specs.Coming.{AsksExactly, ClearStep, HappensAsking, IsFirstInWay, IsInWay, IsTidied, OrStops, TriesFor}
use Rattle.manager_core.specs.Steady.{IsSteady, AreSteady, Becomes, Ends}

-- ---- the way of a short command

-- By the answer: no session's live operation is in the way, and then no logged one is; or nothing happened, and this one is, the first; or a fault.
abbrev pub FindsWay : AllDoing → Reach → Result (Option ℕ) StepFault → Outside → Outside → Type 0
FindsWay before reached (Ok None) old new = IfContents old.told (λ image. (number : ℕ) → IsInWay before reached number → ⊥) × IfContents new.told (λ image. NoneInWay image reached)
FindsWay before reached (Ok (Some number)) old new = (new.told ≡ old.told) × IfContents old.told (λ image. IsFirstInWay before reached number)
FindsWay before reached (Err fault) old new = Unit {0}

-- over any world the number that is answered is that of a live operation
abbrev pub FindsLive : AllDoing → Result (Option ℕ) StepFault → Type 0
FindsLive before (Ok None) = Unit {0}
FindsLive before (Ok (Some number)) = HasLive before number
FindsLive before (Err fault) = Unit {0}

-- The way was cleared, in part or whole, or nothing was done: beside sessions that do this.
pub record ClearsFor (before : AllDoing) (reached : Reach) (result : Result (Option ℕ) StepFault) (old new : Outside) : Type 0 where
  -- the core goes on, and the sessions do what they did
  pub becomes : Becomes old new before before
  -- abandoned operations were undone, and nothing else happened
  pub tidied : AreSteady before old → IsTidied (ClearStep before reached) old.told new.told
  pub live : FindsLive before result
  pub way : AreSteady before old → FindsWay before reached result old new

-- ---- the change of a short command

-- The change may be made on this image: it makes what the plain step makes, for any session, and is one of the short changes, in no logged operation's way.
pub record MayMake (c : Command) (change : List Edit) (image : Image) : Type 0 where
  pub changes : (session : ℕ) → IsShortChange session c change reply.Ok image
  pub reached : Reach
  pub short : ShortChange image reached (after_one image (short_commit change true))
  pub none : NoneInWay image reached

-- The change was made, and then the answer is `ok`; or it may be made, and it is `fault`; or it isn't, and it is `memory`.
pub record MakesChange (change : List Edit) (answered : Reply) (known fresh : Known) (old new : Outside) : Type 0 where
  pub answers : OrStops (Some answered) reply.Ok
  -- where it leaves the next number
  pub tries : IfContents old.told (λ image. next_operation (after_one image (short_commit change true)) ≡ next_operation image) → TriesFor (Some answered) 0 old.told new.told
  -- where it may be made the entry of whatever session that rests comes next
  pub ends : (session : ℕ) (c : Command) (before : AllDoing) → is_short c ≡ true → before session ≡ Resting None
      → IfContents old.told (λ image. IsSteady before image → known ≡ known_of (global image) → MayMake c change image) → Ends session c answered 0 known fresh old new before before
  -- a fault has its cause
  pub cause : answered ≡ reply.Fault → StoreRoseBy 1 old new

-- ---- a command that is answered in the event in which it is asked

-- The sessions do afterwards what they did, and its entry names no operation.
pub record AnswersNow (c : Command) (r : Reply) (known fresh : Known) (before : AllDoing) (old new : Outside) : Type 0 where
  -- the entry of whatever session that rests comes next
  pub ends : (session : ℕ) → before session ≡ Resting None → Ends session c r 0 known fresh old new before before
  -- this happened of the stores
  pub happens : (session : ℕ) → AreSteady before old → IsCopy known old.told → HappensAsking before session c (Some r) 0 old.told new.told
  -- it was answered as the tables and the other sessions say
  pub exact : (session : ℕ) → AreSteady before old → IsCopy known old.told → IfContents old.told (AsksExactly before session c (Some r))
  -- it waits for a live operation
  pub waits_for : (other : ℕ) → r ≡ reply.Pending other → HasLive before other
  -- a fault has its cause
  pub cause : r ≡ reply.Fault → StoreRoseBy 1 old new
