-- How the commands of a script are run, one after the other.
use Rattle.std.specs.Prelude.{◌≡◌, ◌⊎◌, ℕ, true, false, List, [], ◌∷◌, ◌++◌, Some}
use Rattle.std.specs.List.{AllByRecursion}
use Rattle.cell_world.specs.Outside.{IfContents, IsLater, StoreRoseBy}
use Rattle.cell_world.specs.Texts.{Text}
use Rattle.cell_world.specs.declared.operations.Op.{Op}
use Rattle.map_ops.specs.Planning.{is_asked}
use Rattle.plain_model.specs.declared.commands.Asked.{Asked}
use Rattle.plain_model.specs.declared.finish.RunStatus.{RunStatus}
use Rattle.plain_model.specs.declared.history.Entry.{Entry}
use Rattle.plain_model.specs.declared.replies.Reply.{Reply}
use Rattle.plain_model.specs.declared.replies.Reply.TheVariants as reply
use Rattle.plain_model.specs.Headline.{EndsWithMemory, StatusCause, faults, has_stopped, is_done}
use Rattle.plain_model.specs.RunSoFar.{EndsWritten}
use Rattle.plain_model.specs.Written.{EachReply}
use Rattle.operation_laws.specs.Left.{left_of}
use Rattle.session_laws.specs.Contract.{KeepsCore, KeepsCoreTo}
use Rattle.manager_core.specs.Cores.{Parts, IsReady, seen_of}
use Rattle.manager_core.specs.Events.{IsResting}
use Rattle.manager_core.specs.Steady.{IsSettledOp}
use Rattle.script_shell.specs.Promises.{no_causes, is_of_commands, IsUnnumbered, IsNamed}

-- what a script asks: commands that may be asked, of session 1
abbrev pub IsAskedAlone : Asked → Type 0
IsAskedAlone asked = (is_asked asked.command ≡ true) × (asked.session ≡ 1)

-- ---- the entries

-- the entry is the command's answer
pub record IsServedBy (asked : Asked) (e : Entry) : Type 0 where
  pub session : e.session ≡ asked.session  -- it is of the session that asked
  pub command : e.command ≡ asked.command  -- of the command that was asked
  pub answer : Reply  -- which got a reply
  pub reply : e.reply ≡ Some answer

-- the entries answer these commands, one each, in order
abbrev pub AreServed : List Asked → List Entry → Type 0
AreServed [] [] = Unit {0}
AreServed [] (e ∷ es) = ⊥
AreServed (asked ∷ script) [] = ⊥
AreServed (asked ∷ script) (e ∷ es) = IsServedBy asked e × AreServed script es

-- the operation of a command that was done is settled, or its session has it to settle
abbrev pub IsSettledOrLeft : Parts → Entry → Type 0
IsSettledOrLeft p e = e.reply ≡ Some reply.Ok → (e.operation ≡ 0 → ⊥) → (op : Op) × (op.number ≡ e.operation) × (IfContents p.outside.told (IsSettledOp op) ⊎ (left_of (p.doing 1) ≡ Some op))

-- ---- all commands

-- How the commands of a script were run, before the last one's operation is settled.
pub record Ran (script : List Asked) (old new : Parts) (ending : RunStatus) : Type 0 where
  -- those that were answered, and those that weren't: none, unless the run stopped
  pub done : List Asked
  pub rest : List Asked
  pub split : script ≡ done ++ rest
  pub answered : AreServed done new.history
  pub all : has_stopped ending ≡ false → rest ≡ []
  -- all their lines are written, or the run stopped at those of the last
  pub unwritten : Text
  pub written : EndsWritten unwritten ending new.history
  -- the core goes on, and nothing is going
  pub resting : (session : ℕ) → IsResting (new.doing session)
  pub ready : IsReady old → IsReady new
  pub keeps : IsReady old → KeepsCore (EachReply false) old.outside.told (seen_of old) new.outside.told (seen_of new) unwritten
  pub keeps_to : IsReady old → KeepsCoreTo old.outside.told (seen_of old) new.outside.told (seen_of new)
  -- a short command names no operation
  pub numbered : AllByRecursion IsUnnumbered new.history
  -- a long command that was done names one, where contents are told
  pub named : IsReady old → IfContents new.outside.told (λ image. AllByRecursion IsNamed new.history)
  -- with status 0 or 1 an operation is settled, or to be settled
  pub settled : is_done ending ≡ true → IsReady old → (StoreRoseBy 1 old.outside new.outside → ⊥) → AllByRecursion (IsSettledOrLeft new) new.history
  -- what the status says
  pub cause : StatusCause no_causes old.outside new.outside new.history ending
  pub of_commands : is_of_commands ending ≡ true
  pub few_faults : StoreRoseBy (faults new.history) old.outside new.outside
  pub ends_with_memory : EndsWithMemory new.history
  -- the world is the same one later
  pub later : IsLater old.outside new.outside
