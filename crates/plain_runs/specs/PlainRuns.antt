-- A run of commands by the plain step alone, one after the other.
use Rattle.std.specs.Prelude.{◌≡◌, Bool, true, false, List, [], ◌∷◌, map, Some}
use Rattle.cell_world.specs.Images.{Image}
use Rattle.cell_world.specs.Plain.{PlainState, holds_nothing, nobody, with_connections}
use Rattle.cell_world.specs.Meaning.{meaning}
use Rattle.plain_model.specs.declared.commands.Asked.{Asked}
use Rattle.plain_model.specs.declared.commands.Command.{Command}
use Rattle.plain_model.specs.declared.commands.Command.TheVariants as command
use Rattle.plain_model.specs.declared.history.Entry.{Entry}
use Rattle.plain_model.specs.declared.replies.Reply.{Reply}
use Rattle.plain_model.specs.Steps.{plain_step}

-- ---- which commands are the plain step's

-- The commands whose reply is always that of the plain step, but for failed calls, want of memory and other sessions.
-- Not so: `peek`; `step` and `run`, which make many steps; `detach` and `attach`, after which a site holds what the state doesn't tell; and those that take an operation number, of which none may be left.
abbrev pub is_plain : Command → Bool
is_plain (command.Peek name key) = false
is_plain (command.Step number) = false
is_plain (command.Run number) = false
is_plain (command.Detach location) = false
is_plain (command.Attach location) = false
is_plain (command.Add name low high location) = false
is_plain (command.Addpoint name key location) = false
is_plain (command.Delete name key token) = false
is_plain (command.Offline name key token) = false
is_plain (command.Online name key token) = false
is_plain (command.Move name key location token) = false
is_plain (command.Split name key token) = false
is_plain (command.Merge name key token) = false
is_plain other = true

-- ---- the run

-- the state after the commands
abbrev pub plain_state : PlainState → List Asked → PlainState
plain_state s [] = s
plain_state s (asked ∷ script) = plain_state (plain_step holds_nothing s asked.session asked.command).0 script

-- their replies
abbrev pub plain_replies : PlainState → List Asked → List Reply
plain_replies s [] = []
plain_replies s (asked ∷ script) = (plain_step holds_nothing s asked.session asked.command).1 ∷ plain_replies (plain_step holds_nothing s asked.session asked.command).0 script

-- ---- a history that is such a run

-- the entry is the command's answer
pub record IsAnswerTo (asked : Asked) (e : Entry) : Type 0 where
  pub session : e.session ≡ asked.session  -- it is of the session that asked
  pub command : e.command ≡ asked.command  -- of the command that was asked
  pub answer : Reply  -- which got a reply
  pub reply : e.reply ≡ Some answer
  pub operation : e.operation ≡ 0  -- the command is no operation

-- the entries answer these commands, one each, in order
abbrev pub AreAnswersTo : List Asked → List Entry → Type 0
AreAnswersTo [] [] = Unit {0}
AreAnswersTo [] (e ∷ es) = ⊥
AreAnswersTo (asked ∷ script) [] = ⊥
AreAnswersTo (asked ∷ script) (e ∷ es) = IsAnswerTo asked e × AreAnswersTo script es

-- Each command was answered as the plain step answers it, one after the other, and the stores stand for the state that these steps leave.
pub record IsPlainRun (script : List Asked) (first last : Image) (history : List Entry) : Type 0 where
  -- one entry a command
  pub answers : AreAnswersTo script history
  -- with its reply
  pub replies : map (λ (e : Entry). e.reply) history ≡ map Some (plain_replies (meaning first) script)
  -- from what the stores stood for first to what they stand for at last
  pub state : meaning last ≡ with_connections (plain_state (meaning first) script) nobody
