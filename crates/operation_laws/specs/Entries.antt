-- The entry that ends a command of one operation.
use Rattle.std.specs.Prelude.{◌≡◌, ℕ, Some}
use Rattle.cell_world.specs.Images.{Image}
use Rattle.cell_world.specs.Marked.{committed_image}
use Rattle.cell_world.specs.Meaning.{meaning}
use Rattle.cell_world.specs.Plain.{Connections, Held, with_connections}
use Rattle.cell_world.specs.declared.operations.Op.{Op}
use Rattle.plain_model.specs.declared.commands.Command.{Command}
use Rattle.plain_model.specs.declared.commands.Command.TheVariants as command
use Rattle.plain_model.specs.declared.history.Entry.{Entry}
use Rattle.plain_model.specs.declared.replies.Reply.{Reply}
use Rattle.plain_model.specs.declared.replies.Reply.TheVariants as reply
use Rattle.plain_model.specs.Steps.{plain_step}

-- a command that is one operation, and ends no connection
abbrev pub EndsNone : Command → Type 0
EndsNone (command.Add name low high location) = Unit {0}
EndsNone (command.Addpoint name key location) = Unit {0}
EndsNone (command.Delete name key token) = Unit {0}
EndsNone (command.Online name key token) = Unit {0}
EndsNone (command.Move name key location token) = Unit {0}
EndsNone (command.Split name key token) = Unit {0}
EndsNone (command.Merge name key token) = Unit {0}
EndsNone other = ⊥

-- one that is one operation
abbrev pub IsOneOperation : Command → Type 0
IsOneOperation (command.Offline name key token) = Unit {0}
IsOneOperation other = EndsNone other

-- The entry answers the command with this reply, and names the operation.
pub record Names (e : Entry) (c : Command) (number : ℕ) (r : Reply) : Type 0 where
  pub command : e.command ≡ c
  pub operation : e.operation ≡ number
  pub reply : e.reply ≡ Some r

-- The plain step of a session's command leads from what the stores stand for to what they stand for once the operation is committed, and answers `ok`.
pub record FollowsAtCommit (session : ℕ) (c : Command) (image : Image) (op : Op) (before after : Connections) : Type 0 where
  pub held : Held
  pub step : plain_step held (with_connections (meaning image) before) session c ≡ (with_connections (meaning (committed_image image op)) after, reply.Ok)

-- a command that adds a mapping
abbrev pub IsAdding : Command → Type 0
IsAdding (command.Add name low high location) = Unit {0}
IsAdding (command.Addpoint name key location) = Unit {0}
IsAdding other = ⊥
