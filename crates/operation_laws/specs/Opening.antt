-- That a command's token opens the mappings that its operation replaces, and which connections it ends.
use Rattle.std.specs.Prelude.{◌≡◌, ◌⊎◌, None, Option}
use Rattle.cell_world.specs.Lists.{IsOneOf}
use Rattle.cell_world.specs.Plain.{PlainState, Connections}
use Rattle.cell_world.specs.Spelled.{listed}
use Rattle.cell_world.specs.declared.cells.Token.{Token}
use Rattle.cell_world.specs.declared.operations.Extra.TheVariants as extra
use Rattle.cell_world.specs.declared.operations.Op.{Op}
use Rattle.cell_world.specs.declared.operations.Piece.{Piece}
use Rattle.plain_model.specs.declared.commands.Command.{Command}
use Rattle.plain_model.specs.declared.commands.Command.TheVariants as command
use Rattle.plain_model.specs.Refusing.{mapping_of}
use Rattle.plain_model.specs.Steps.{ended_under}

-- Said of the command and its operation alone, so no event changes it.
pub record Opens (token : Option Token) (op : Op) : Type 0 where
  -- each old mapping has no token, or this one
  pub olds : (p : Piece) → IsOneOf (listed op.olds) p → (p.token ≡ None) ⊎ (p.token ≡ token)
  -- and the operation is of no job
  pub no_job : op.extra ≡ extra.None

-- who is connected once the command is done: `offline` ends the connections to its mapping
abbrev pub ends_with : PlainState → Command → Connections
ends_with s (command.Offline name key token) = ended_under (mapping_of s name key) s.connections
ends_with s other = s.connections
