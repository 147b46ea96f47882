-- Where nobody is connected a command ends no connection; and which commands end some.
use Rattle.std.proofs.Common.{◌≡◌, ◌⊎◌, inl, inr, true, refl, Option, Some, None}
use Rattle.cell_world.specs.Texts.{Text}
use Rattle.cell_world.specs.Plain.{PlainState, nobody, with_connections}
use Rattle.cell_world.specs.declared.cells.Token.{Token}
use Rattle.cell_world.specs.declared.operations.Piece.{Piece}
use Rattle.map_ops.specs.Planning.{is_long}
use Rattle.plain_model.specs.declared.commands.Command.{Command}
use Rattle.plain_model.specs.declared.commands.Command.TheVariants as command
use Rattle.plain_model.specs.Refusing.{mapping_of}
use Rattle.plain_model.specs.Steps.{ended_under}
use Rattle.operation_laws.specs.Entries.{EndsNone, IsOneOperation}
use Rattle.operation_laws.specs.Opening.{ends_with}

-- ---- nobody is connected

pub nobody_ends : (m : Option Piece) → ended_under m nobody ≡ nobody
nobody_ends None = refl
nobody_ends (Some piece) = refl

pub ends_nobody : (s : PlainState) (c : Command) → ends_with (with_connections s nobody) c ≡ nobody
ends_nobody s (command.Offline name key token) = nobody_ends (mapping_of (with_connections s nobody) name key)
ends_nobody s other = refl

-- ---- commands of one operation

-- each long command is one operation
pub long_is_one : (c : Command) → is_long c ≡ true → IsOneOperation c
long_is_one (command.Add name low high location) long = tt
long_is_one (command.Addpoint name key location) long = tt
long_is_one (command.Delete name key token) long = tt
long_is_one (command.Offline name key token) long = tt
long_is_one (command.Online name key token) long = tt
long_is_one (command.Move name key location token) long = tt
long_is_one (command.Split name key token) long = tt
long_is_one (command.Merge name key token) long = tt
long_is_one other long = absurd cc

-- The command is an `offline`, which alone of them ends connections.
pub record IsOffline (c : Command) : Type 0 where
  pub name : Text
  pub key : Text
  pub token : Option Token
  pub is : c ≡ command.Offline name key token

pub none_or_offline : (c : Command) → IsOneOperation c → EndsNone c ⊎ IsOffline c
none_or_offline (command.Offline name key token) one = inr (record { name = name; key = key; token = token; is = refl })
none_or_offline other one = inl one
