-- The mapping commands by their words.
use Rattle.std.specs.Prelude.{Option}
use Rattle.cell_world.specs.Texts.{Text}
use Rattle.cell_world.specs.declared.cells.Status.{Status}
use Rattle.cell_world.specs.declared.cells.Status.TheVariants.{Online, Offline}
use Rattle.cell_world.specs.declared.cells.Token.{Token}
use Rattle.plain_model.specs.declared.commands.Command.{Command}
use Rattle.plain_model.specs.declared.commands.Command.TheVariants as command

-- `online` and `offline`: the command that gives a mapping this status
abbrev pub status_command : Status → Text → Text → Option Token → Command
status_command Online name text token = command.Online name text token
status_command Offline name text token = command.Offline name text token
