-- Who is connected after an entry of a command that is one operation.
use Rattle.std.specs.Prelude.{Bool, true, false, Option, Some, if◌then◌else◌}
use Rattle.cell_world.specs.Plain.{Connections}
use Rattle.cell_world.specs.declared.operations.Piece.{Piece}
use Rattle.plain_model.specs.declared.commands.Command.{Command}
use Rattle.plain_model.specs.declared.commands.Command.TheVariants as command
use Rattle.plain_model.specs.declared.replies.Reply.{Reply}
use Rattle.plain_model.specs.declared.replies.Reply.TheVariants as reply
use Rattle.plain_model.specs.Steps.{ended_under}

-- A command that is answered so may have been done: it was, or a call of a store failed.
abbrev pub may_be_done : Option Reply → Bool
may_be_done (Some reply.Ok) = true
may_be_done (Some reply.Fault) = true
may_be_done other = false

-- An `offline` that may have been done ends the connections under this mapping. (At a fault before its log row was tried none need have ended: then no mapping is given.) No other command of one operation ends any.
abbrev pub left_by : Command → Option Reply → Option Piece → Connections → Connections
left_by (command.Offline name key token) answer piece connections = if may_be_done answer then ended_under piece connections else connections
left_by other answer piece connections = connections
