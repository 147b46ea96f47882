-- What the plan of a command gives of its operation.
use Rattle.std.specs.Prelude.{◌≡◌, None}
use Rattle.cell_world.specs.Images.{Image}
use Rattle.cell_world.specs.Lawful.{Lawful}
use Rattle.cell_world.specs.Meaning.{meaning}
use Rattle.cell_world.specs.Plain.{Connections, with_connections}
use Rattle.cell_world.specs.declared.operations.Op.{Op}
use Rattle.plain_model.specs.declared.commands.Command.{Command}
use Rattle.plain_model.specs.JobSteps.{asked_number}
use Rattle.plain_model.specs.Legal.{IsOwnOf}
use Rattle.session_laws.specs.Core.{IsTriedFor}

-- The operation is lawful, and the command's: what it exchanges, or the next step of its job. Its number doesn't count.
pub record IsOpFor (c : Command) (image : Image) (op : Op) : Type 0 where
  -- the stores admit it
  pub lawful : Lawful image op
  -- in a job it is the next row of the job's table
  pub tried : IsTriedFor (asked_number c) image op
  -- and else what the command exchanges, whoever is connected
  pub exchange : (connections : Connections) → asked_number c ≡ None → IsOwnOf (with_connections (meaning image) connections) c None image op
