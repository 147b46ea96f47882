-- What each session of a core does.
use Rattle.std.specs.Prelude.{◌≡◌, ℕ, ◌==◌, Option, Some, None, if◌then◌else◌}
use Rattle.cell_world.specs.declared.operations.Op.{Op}
use Rattle.cell_world.specs.declared.operations.StageName.{StageName}
use Rattle.plain_model.specs.declared.commands.Command.{Command}
use Rattle.plain_model.specs.Legal.{Going, AllGoing}

pub data Doing : Type 0 where
  -- Nothing is going. An operation that was committed is to be settled, or none.
  Resting : (left : Option Op) → Doing
  -- A command is going and has no live operation: it was just taken up, rows are moved, or its last operation is to be settled.
  Working : (command : Command) (left : Option Op) → Doing
  -- An operation of the command is live, and came to the stage.
  Operating : (command : Command) (op : Op) (stage : StageName) → Doing

abbrev pub AllDoing : Type 0
AllDoing = ℕ → Doing

-- a live operation
pub record Live : Type 0 where
  pub command : Command
  pub op : Op
  pub stage : StageName

abbrev pub live_of : Doing → Option Live
live_of (Resting left) = None
live_of (Working command left) = None
live_of (Operating command op stage) = Some (record { command = command; op = op; stage = stage })

abbrev pub command_of : Doing → Option Command
command_of (Resting left) = None
command_of (Working command left) = Some command
command_of (Operating command op stage) = Some command

-- what the definitions of a history call going
abbrev pub going_of : Doing → Option Going
going_of (Resting left) = None
going_of (Working command left) = Some (record { command = command; operation = 0 })
going_of (Operating command op stage) = Some (record { command = command; operation = op.number })

abbrev pub all_going : AllDoing → AllGoing
all_going doing session = going_of (doing session)

-- the session does this next, and every other what it did
pub record IsThen (doing : AllDoing) (session : ℕ) (d : Doing) (next : AllDoing) : Type 0 where
  pub here : next session ≡ d
  pub others : (other : ℕ) → (session ≡ other → ⊥) → next other ≡ doing other

abbrev pub doing_then : AllDoing → ℕ → Doing → AllDoing
doing_then doing session d other = if session == other then d else doing other
