-- What becomes of a command that is going.
use Rattle.std.specs.Prelude.{◌≡◌, ℕ, true, Option, Some, None}
use Rattle.cell_world.specs.Outside.{Outside}
use Rattle.cell_world.specs.declared.operations.Op.{Op}
use Rattle.cell_world.specs.declared.operations.StageName.{StageName}
use Rattle.cell_world.specs.declared.operations.StageName.TheVariants.{Committed}
use Rattle.global_tables.specs.Known.{Known}
use Rattle.global_tables.specs.declared.faults.StepFault.{StepFault}
use Rattle.global_tables.specs.declared.faults.StepFault.TheVariants as fault
use Rattle.map_ops.specs.Planning.{is_long}
use Rattle.plain_model.specs.declared.commands.Command.{Command}
use Rattle.plain_model.specs.declared.replies.Reply.{Reply}
use Rattle.plain_model.specs.declared.replies.Reply.TheVariants as reply
use Rattle.op_steps.specs.Stages.{name_of}
use Rattle.operation_laws.specs.Forward.{IsForward}
use Rattle.session_laws.specs.Doing.{AllDoing, Resting, Operating, IsThen}
use Rattle.manager_core.specs.declared.coming.Came.{Came}
use Rattle.manager_core.specs.declared.moving.Moved.{Moved}
use Rattle.manager_core.specs.declared.moving.Moved.TheVariants as moved
use Rattle.manager_core.specs.Coming.{ComesOfGoing, HappensGoing, IsBefore}
use Rattle.manager_core.specs.Steady.{AreSteady, Becomes, Ends}

-- what a failed step comes to
abbrev pub stopped_by : StepFault → Moved
stopped_by fault.Store = moved.Store
stopped_by fault.Memory = moved.Memory

-- By the answer: its session has it at a later stage; or the command is answered `ok` and leaves it to be settled; or it is answered `fault` or `memory`, and nothing is left.
abbrev pub Moves : ℕ → Command → Op → AllDoing → Moved → Outside → Outside → Type 0
Moves session c op before (moved.On stage) old new = IsForward (name_of stage) × ((next : AllDoing) → IsThen before session (Operating c op (name_of stage)) next → Becomes old new before next)
Moves session c op before (moved.Done stage) old new = (name_of stage ≡ Committed) × ((known : Known) (next : AllDoing) → IsThen before session (Resting (Some op)) next → Ends session c reply.Ok op.number known known old new before next)
Moves session c op before moved.Store old new = (known : Known) (next : AllDoing) → IsThen before session (Resting None) next → Ends session c reply.Fault op.number known known old new before next
Moves session c op before moved.Memory old new = (known : Known) (next : AllDoing) → IsThen before session (Resting None) next → Ends session c reply.Memory op.number known known old new before next

-- so for whatever session has it going at the stage
abbrev pub MovesOn : Op → StageName → Moved → Outside → Outside → Type 0
MovesOn op name result old new = (session : ℕ) (c : Command) (before : AllDoing) → is_long c ≡ true → before session ≡ Operating c op name → Moves session c op before result old new

-- ---- what happens

-- the stage that it has come to is a later one
abbrev pub IsOnward : StageName → Moved → Type 0
IsOnward name (moved.On stage) = IsBefore name (name_of stage)
IsOnward name other = Unit {0}

-- what the command is answered, if it ended
abbrev pub answer_of : Moved → Option Reply
answer_of (moved.On stage) = None
answer_of (moved.Done stage) = Some reply.Ok
answer_of moved.Store = Some reply.Fault
answer_of moved.Memory = Some reply.Memory

-- Whatever session has it going at the stage: over steady stores its local step or its commit is made, by one transaction; or at most one failed.
abbrev pub MovesOnce : Op → StageName → Moved → Outside → Outside → Type 0
MovesOnce op name result old new = (session : ℕ) (c : Command) (before : AllDoing) → is_long c ≡ true → before session ≡ Operating c op name → AreSteady before old → HappensGoing op (answer_of result) old.told new.told

-- What becomes of a command that was going, where its session rested meanwhile.
abbrev pub GoesFrom : ℕ → Command → Op → StageName → Came → AllDoing → AllDoing → Outside → Outside → Type 0
GoesFrom session c op name came rests after old new = (before : AllDoing) → before session ≡ Operating c op name → IsThen before session (Resting None) rests → (known : Known) → ComesOfGoing session c op name came known before after old new
