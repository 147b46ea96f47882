-- How a run goes on after a command.
use Rattle.std.specs.Prelude.{Bool, true, false, Option, Some, None}
use Rattle.plain_model.specs.declared.finish.RunStatus.{RunStatus}
use Rattle.plain_model.specs.declared.finish.RunStatus.TheVariants as status
use Rattle.plain_model.specs.declared.replies.Sort.TheVariants as sort
use Rattle.manager_core.specs.declared.manager.Outcome.{Outcome}
use Rattle.manager_core.specs.declared.manager.Outcome.TheVariants.{Going, Ended, Stopped}
use Rattle.manager_core.specs.declared.manager.StopCause.TheVariants as cause
use Rattle.manager_core.specs.declared.opening.Tail.{Tail}
use Rattle.manager_core.specs.declared.opening.Tail.TheVariants as tail

-- with this status the run stops after the command
abbrev pub stop_of : Outcome → Option RunStatus
stop_of (Ended sort.Memory) = Some status.Memory
stop_of (Ended other) = None
stop_of (Stopped cause.Sink) = Some status.WriteFault
stop_of (Stopped cause.Memory) = Some status.Memory
stop_of (Going number) = None

-- the command was refused
abbrev pub refuses : Outcome → Bool
refuses (Ended sort.Refused) = true
refuses other = false

-- the command was answered `fault`
abbrev pub fails : Outcome → Bool
fails (Ended sort.Fault) = true
fails other = false

-- the status once all commands were answered, by whether one was answered `fault` and whether one was refused
abbrev pub status_of : Bool → Bool → RunStatus
status_of true refused = status.StoreFault
status_of false true = status.Refused
status_of false false = status.Done

-- The status of a run, by that of its commands and by what became of what they left to settle: where memory was short then it is 6, unless the run stopped at a write.
abbrev pub status_after : RunStatus → Tail → RunStatus
status_after status.Done tail.Memory = status.Memory
status_after status.Refused tail.Memory = status.Memory
status_after status.StoreFault tail.Memory = status.Memory
status_after ending other = ending
