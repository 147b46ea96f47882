-- How a status is told to the one who ran the program.
use Rattle.std.specs.Prelude.{ℕ}
use Rattle.plain_model.specs.declared.finish.RunStatus.{RunStatus}
use Rattle.plain_model.specs.declared.finish.RunStatus.TheVariants as status

-- the exit status
abbrev pub exit_status : RunStatus → ℕ
exit_status status.Done = 0
exit_status status.Refused = 1
exit_status (status.BadWords place) = 2
exit_status (status.BadScript line reason) = 2
exit_status status.ReadFault = 3
exit_status status.WriteFault = 4
exit_status status.StoreFault = 5
exit_status status.Memory = 6
exit_status status.TooLong = 7
exit_status (status.UnknownLocation location) = 8
