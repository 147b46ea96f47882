use Rattle.std.proofs.Common.{◌≡◌, replicate}
use Rattle.manager_core.specs.declared.doings.Doing.TheVariants as seat
use Rattle.manager_core.proofs.doings.Doings.new.Given as goal

abbrev pub invariant-loop : goal.invariant-loop
invariant-loop l = l.seats.items ≡ replicate l.counter seat.Resting
