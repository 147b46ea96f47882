use Rattle.std.proofs.Common.{◌≡◌, false}
use Rattle.turnstile.proofs.tests.leave_all.Given as goal

abbrev pub invariant-loop-i : goal.invariant-loop-i
invariant-loop-i g l = record {
  table : l.pass.table ≡ l.initial.pass.table;
  number : l.pass.number ≡ l.initial.pass.number;
  idle : l.pass.holds ≡ false;
}
