use Rattle.std.proofs.Common.{◌≡◌, false}
use Rattle.bench_turns.proofs.threads.one_thread.Given as goal

abbrev pub invariant-loop : goal.invariant-loop
invariant-loop g l = record {
  table : l.pass.table ≡ l.initial.pass.table;
  number : l.pass.number ≡ l.initial.pass.number;
  idle : l.pass.holds ≡ false;
}
