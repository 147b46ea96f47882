use Rattle.std.proofs.Common.{◌≡◌, length}
use Rattle.connections.proofs.EachTable.{NobodyIn}
use Rattle.connections.proofs.sessions.Connected.new.Given as goal

abbrev pub invariant-loop : goal.invariant-loop
invariant-loop l = record {
  nobody : NobodyIn l.tables.items;
  many : length l.tables.items ≡ l.counter;
}
