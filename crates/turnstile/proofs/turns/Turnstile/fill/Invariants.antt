use Rattle.std.proofs.Common.{◌≡◌, ◌+◌, [], vec_len, vec_capacity}
use Rattle.turnstile.specs.States.{EachAt, IsNew}
use Rattle.turnstile.proofs.turns.Turnstile.fill.Given as goal

abbrev pub invariant-loop : goal.invariant-loop
invariant-loop g l = record {
  table : l.first.seat.table_id ≡ l.self.table;
  first : (l.first.seat.me.0.mine ≡ []) × (l.first.seat.me.0.known ≡ []) × (l.first.seat.me.0.list ≡ l.self.first);
  next : l.first.seat.me.0.next ≡ l.counter;
  len : vec_len l.passes + 1 ≡ l.counter;
  capacity : vec_capacity l.passes ≡ l.seats;
  each : EachAt (IsNew l.self.table l.self.first) 1 l.passes.items;
}
