use Rattle.std.proofs.Common.{◌≡◌, ◌+◌, ◌++◌, length, map, vec_len}
use Rattle.turnstile.specs.States.{EachAt, IsIdle}
use Rattle.turnstile.proofs.turns.Turnstile.gather.Given as goal

abbrev pub invariant-loop-passes : goal.invariant-loop-passes
invariant-loop-passes g l = record {
  table : l.first.seat.table_id ≡ l.initial.first.seat.table_id;
  mine : (l.first.seat.me.0.mine ≡ l.initial.first.seat.me.0.mine) × (l.first.seat.me.0.list ≡ l.initial.first.seat.me.0.list);
  known : l.first.seat.me.0.known ++ map (λ p. (p.mine, p.list)) l.passes.items ≡ map (λ p. (p.mine, p.list)) l.initial.passes.items;
  each : EachAt (IsIdle l.self.table) (length l.first.seat.me.0.known + 1) l.passes.items;
}

abbrev pub decreases-loop-passes : goal.decreases-loop-passes
decreases-loop-passes g l = vec_len l.passes
