use Rattle.std.proofs.Common.{◌≡◌, length}
use Rattle.manager_core.specs.Doings.{all_doing}
use Rattle.manager_core.proofs.SettleLaws.{SettledSo}
use Rattle.manager_core.proofs.settling.settle_all.Given as goal

abbrev pub invariant-loop-seat : goal.invariant-loop-seat
invariant-loop-seat g l = record {
  so : SettledSo (g.W.World.outside l.initial.world) (g.W.World.outside l.world) (all_doing l.initial.doings) (all_doing l.doings) l.seat;
  sessions : length l.doings ≡ length l.initial.doings;
}
