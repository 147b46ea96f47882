use Rattle.std.proofs.Common.{◌≡◌, true, take}
use Rattle.op_steps.specs.Passing.{Passes}
use Rattle.op_steps.specs.Undoing.{UndoesList}
use Rattle.op_steps.proofs.undoing.undo_all.Given as goal

abbrev pub invariant-loop-op : goal.invariant-loop-op
invariant-loop-op g l = Passes (UndoesList (take l.op-index l.ops) (true ≡ true)) (g.W.World.outside l.initial.world) (g.W.World.outside l.world)
