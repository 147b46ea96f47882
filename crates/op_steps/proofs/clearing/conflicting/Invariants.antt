use Rattle.std.proofs.Common.{◌≡◌, take}
use Rattle.std.specs.Prelude.{filter}
use Rattle.cell_world.specs.Operations.{conflicts}
use Rattle.op_steps.proofs.clearing.conflicting.Given as goal

abbrev pub invariant-loop-op : goal.invariant-loop-op
invariant-loop-op l = l.found.items ≡ filter (conflicts l.reach) (take l.op-index l.ops)
