use Rattle.std.proofs.Common.{◌≡◌, false, take}
use Rattle.cell_world.specs.Lists.{IsOneOf}
use Rattle.cell_world.specs.declared.operations.Op.{Op}
use Rattle.op_steps.specs.Clearing.{is_in_way}
use Rattle.op_steps.proofs.clearing.first_in_way.Given as goal

abbrev pub invariant-loop-op : goal.invariant-loop-op
invariant-loop-op l = (op : Op) → IsOneOf (take l.op-index l.ops) op → is_in_way l.live l.reach op ≡ false
