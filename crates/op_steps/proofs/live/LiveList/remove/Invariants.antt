use Rattle.std.proofs.Common.{◌≡◌, ◌≤◌, length, take}
use Rattle.op_steps.specs.Live.{all_but}
use Rattle.op_steps.proofs.live.LiveList.remove.Given as goal

abbrev pub invariant-loop-n : goal.invariant-loop-n
invariant-loop-n l = (l.rest ≡ all_but l.number (take l.n-index l.n-items)) × (length l.rest ≤ l.n-index)
