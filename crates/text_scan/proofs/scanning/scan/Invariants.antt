use Rattle.std.proofs.Common.{◌≡◌, Some, take}
use Rattle.text_scan.specs.Walks.{walk}
use Rattle.text_scan.proofs.scanning.scan.Given as goal

abbrev pub invariant-loop-place : goal.invariant-loop-place
invariant-loop-place g l = walk g.M.Machine.next (Some g.M.Machine.first) (take l.place l.text) ≡ Some l.state
