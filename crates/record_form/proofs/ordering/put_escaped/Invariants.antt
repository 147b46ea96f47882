use Rattle.std.proofs.Common.{◌≡◌, ◌++◌, drop}
use Rattle.record_form.specs.OrderBytes.{escaped}
use Rattle.record_form.proofs.ordering.put_escaped.Given as goal

abbrev pub invariant-loop-byte : goal.invariant-loop-byte
invariant-loop-byte l = l.out.items ++ escaped (drop l.byte-index l.key) ≡ l.fn.out.items ++ escaped l.key
