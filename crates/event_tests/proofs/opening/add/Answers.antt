use Rattle.std.proofs.Common.{Bool, true, ◌&&◌, ap}
use Rattle.cell_world.proofs.SpanLaws.{same_self}
use Rattle.event_tests.proofs.opening.add.Goals as goal

pub returns : goal.returns
returns c = ap (λ (b : Bool). b && true) (same_self c.in_ok-name.name)
