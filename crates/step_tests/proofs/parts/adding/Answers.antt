use Rattle.std.proofs.Common.{◌≡◌, Bool, true, ◌&&◌, ap, ◌∙◌}
use Rattle.cell_world.proofs.SpanLaws.{same_self}
use Rattle.step_tests.proofs.parts.adding.Goals as goal

pub returns : goal.returns
returns c = ap (λ (b : Bool). b && true) (same_self c.args.new.map)
