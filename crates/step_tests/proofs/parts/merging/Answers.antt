use Rattle.std.proofs.Common.{◌≡◌, Bool, true, ◌&&◌, ap, ◌∙◌}
use Rattle.cell_world.specs.Keys.{same}
use Rattle.cell_world.proofs.SpanLaws.{same_self}
use Rattle.step_tests.proofs.parts.merging.Goals as goal

pub returns : goal.returns
returns c = (λ i. same c.args.new.map (c.requires.low i) && (same c.args.new.map (c.requires.high i) && (same c.args.new.map c.args.new.map && true))) ∙ ap (λ (b : Bool). b && (b && (b && true))) (same_self c.args.new.map)
