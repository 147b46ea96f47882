use Rattle.std.proofs.Common.{◌≡◌, Bool, true, ◌&&◌, ap, ◌∙◌}
use Rattle.cell_world.specs.Keys.{same}
use Rattle.cell_world.proofs.SpanLaws.{same_self}
use Rattle.step_tests.proofs.parts.replacing.Goals as goal

pub returns : goal.returns
returns c = ap (λ (b : Bool). b && (same c.args.old.map c.args.new.map && true)) (same_self c.args.old.map) ∙ (λ i. same c.args.old.map (c.requires i) && true) ∙ ap (λ (b : Bool). b && true) (same_self c.args.old.map)
