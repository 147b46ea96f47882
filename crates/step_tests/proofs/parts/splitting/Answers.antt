use Rattle.std.proofs.Common.{◌≡◌, Bool, true, ◌&&◌, ap, ◌∙◌}
use Rattle.cell_world.specs.Keys.{same}
use Rattle.cell_world.proofs.SpanLaws.{same_self}
use Rattle.step_tests.proofs.parts.splitting.Goals as goal

pub returns : goal.returns
returns c = (λ i. same c.args.old.map c.args.old.map && (same c.args.old.map (c.requires.low i) && (same c.args.old.map (c.requires.high i) && true))) ∙ ap (λ (b : Bool). b && (b && (b && true))) (same_self c.args.old.map)
