use Rattle.std.proofs.Common.{◌≡◌, Bool, true, ◌&&◌, ap, ◌∙◌}
use Rattle.cell_world.specs.Keys.{same}
use Rattle.cell_world.proofs.SpanLaws.{same_self}
use Rattle.base_tests.proofs.kinds.log_cell_of_a_mapping.Goals as goal

pub returns : goal.returns
returns c = (λ i. same c.args.parts.now.map (c.piece.ensures i) && true) ∙ ap (λ (b : Bool). b && true) (same_self c.args.parts.now.map)
