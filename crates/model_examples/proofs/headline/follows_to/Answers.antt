use Rattle.std.proofs.Common.{refl, sym, ap, ◌∙◌}
use Rattle.cell_world.specs.Plain.{holds_nothing}
use Rattle.model_examples.specs.Values.{empty_state, with_map}
use Rattle.world_examples.specs.Examples.{map_m}
use Rattle.model_examples.proofs.Maps.{makes_m, m_is_more}
use Rattle.model_examples.proofs.headline.follows_to.Goals as goal

pub returns-clause-itself : goal.returns-clause-itself
returns-clause-itself c = refl

pub returns-clause-a_map : goal.returns-clause-a_map
returns-clause-a_map c = (with_map empty_state map_m, record { held = holds_nothing; step = makes_m holds_nothing }, refl)

pub returns-clause-never_without_an_entry : goal.returns-clause-never_without_an_entry
returns-clause-never_without_an_entry c f = m_is_more (sym f)

pub returns-clause-never_without_a_change : goal.returns-clause-never_without_a_change
returns-clause-never_without_a_change c f = m_is_more (ap (λ r. r.0) (sym (makes_m f.1.held) ∙ f.1.step) ∙ f.2)
