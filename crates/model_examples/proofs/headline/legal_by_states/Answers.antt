use Rattle.std.proofs.Common.{◌≡◌, refl, ap, ◌∙◌, subst, None, [], ◌∷◌}
use Rattle.cell_world.specs.Plain.{PlainState}
use Rattle.plain_model.specs.Legal.{IsAtOperation}
use Rattle.world_examples.specs.Examples.{site_a, site_b}
use Rattle.model_examples.proofs.ListRun.{before_it, follows}
use Rattle.model_examples.proofs.headline.legal_by_states.Goals as goal

pub returns-clause-one_refused : goal.returns-clause-one_refused
returns-clause-one_refused c = record { end = before_it; follows = (before_it, follows, refl); stands = refl; going = λ session. None; left = λ session. record { none = λ ran. refl; next = tt }; promises = (tt, tt) }

pub returns-clause-never_other_stores : goal.returns-clause-never_other_stores
returns-clause-never_other_stores c h = let e : site_a ∷ site_b ∷ [] ≡ [] = ap (λ (s : PlainState). s.locations) h.follows ∙ ap (λ (s : PlainState). s.locations) h.stands in cc

pub returns-clause-never_waiting_for_nobody : goal.returns-clause-never_waiting_for_nobody
returns-clause-never_waiting_for_nobody c h = subst (λ g. IsAtOperation 1 g None) ((h.left h.promises.0.other).none refl) h.promises.0.at_operation
