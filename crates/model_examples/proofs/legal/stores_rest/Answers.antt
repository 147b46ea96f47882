use Rattle.std.proofs.Common.{◌≡◌, true, false, arith, sym, ◌∙◌}
use Rattle.model_examples.specs.Values.{empty_state}
use Rattle.world_examples.specs.Examples.{map_m}
use Rattle.model_examples.proofs.Maps.{has_it, has_none}
use Rattle.model_examples.proofs.NearStates.{near_maps}
use Rattle.model_examples.proofs.legal.stores_rest.Goals as goal

pub returns-clause-never_without_an_entry : goal.returns-clause-never_without_an_entry
returns-clause-never_without_an_entry c legal = let e : true ≡ false = sym (has_it empty_state map_m) ∙ near_maps map_m _ _ (legal.rests 0 1 (omega arith) (omega arith) (λ lt. absurd (omega (arith, lt))) (omega arith)) ∙ has_none map_m in cc

pub returns-clause-never_after_the_last : goal.returns-clause-never_after_the_last
returns-clause-never_after_the_last c legal = let e : true ≡ false = sym (has_it empty_state map_m) ∙ near_maps map_m _ _ (legal.rests 1 1 (omega arith) (omega arith) (λ lt. absurd (omega (arith, lt))) (omega arith)) ∙ has_none map_m in cc
