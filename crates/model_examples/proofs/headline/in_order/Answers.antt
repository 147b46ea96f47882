use Rattle.std.proofs.Common.{◌≡◌, false, refl, [], ◌∷◌}
use Rattle.model_examples.specs.Values.{make_map, map_entry, second_entry}
use Rattle.world_examples.specs.Examples.{map_m, map_n}
use Rattle.model_examples.specs.Runs.{asks, two_asked}
use Rattle.model_examples.proofs.Lookups.{differ}
use Rattle.model_examples.proofs.Served.{in_order, begins_with_n, has_two}
use Rattle.model_examples.proofs.headline.in_order.Goals as goal

pub returns-clause-all : goal.returns-clause-all
returns-clause-all c = in_order false (map_entry ∷ second_entry ∷ []) [] (refl, (refl, tt))

pub returns-clause-a_front : goal.returns-clause-a_front
returns-clause-a_front c = in_order false (map_entry ∷ []) (asks 1 (make_map map_n) ∷ []) (refl, tt)

pub returns-clause-none : goal.returns-clause-none
returns-clause-none c = in_order false [] two_asked tt

pub returns-clause-never_twice : goal.returns-clause-never_twice
returns-clause-never_twice c o = differ has_two _ _ (o.front 1).1 refl refl

pub returns-clause-never_in_another_order : goal.returns-clause-never_in_another_order
returns-clause-never_in_another_order c o = differ begins_with_n _ _ (o.front 1).1 refl refl

pub returns-clause-never_of_another_session : goal.returns-clause-never_of_another_session
returns-clause-never_of_another_session c o = let e : make_map map_m ∷ (o.front 1).0 ≡ [] = (o.front 1).1 in cc
