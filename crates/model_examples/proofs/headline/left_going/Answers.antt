use Rattle.std.proofs.Common.{◌≡◌, true≢false, refl, Some, None, [], ◌∷◌}
use Rattle.model_examples.specs.Values.{make_map}
use Rattle.world_examples.specs.Examples.{map_m, map_n}
use Rattle.model_examples.specs.Runs.{going_at}
use Rattle.model_examples.proofs.Lookups.{differ}
use Rattle.model_examples.proofs.Served.{begins_with_n}
use Rattle.model_examples.proofs.headline.left_going.Goals as goal

pub returns-clause-nothing : goal.returns-clause-nothing
returns-clause-nothing c = record { none = λ ran. refl; next = tt }

pub returns-clause-the_next_where_it_stopped : goal.returns-clause-the_next_where_it_stopped
returns-clause-the_next_where_it_stopped c = record { none = λ ran. absurd (true≢false ran); next = ([], refl) }

pub returns-clause-never_unless_it_stopped : goal.returns-clause-never_unless_it_stopped
returns-clause-never_unless_it_stopped c l = let e : Some (going_at (make_map map_n)) ≡ None = l.none refl in cc

pub returns-clause-never_before_its_turn : goal.returns-clause-never_before_its_turn
returns-clause-never_before_its_turn c l = differ begins_with_n _ _ l.next.1 refl refl

pub returns-clause-never_after_the_last : goal.returns-clause-never_after_the_last
returns-clause-never_after_the_last c l = let e : make_map map_m ∷ make_map map_n ∷ make_map map_n ∷ l.next.0 ≡ make_map map_m ∷ make_map map_n ∷ [] = l.next.1 in cc

pub returns-clause-never_of_another_session : goal.returns-clause-never_of_another_session
returns-clause-never_of_another_session c l = let e : make_map map_m ∷ l.next.0 ≡ [] = l.next.1 in cc
