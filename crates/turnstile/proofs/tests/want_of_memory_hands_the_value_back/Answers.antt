use Rattle.turnstile.proofs.Places.{new_are_idle}
use Rattle.turnstile.proofs.tests.want_of_memory_hands_the_value_back.Goals as goal

pub close-numbers-requires-clause-each : goal.close-numbers-requires-clause-each
close-numbers-requires-clause-each g c = new_are_idle _ _ 0 _ c.in-Ok.ensures.each
