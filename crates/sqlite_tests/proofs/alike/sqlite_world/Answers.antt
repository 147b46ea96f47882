use Rattle.std.specs.List.{IsDistinct}
use Rattle.sqlite_tests.proofs.alike.sqlite_world.Goals as goal

pub in_memory-requires-clause-distinct : goal.in_memory-requires-clause-distinct
unfolding IsDistinct
in_memory-requires-clause-distinct c = (tt, tt)
