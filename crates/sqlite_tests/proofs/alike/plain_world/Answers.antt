use Rattle.std.specs.List.{IsDistinct}
use Rattle.sqlite_tests.proofs.alike.plain_world.Goals as goal

pub new-requires-clause-distinct : goal.new-requires-clause-distinct
unfolding IsDistinct
new-requires-clause-distinct c = (tt, tt)
