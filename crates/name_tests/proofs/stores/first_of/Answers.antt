use Rattle.std.specs.List.{IsDistinct}
use Rattle.name_tests.proofs.stores.first_of.Goals as goal

pub new-requires-clause-distinct : goal.new-requires-clause-distinct
unfolding IsDistinct
new-requires-clause-distinct c = (tt, tt)
