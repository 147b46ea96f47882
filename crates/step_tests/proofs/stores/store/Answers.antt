use Rattle.std.specs.List.{IsDistinct}
use Rattle.step_tests.proofs.stores.store.Goals as goal

pub new-requires-clause-distinct : goal.new-requires-clause-distinct
unfolding IsDistinct
new-requires-clause-distinct c = (tt, tt)
