use Rattle.std.specs.List.{IsDistinct}
use Rattle.shardctl.proofs.store_tests.asks_nothing.Goals as goal

pub at_folder-requires-clause-distinct : goal.at_folder-requires-clause-distinct
unfolding IsDistinct
at_folder-requires-clause-distinct c = (tt, tt)
