use Rattle.std.specs.List.{IsDistinct}
use Rattle.bench_sqlite.proofs.run_at.Goals as goal

pub at_folder-requires-clause-distinct : goal.at_folder-requires-clause-distinct
unfolding IsDistinct
at_folder-requires-clause-distinct c = tt
