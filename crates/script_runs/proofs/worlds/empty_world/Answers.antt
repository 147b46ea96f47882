use Rattle.std.specs.List.{IsDistinct}
use Rattle.script_runs.proofs.worlds.empty_world.Goals as goal

pub new-requires-clause-distinct : goal.new-requires-clause-distinct
unfolding IsDistinct
new-requires-clause-distinct c = tt
