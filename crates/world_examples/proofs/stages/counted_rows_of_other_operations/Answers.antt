use Rattle.std.proofs.Common.{ap, [], ◌∷◌, not}
use Rattle.world_examples.specs.Examples.{add_at_a}
use Rattle.world_examples.proofs.Marking.{logs}
use Rattle.world_examples.proofs.stages.counted_rows_of_other_operations.Goals as goal

pub returns-clause-old_of_other : goal.returns-clause-old_of_other
returns-clause-old_of_other c = logs (add_at_a ∷ []) tt 2

pub returns-clause-new_of_other : goal.returns-clause-new_of_other
returns-clause-new_of_other c = ap not (logs (add_at_a ∷ []) tt 2)
