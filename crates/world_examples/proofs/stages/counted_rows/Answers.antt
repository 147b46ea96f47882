use Rattle.std.proofs.Common.{ap, [], ◌∷◌, not}
use Rattle.world_examples.specs.Examples.{add_at_a}
use Rattle.world_examples.proofs.Marking.{logs}
use Rattle.world_examples.proofs.stages.counted_rows.Goals as goal

pub returns-clause-old_while_logged : goal.returns-clause-old_while_logged
returns-clause-old_while_logged c = logs (add_at_a ∷ []) tt 1

pub returns-clause-new_while_logged : goal.returns-clause-new_while_logged
returns-clause-new_while_logged c = ap not (logs (add_at_a ∷ []) tt 1)

pub returns-clause-old_afterwards : goal.returns-clause-old_afterwards
returns-clause-old_afterwards c = logs [] tt 1

pub returns-clause-new_afterwards : goal.returns-clause-new_afterwards
returns-clause-new_afterwards c = ap not (logs [] tt 1)
