use Rattle.std.proofs.Common.{not, cond, ap, Some, None, [], ◌∷◌}
use Rattle.cell_world.specs.declared.cells.Mark.TheVariants.{Old}
use Rattle.cell_world.specs.declared.cells.Status.TheVariants.{Online, Offline}
use Rattle.world_examples.specs.Examples.{local_row}
use Rattle.world_examples.specs.Sounds.{move_logged}
use Rattle.world_examples.proofs.Marking.{logs}
use Rattle.world_examples.proofs.steps.rows_as_it_steps.Goals as goal

pub returns-clause-new_of_one_that_committed : goal.returns-clause-new_of_one_that_committed
returns-clause-new_of_one_that_committed c = ap (λ logged. cond (not logged) (Some (local_row 0 5 7 Offline (Old 1))) None) (logs (move_logged ∷ []) tt 7)

pub returns-clause-old_of_one_that_committed : goal.returns-clause-old_of_one_that_committed
returns-clause-old_of_one_that_committed c = ap (λ logged. cond logged (Some (local_row 3 9 0 Online (Old 1))) None) (logs (move_logged ∷ []) tt 7)
