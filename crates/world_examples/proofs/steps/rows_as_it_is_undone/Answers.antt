use Rattle.std.proofs.Common.{not, cond, ap, Some, None, [], ◌∷◌}
use Rattle.cell_world.specs.declared.cells.Mark.TheVariants.{Plain}
use Rattle.cell_world.specs.declared.cells.Status.TheVariants.{Online, Offline}
use Rattle.world_examples.specs.Examples.{local_row}
use Rattle.world_examples.specs.Sounds.{move_logged}
use Rattle.world_examples.proofs.Marking.{logs}
use Rattle.world_examples.proofs.steps.rows_as_it_is_undone.Goals as goal

pub returns-clause-own_old : goal.returns-clause-own_old
returns-clause-own_old c = ap (λ logged. cond logged (Some (local_row 0 5 0 Offline Plain)) None) (logs (move_logged ∷ []) tt 1)

pub returns-clause-own_new : goal.returns-clause-own_new
returns-clause-own_new c = ap (λ logged. cond (not logged) (Some (local_row 0 5 1 Offline Plain)) None) (logs (move_logged ∷ []) tt 1)

pub returns-clause-new_of_one_that_committed : goal.returns-clause-new_of_one_that_committed
returns-clause-new_of_one_that_committed c = ap (λ logged. cond (not logged) (Some (local_row 3 9 7 Online Plain)) None) (logs (move_logged ∷ []) tt 7)

pub returns-clause-old_of_one_that_committed : goal.returns-clause-old_of_one_that_committed
returns-clause-old_of_one_that_committed c = ap (λ logged. cond logged (Some (local_row 3 9 0 Online Plain)) None) (logs (move_logged ∷ []) tt 7)
