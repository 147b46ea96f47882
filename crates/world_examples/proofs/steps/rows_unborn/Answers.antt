use Rattle.std.proofs.Common.{refl, ap, [], ◌∷◌}
use Rattle.cell_world.specs.declared.cells.Mark.TheVariants.{Plain, Old, New}
use Rattle.cell_world.specs.declared.cells.Status.TheVariants.{Online, Offline}
use Rattle.world_examples.specs.Examples.{local_row}
use Rattle.world_examples.proofs.ShortTables.{local_in}
use Rattle.world_examples.proofs.Marking.{old_number}
use Rattle.world_examples.proofs.Sweeping.{unborn, zero_not_one, plain_not_old, new_not_old, two_not_one}
use Rattle.world_examples.proofs.steps.rows_unborn.Goals as goal

pub returns-clause-accepted : goal.returns-clause-accepted
returns-clause-accepted c = unborn (local_row 0 5 0 Offline Plain ∷ local_row 5 9 2 Online New ∷ []) tt ((zero_not_one, plain_not_old), ((two_not_one, new_not_old), tt))

pub returns-clause-new : goal.returns-clause-new
returns-clause-new c = λ h. (h (local_row 0 5 1 Offline New) (local_in (local_row 0 5 1 Offline New ∷ []) tt (local_row 0 5 1 Offline New) refl)).0 refl

pub returns-clause-plain : goal.returns-clause-plain
returns-clause-plain c = λ h. (h (local_row 5 9 1 Online Plain) (local_in (local_row 5 9 1 Online Plain ∷ []) tt (local_row 5 9 1 Online Plain) refl)).0 refl

pub returns-clause-old_of_another : goal.returns-clause-old_of_another
returns-clause-old_of_another c = λ h. (h (local_row 5 9 1 Online (Old 2)) (local_in (local_row 5 9 1 Online (Old 2) ∷ []) tt (local_row 5 9 1 Online (Old 2)) refl)).0 refl

pub returns-clause-old : goal.returns-clause-old
returns-clause-old c = λ h. (h (local_row 0 5 0 Offline (Old 1)) (local_in (local_row 0 5 0 Offline (Old 1) ∷ []) tt (local_row 0 5 0 Offline (Old 1)) refl)).1 refl

pub returns-clause-marked_by_another : goal.returns-clause-marked_by_another
returns-clause-marked_by_another c = unborn (local_row 0 5 0 Offline (Old 2) ∷ []) tt ((zero_not_one, λ e. two_not_one (ap old_number e)), tt)
