use Rattle.std.proofs.Common.{refl}
use Rattle.cell_world.specs.declared.cells.Mark.TheVariants.{Plain, Old}
use Rattle.image_laws.proofs.NoMarks.{none_elsewhere, Undo, Step, none_swept, none_born, none_settled}
use Rattle.image_laws.proofs.progress.marks_stay_at_their_sites.Goals as goal

pub returns-clause-logged : goal.returns-clause-logged
returns-clause-logged c = none_elsewhere

pub returns-clause-committed : goal.returns-clause-committed
returns-clause-committed c image op other none = none

pub returns-clause-stepped : goal.returns-clause-stepped
returns-clause-stepped c op other log ne = none_swept op other log (Old other.number) (Step other.number refl ne)

pub returns-clause-undone : goal.returns-clause-undone
returns-clause-undone c op other log = none_swept op other log Plain (Undo refl)

pub returns-clause-born : goal.returns-clause-born
returns-clause-born c = none_born

pub returns-clause-settled : goal.returns-clause-settled
returns-clause-settled c = none_settled
