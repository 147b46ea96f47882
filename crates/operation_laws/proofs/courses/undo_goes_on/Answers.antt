use Rattle.operation_laws.proofs.CoreCourses.{undo_on_trail, undo_alone}
use Rattle.operation_laws.proofs.courses.undo_goes_on.Goals as goal

pub returns-clause-on_trail : goal.returns-clause-on_trail
returns-clause-on_trail c = undo_on_trail

pub returns-clause-alone : goal.returns-clause-alone
returns-clause-alone c = undo_alone
