use Rattle.operation_laws.proofs.CoreCourses.{recovery_on_trail, recovery_alone}
use Rattle.operation_laws.proofs.courses.recovery_goes_on.Goals as goal

pub returns-clause-on_trail : goal.returns-clause-on_trail
returns-clause-on_trail c = recovery_on_trail

pub returns-clause-alone : goal.returns-clause-alone
returns-clause-alone c = recovery_alone
