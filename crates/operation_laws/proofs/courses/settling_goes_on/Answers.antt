use Rattle.operation_laws.proofs.CoreCourses.{settling_on_trail, settling_alone}
use Rattle.operation_laws.proofs.courses.settling_goes_on.Goals as goal

pub returns-clause-on_trail : goal.returns-clause-on_trail
returns-clause-on_trail c = settling_on_trail

pub returns-clause-alone : goal.returns-clause-alone
returns-clause-alone c = settling_alone
