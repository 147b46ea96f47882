use Rattle.operation_laws.proofs.Beginnings.{begins_on_trail, begins_alone}
use Rattle.operation_laws.proofs.beginning.operation_begins.Goals as goal

pub returns-clause-on_trail : goal.returns-clause-on_trail
returns-clause-on_trail c = begins_on_trail

pub returns-clause-alone : goal.returns-clause-alone
returns-clause-alone c = begins_alone
