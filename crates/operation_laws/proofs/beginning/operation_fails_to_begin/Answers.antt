use Rattle.operation_laws.proofs.Beginnings.{fails_on_trail, fails_alone}
use Rattle.operation_laws.proofs.beginning.operation_fails_to_begin.Goals as goal

pub returns-clause-on_trail : goal.returns-clause-on_trail
returns-clause-on_trail c = fails_on_trail

pub returns-clause-alone : goal.returns-clause-alone
returns-clause-alone c = fails_alone
