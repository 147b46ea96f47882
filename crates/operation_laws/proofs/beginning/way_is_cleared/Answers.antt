use Rattle.operation_laws.proofs.Beginnings.{clears_on_trail, clears_alone}
use Rattle.operation_laws.proofs.beginning.way_is_cleared.Goals as goal

pub returns-clause-on_trail : goal.returns-clause-on_trail
returns-clause-on_trail c = clears_on_trail

pub returns-clause-alone : goal.returns-clause-alone
returns-clause-alone c = clears_alone
