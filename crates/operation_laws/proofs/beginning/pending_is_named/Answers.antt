use Rattle.operation_laws.proofs.Beginnings.{pending_on_trail, alone_pending}
use Rattle.operation_laws.proofs.beginning.pending_is_named.Goals as goal

pub returns-clause-on_trail : goal.returns-clause-on_trail
returns-clause-on_trail c = pending_on_trail

pub returns-clause-alone : goal.returns-clause-alone
returns-clause-alone c = alone_pending
