use Rattle.operation_laws.proofs.Settled.{settled_on_trail, settled_alone}
use Rattle.operation_laws.proofs.settling.what_is_left_is_settled.Goals as goal

pub returns-clause-on_trail : goal.returns-clause-on_trail
returns-clause-on_trail c = settled_on_trail

pub returns-clause-alone : goal.returns-clause-alone
returns-clause-alone c = settled_alone
