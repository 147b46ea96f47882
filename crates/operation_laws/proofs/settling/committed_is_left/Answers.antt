use Rattle.operation_laws.proofs.Settled.{committed_left}
use Rattle.operation_laws.proofs.settling.committed_is_left.Goals as goal

pub returns : goal.returns
returns c = committed_left
