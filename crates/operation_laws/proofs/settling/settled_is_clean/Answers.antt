use Rattle.operation_laws.proofs.Left.{settled_clean}
use Rattle.operation_laws.proofs.settling.settled_is_clean.Goals as goal

pub returns : goal.returns
returns c = settled_clean
