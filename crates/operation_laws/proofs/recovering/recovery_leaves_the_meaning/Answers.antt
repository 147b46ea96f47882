use Rattle.operation_laws.proofs.FirstImage.{recovery_leaves}
use Rattle.operation_laws.proofs.recovering.recovery_leaves_the_meaning.Goals as goal

pub returns : goal.returns
returns c = recovery_leaves
