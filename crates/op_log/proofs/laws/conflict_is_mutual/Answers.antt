use Rattle.op_log.proofs.Conflicts.{turned_about}
use Rattle.op_log.proofs.laws.conflict_is_mutual.Goals as goal

pub returns : goal.returns
returns c = turned_about
