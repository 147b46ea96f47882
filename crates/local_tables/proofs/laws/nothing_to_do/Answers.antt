use Rattle.local_tables.proofs.NothingToDo.{nothing_to_mark, nothing_to_undo, nothing_to_settle}
use Rattle.local_tables.proofs.laws.nothing_to_do.Goals as goal

pub returns-clause-mark : goal.returns-clause-mark
returns-clause-mark c = nothing_to_mark

pub returns-clause-undo : goal.returns-clause-undo
returns-clause-undo c = nothing_to_undo

pub returns-clause-settle : goal.returns-clause-settle
returns-clause-settle c = nothing_to_settle
