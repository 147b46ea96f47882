use Rattle.operation_laws.proofs.Left.{left_undo, left_cleared, left_begin, left_advance, left_short}
use Rattle.operation_laws.proofs.settling.what_is_left_stays.Goals as goal

pub returns-clause-undone : goal.returns-clause-undone
returns-clause-undone c = left_undo

pub returns-clause-cleared : goal.returns-clause-cleared
returns-clause-cleared c = left_cleared

pub returns-clause-begins : goal.returns-clause-begins
returns-clause-begins c = left_begin

pub returns-clause-goes_on : goal.returns-clause-goes_on
returns-clause-goes_on c = left_advance

pub returns-clause-short : goal.returns-clause-short
returns-clause-short c = left_short
