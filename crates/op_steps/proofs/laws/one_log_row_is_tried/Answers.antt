use Rattle.op_steps.proofs.NumberLaws.{undo_leaves_numbers, advance_leaves_numbers, log_tries_number}
use Rattle.op_steps.proofs.laws.one_log_row_is_tried.Goals as goal

pub returns-clause-undone : goal.returns-clause-undone
returns-clause-undone c = undo_leaves_numbers

pub returns-clause-goes_on : goal.returns-clause-goes_on
returns-clause-goes_on c = advance_leaves_numbers

pub returns-clause-begins : goal.returns-clause-begins
returns-clause-begins c = log_tries_number
