use Rattle.row_laws.proofs.AloneLaws.{locals_same, tables_same, was_attached, left_alone, clean_alone, out_alone}
use Rattle.row_laws.proofs.leaving.rows_leave_operations_alone.Goals as goal

pub returns-clause-locals : goal.returns-clause-locals
returns-clause-locals c = locals_same

pub returns-clause-tables : goal.returns-clause-tables
returns-clause-tables c = tables_same

pub returns-clause-attached : goal.returns-clause-attached
returns-clause-attached c = was_attached

pub returns-clause-left : goal.returns-clause-left
returns-clause-left c doing image location change row = left_alone image location change row doing

pub returns-clause-clean : goal.returns-clause-clean
returns-clause-clean c op image location change row = clean_alone image location change row op

pub returns-clause-out : goal.returns-clause-out
returns-clause-out c op image location change row = out_alone image location change row op
