-- Local rows, mappings, operations, jobs and their parts are equal exactly where they are the same.
use Rattle.cell_world.proofs.Exact.{each_local_row, each_piece, all_pieces, jobs, extras, ops}
use Rattle.image_laws.proofs.comparing.equal_values_are_one.Goals as goal

pub returns-clause-local_rows : goal.returns-clause-local_rows
returns-clause-local_rows c = each_local_row

pub returns-clause-pieces : goal.returns-clause-pieces
returns-clause-pieces c = each_piece

pub returns-clause-some_pieces : goal.returns-clause-some_pieces
returns-clause-some_pieces c = all_pieces

pub returns-clause-jobs : goal.returns-clause-jobs
returns-clause-jobs c = jobs

pub returns-clause-extras : goal.returns-clause-extras
returns-clause-extras c = extras

pub returns-clause-operations : goal.returns-clause-operations
returns-clause-operations c = ops
