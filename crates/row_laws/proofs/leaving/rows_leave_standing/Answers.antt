use Rattle.row_laws.proofs.AloneLaws.{stand_nothing}
use Rattle.row_laws.proofs.leaving.rows_leave_standing.Goals as goal

pub returns : goal.returns
returns c = stand_nothing
