use Rattle.session_rows.proofs.RowLaws.{put_lawful, delete_lawful}
use Rattle.session_rows.proofs.laws.rows_leave_operations_lawful.Goals as goal

pub returns-clause-put : goal.returns-clause-put
returns-clause-put c image sound connection owned known table id = put_lawful image connection owned known table id sound

pub returns-clause-deleted : goal.returns-clause-deleted
returns-clause-deleted c image sound connection owned known table id = delete_lawful image connection owned known table id sound
