use Rattle.session_rows.proofs.RowLaws.{put_short, delete_short}
use Rattle.session_rows.proofs.laws.rows_are_short_changes.Goals as goal

pub returns-clause-put : goal.returns-clause-put
returns-clause-put c image sound connection owned known table id = put_short image connection owned known table id sound

pub returns-clause-deleted : goal.returns-clause-deleted
returns-clause-deleted c image sound connection owned known table id = delete_short image connection owned known table id sound
