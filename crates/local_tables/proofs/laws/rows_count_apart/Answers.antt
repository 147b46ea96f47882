use Rattle.local_tables.proofs.SoundRows.{attached_apart, suspect_apart}
use Rattle.local_tables.proofs.laws.rows_count_apart.Goals as goal

pub returns : goal.returns
returns c = record { attached = attached_apart; suspect = suspect_apart }
