use Rattle.local_tables.proofs.AlteredRows.{mark_made, undo_made, settle_made}
use Rattle.local_tables.proofs.laws.changes_make_the_steps.Goals as goal

pub returns-clause-mark : goal.returns-clause-mark
returns-clause-mark c = mark_made

pub returns-clause-undo : goal.returns-clause-undo
returns-clause-undo c = undo_made

pub returns-clause-settle : goal.returns-clause-settle
returns-clause-settle c = settle_made
