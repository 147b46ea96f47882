use Rattle.op_log.proofs.Conflicts.{short_sound, short_log, short_lawful}
use Rattle.op_log.proofs.laws.short_changes_leave_operations_lawful.Goals as goal

pub returns-clause-sound : goal.returns-clause-sound
returns-clause-sound c = short_sound

pub returns-clause-log : goal.returns-clause-log
returns-clause-log c = short_log

pub returns-clause-lawful : goal.returns-clause-lawful
returns-clause-lawful c = short_lawful
