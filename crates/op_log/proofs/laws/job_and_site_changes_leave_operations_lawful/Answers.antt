use Rattle.op_log.proofs.Conflicts.{job_site_sound, job_site_log, job_site_lawful}
use Rattle.op_log.proofs.laws.job_and_site_changes_leave_operations_lawful.Goals as goal

pub returns-clause-sound : goal.returns-clause-sound
returns-clause-sound c = job_site_sound

pub returns-clause-log : goal.returns-clause-log
returns-clause-log c = job_site_log

pub returns-clause-lawful : goal.returns-clause-lawful
returns-clause-lawful c = job_site_lawful
