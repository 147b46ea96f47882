use Rattle.plain_model.proofs.OwedLaws.{none_at_first, none_after_write, none_after_reopening, none_after_local, none_after_global, none_after_log, none_after_entry, none_after_commit, none_after_try}
use Rattle.plain_model.proofs.run_laws.none_is_owed.Goals as goal

pub returns-clause-at_first : goal.returns-clause-at_first
returns-clause-at_first c = none_at_first

pub returns-clause-written : goal.returns-clause-written
returns-clause-written c = none_after_write

pub returns-clause-reopened : goal.returns-clause-reopened
returns-clause-reopened c = none_after_reopening

pub returns-clause-local : goal.returns-clause-local
returns-clause-local c = none_after_local

pub returns-clause-kept : goal.returns-clause-kept
returns-clause-kept c = none_after_global

pub returns-clause-logged : goal.returns-clause-logged
returns-clause-logged c = none_after_log

pub returns-clause-entered : goal.returns-clause-entered
returns-clause-entered c = none_after_entry

pub returns-clause-committed : goal.returns-clause-committed
returns-clause-committed c = none_after_commit

pub returns-clause-tried : goal.returns-clause-tried
returns-clause-tried c = none_after_try
