use Rattle.history_laws.proofs.OpenLaws.{open_now, open_happened, open_entered, open_later}
use Rattle.history_laws.proofs.tries.numbers_stay_open.Goals as goal

pub returns-clause-now : goal.returns-clause-now
returns-clause-now c = open_now

pub returns-clause-happened : goal.returns-clause-happened
returns-clause-happened c = open_happened

pub returns-clause-entered : goal.returns-clause-entered
returns-clause-entered c = open_entered

pub returns-clause-later : goal.returns-clause-later
returns-clause-later c = open_later
