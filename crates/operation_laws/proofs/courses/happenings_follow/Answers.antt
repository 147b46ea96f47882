use Rattle.operation_laws.proofs.Timelines.{on_then, on_happened, image_on, facts_on, past_on, history_on}
use Rattle.operation_laws.proofs.courses.happenings_follow.Goals as goal

pub returns-clause-stores : goal.returns-clause-stores
returns-clause-stores c = image_on

pub returns-clause-happened : goal.returns-clause-happened
returns-clause-happened c = on_happened

pub returns-clause-entries : goal.returns-clause-entries
returns-clause-entries c = history_on

pub returns-clause-facts : goal.returns-clause-facts
returns-clause-facts c = facts_on

pub returns-clause-states : goal.returns-clause-states
returns-clause-states c = past_on

pub returns-clause-joined : goal.returns-clause-joined
returns-clause-joined c = on_then
