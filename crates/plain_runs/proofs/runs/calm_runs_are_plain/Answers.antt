use Rattle.plain_runs.proofs.PlainHeadlines.{plain_by_states, plain_on_trail}
use Rattle.plain_runs.proofs.runs.calm_runs_are_plain.Goals as goal

pub returns-clause-by_states : goal.returns-clause-by_states
returns-clause-by_states c = plain_by_states

pub returns-clause-on_trail : goal.returns-clause-on_trail
returns-clause-on_trail c = plain_on_trail
