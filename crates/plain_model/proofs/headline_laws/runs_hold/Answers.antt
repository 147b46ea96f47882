use Rattle.plain_model.proofs.RunsAreHeadlines.{holds_on_trail, holds_by_states}
use Rattle.plain_model.proofs.headline_laws.runs_hold.Goals as goal

pub returns-clause-on_trail : goal.returns-clause-on_trail
returns-clause-on_trail c = holds_on_trail

pub returns-clause-by_states : goal.returns-clause-by_states
returns-clause-by_states c = holds_by_states
