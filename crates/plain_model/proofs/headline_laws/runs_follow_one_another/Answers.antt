use Rattle.plain_model.proofs.RunSoFar.{keeps_then, contents_then}
use Rattle.plain_model.proofs.headline_laws.runs_follow_one_another.Goals as goal

pub returns-clause-on_trail : goal.returns-clause-on_trail
returns-clause-on_trail c = keeps_then

pub returns-clause-by_states : goal.returns-clause-by_states
returns-clause-by_states c = contents_then
