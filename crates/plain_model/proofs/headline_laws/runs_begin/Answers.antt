use Rattle.plain_model.proofs.RunSoFar.{run_begins, run_begins_to}
use Rattle.plain_model.proofs.headline_laws.runs_begin.Goals as goal

pub returns-clause-on_trail : goal.returns-clause-on_trail
returns-clause-on_trail c = run_begins

pub returns-clause-by_states : goal.returns-clause-by_states
returns-clause-by_states c = run_begins_to
