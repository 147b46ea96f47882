use Rattle.plain_model.proofs.RunsAtMoments.{runs_by_moments}
use Rattle.plain_model.proofs.run_laws.runs_at_each_moment.Goals as goal

pub returns : goal.returns
returns c = runs_by_moments
