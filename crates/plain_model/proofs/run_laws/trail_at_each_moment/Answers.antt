use Rattle.plain_model.proofs.TrailAtMoments.{trail_from_moments}
use Rattle.plain_model.proofs.run_laws.trail_at_each_moment.Goals as goal

pub returns : goal.returns
returns c = trail_from_moments
