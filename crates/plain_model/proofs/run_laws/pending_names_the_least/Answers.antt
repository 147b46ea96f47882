use Rattle.plain_model.proofs.LiveAtMoments.{pending_by_moments}
use Rattle.plain_model.proofs.run_laws.pending_names_the_least.Goals as goal

pub returns : goal.returns
returns c = pending_by_moments
