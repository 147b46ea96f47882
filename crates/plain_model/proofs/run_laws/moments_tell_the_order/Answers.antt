use Rattle.plain_model.proofs.LegalAtMoments.{legal_by_moments}
use Rattle.plain_model.proofs.LegalBack.{legal_from_moments}
use Rattle.plain_model.proofs.OneTimeline.{one_timeline}
use Rattle.plain_model.proofs.run_laws.moments_tell_the_order.Goals as goal

pub returns-clause-at_moments : goal.returns-clause-at_moments
returns-clause-at_moments c = legal_by_moments

pub returns-clause-in_order : goal.returns-clause-in_order
returns-clause-in_order c = legal_from_moments

pub returns-clause-one : goal.returns-clause-one
returns-clause-one c = one_timeline
