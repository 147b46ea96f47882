use Rattle.plain_model.proofs.OneTimeline.{moment_now, image_now, stretch_grows}
use Rattle.plain_model.proofs.run_laws.runs_on_its_trail.Goals as goal

pub returns-clause-moment : goal.returns-clause-moment
returns-clause-moment c = moment_now

pub returns-clause-image : goal.returns-clause-image
returns-clause-image c = image_now

pub returns-clause-grows : goal.returns-clause-grows
returns-clause-grows c = stretch_grows
