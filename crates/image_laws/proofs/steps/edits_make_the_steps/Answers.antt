use Rattle.image_laws.proofs.EditImages.{edits_step, edits_undo, edits_settle}
use Rattle.image_laws.proofs.steps.edits_make_the_steps.Goals as goal

pub returns-clause-step : goal.returns-clause-step
returns-clause-step c = edits_step

pub returns-clause-undo : goal.returns-clause-undo
returns-clause-undo c = edits_undo

pub returns-clause-settle : goal.returns-clause-settle
returns-clause-settle c = edits_settle
