use Rattle.std.proofs.Common.{refl}
use Rattle.image_laws.proofs.StepImages.{unlogged_sound}
use Rattle.image_laws.proofs.steps.undone_operations_go.Goals as goal

pub returns-clause-sound : goal.returns-clause-sound
returns-clause-sound c = unlogged_sound

pub returns-clause-meaning : goal.returns-clause-meaning
returns-clause-meaning c image op = refl
