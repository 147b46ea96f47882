use Rattle.image_laws.proofs.StepImages.{settle_sound, settled_clean}
use Rattle.image_laws.proofs.steps.settling_keeps_sound.Goals as goal

pub returns-clause-sound : goal.returns-clause-sound
returns-clause-sound c = settle_sound

pub returns-clause-clean : goal.returns-clause-clean
returns-clause-clean c = settled_clean
