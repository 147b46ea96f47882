use Rattle.image_laws.proofs.LogKeepsSound.{log_keeps_sound}
use Rattle.image_laws.proofs.keeping.log_keeps_sound.Goals as goal

pub returns : goal.returns
returns c = log_keeps_sound
