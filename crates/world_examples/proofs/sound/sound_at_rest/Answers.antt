use Rattle.world_examples.proofs.AtRest.{rest_sound}
use Rattle.world_examples.proofs.sound.sound_at_rest.Goals as goal

pub returns : goal.returns
returns c = rest_sound
