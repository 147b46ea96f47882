use Rattle.world_examples.proofs.AtRest.{detached_sound}
use Rattle.world_examples.proofs.sound.sound_with_a_detached_site.Goals as goal

pub returns : goal.returns
returns c = detached_sound
