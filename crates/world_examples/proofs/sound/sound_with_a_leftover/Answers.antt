use Rattle.world_examples.proofs.Leftover.{left_sound}
use Rattle.world_examples.proofs.sound.sound_with_a_leftover.Goals as goal

pub returns : goal.returns
returns c = left_sound
