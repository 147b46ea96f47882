use Rattle.world_examples.proofs.Moving.{moving_sound}
use Rattle.world_examples.proofs.sound.sound_with_a_job.Goals as goal

pub returns : goal.returns
returns c = moving_sound
