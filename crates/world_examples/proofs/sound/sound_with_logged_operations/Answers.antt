use Rattle.world_examples.proofs.Logged.{logged_sound}
use Rattle.world_examples.proofs.sound.sound_with_logged_operations.Goals as goal

pub returns : goal.returns
returns c = logged_sound
