use Rattle.world_examples.proofs.AtRest.{compare_sound}
use Rattle.world_examples.proofs.sound.sound_with_a_suspect_site.Goals as goal

pub returns : goal.returns
returns c = compare_sound
