use Rattle.image_laws.proofs.EmptyLaws.{empty_sound}
use Rattle.image_laws.proofs.keeping.empty_is_sound.Goals as goal

pub returns : goal.returns
returns c = empty_sound
