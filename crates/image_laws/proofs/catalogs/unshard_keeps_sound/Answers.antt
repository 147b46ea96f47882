use Rattle.image_laws.proofs.CatalogCommits.{unshard_keeps_sound, meaning-unshard}
use Rattle.image_laws.proofs.catalogs.unshard_keeps_sound.Goals as goal

pub returns-clause-sound : goal.returns-clause-sound
returns-clause-sound c = unshard_keeps_sound

pub returns-clause-meaning : goal.returns-clause-meaning
returns-clause-meaning c = meaning-unshard
