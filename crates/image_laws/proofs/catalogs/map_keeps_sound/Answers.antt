use Rattle.image_laws.proofs.CatalogCommits.{map_keeps_sound, meaning-put_map}
use Rattle.image_laws.proofs.catalogs.map_keeps_sound.Goals as goal

pub returns-clause-sound : goal.returns-clause-sound
returns-clause-sound c = map_keeps_sound

pub returns-clause-meaning : goal.returns-clause-meaning
returns-clause-meaning c = meaning-put_map
