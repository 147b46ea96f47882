use Rattle.image_laws.proofs.CatalogLaws.{catalog_keeps_sound, meaning-catalog}
use Rattle.image_laws.proofs.catalogs.catalogs_keep_sound.Goals as goal

pub returns-clause-sound : goal.returns-clause-sound
returns-clause-sound c = catalog_keeps_sound

pub returns-clause-meaning : goal.returns-clause-meaning
returns-clause-meaning c = meaning-catalog
