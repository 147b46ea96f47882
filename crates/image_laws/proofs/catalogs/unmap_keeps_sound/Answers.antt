use Rattle.image_laws.proofs.CatalogCommits.{unmap_keeps_sound, meaning-unmap, changed-unmap}
use Rattle.image_laws.proofs.catalogs.unmap_keeps_sound.Goals as goal

pub returns-clause-sound : goal.returns-clause-sound
returns-clause-sound c = unmap_keeps_sound

pub returns-clause-meaning : goal.returns-clause-meaning
returns-clause-meaning c = meaning-unmap

pub returns-clause-edits : goal.returns-clause-edits
returns-clause-edits c = changed-unmap
