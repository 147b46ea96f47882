use Rattle.image_laws.proofs.CatalogCommits.{table_keeps_sound, meaning-put_table}
use Rattle.image_laws.proofs.catalogs.table_keeps_sound.Goals as goal

pub returns-clause-sound : goal.returns-clause-sound
returns-clause-sound c = table_keeps_sound

pub returns-clause-meaning : goal.returns-clause-meaning
returns-clause-meaning c = meaning-put_table
