use Rattle.image_laws.proofs.CatalogCommits.{shard_keeps_sound, meaning-put_shard}
use Rattle.image_laws.proofs.catalogs.shard_keeps_sound.Goals as goal

pub returns-clause-sound : goal.returns-clause-sound
returns-clause-sound c = shard_keeps_sound

pub returns-clause-meaning : goal.returns-clause-meaning
returns-clause-meaning c = meaning-put_shard
