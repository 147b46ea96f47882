use Rattle.connection_laws.proofs.ShortLaws.{short_owned, sound_on_shards}
use Rattle.connection_laws.proofs.shorts.short_commands_keep_connections.Goals as goal

pub returns-clause-kept : goal.returns-clause-kept
returns-clause-kept c = short_owned

pub returns-clause-sound : goal.returns-clause-sound
returns-clause-sound c = sound_on_shards
