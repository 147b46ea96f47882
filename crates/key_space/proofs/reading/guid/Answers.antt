use Rattle.key_space.proofs.Readings.{guid_some}
use Rattle.key_space.proofs.reading.guid.Goals as goal

pub returns-in-Ok-clause-ok : goal.returns-in-Ok-clause-ok
returns-in-Ok-clause-ok c = guid_some c.args.text.now _ c.in-Ok.ensures.ok
