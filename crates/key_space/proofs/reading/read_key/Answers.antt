use Rattle.key_space.proofs.Readings.{exact_of}
use Rattle.key_space.proofs.reading.read_key.Goals as goal

pub returns-clause-exact : goal.returns-clause-exact
returns-clause-exact c = exact_of c.args.kind c.args.text.now c.key_at.result c.key_at.ensures.ok c.key_at.ensures.err
