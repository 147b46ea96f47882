use Rattle.connection_laws.proofs.EndedLaws.{detached_owned}
use Rattle.connection_laws.proofs.ending.detaching_keeps_connections.Goals as goal

pub returns : goal.returns
returns c = detached_owned
