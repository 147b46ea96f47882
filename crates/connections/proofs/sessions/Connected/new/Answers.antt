use Rattle.connections.proofs.SessionLaws.{no_sessions}
use Rattle.connections.proofs.sessions.Connected.new.Goals as goal

pub returns-clause-nobody : goal.returns-clause-nobody
returns-clause-nobody c = no_sessions c.loop.tables.items c.loop.invariant.nobody
