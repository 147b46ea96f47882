use Rattle.std.proofs.Common.{None, arith}
use Rattle.connections.proofs.TableLaws.{place-set, place_within}
use Rattle.connections.proofs.table.Connections.close_key.Goals as goal

pub returns-clause-gone : goal.returns-clause-gone
returns-clause-gone c =
    let within = place_within c.args.self.now c.args.number c.at.result c.at.ensures (grind arith) in
    rw (← c.self.view_is) (place-set c.self.inside.places c.args.number None within.0 (rw c.self.view_is within.1))
