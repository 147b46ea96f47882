use Rattle.std.proofs.Common.{◌≤◌, length, Some, arith}
use Rattle.connections.proofs.TableLaws.{place-set}
use Rattle.connections.proofs.table.Connections.put.Goals as goal

pub returns : goal.returns
returns c =
    let within : c.args.number ≤ length c.self.inside.places = omega (arith, c.self.invariant) in
    rw (← c.self.view_is) (place-set c.self.inside.places c.args.number (Some c.args.link.now) c.requires.least within)
