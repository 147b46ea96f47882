use Rattle.map_ops.proofs.KnownLocations.{location_known}
use Rattle.map_ops.proofs.refusals.is_location.Goals as goal

pub returns : goal.returns
returns g c = location_known (g.W.World.outside c.args.world.now) (g.W.World.laws c.args.world.now) c.args.at.now c.locate.result c.is_some.result c.is_some.ensures c.locate.ensures
