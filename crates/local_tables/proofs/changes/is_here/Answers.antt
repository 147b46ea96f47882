use Rattle.local_tables.proofs.SitesHere.{none_here, number_here}
use Rattle.local_tables.proofs.changes.is_here.Goals as goal

pub returns-in-None : goal.returns-in-None
returns-in-None g c location place = none_here (g.W.World.outside c.args.world.now).locations (g.W.World.laws c.args.world.now).distinct c.args.site location place c.args.at.now c.locate.result c.locate.ensures c.in-None.is

pub returns-in-Some : goal.returns-in-Some
returns-in-Some g c location place =
    number_here (g.W.World.outside c.args.world.now).locations (g.W.World.laws c.args.world.now).distinct c.args.site location place c.args.at.now c.locate.result c.in-Some.found c.locate.ensures c.in-Some.is
