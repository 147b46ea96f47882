use Rattle.site_names.proofs.FirstNamed.{not_where_located, where_not_located}
use Rattle.site_names.proofs.naming.unknown_of.Goals as goal

pub returns-in-Some : goal.returns-in-Some
returns-in-Some g c = not_where_located (g.W.World.outside c.args.world.now).locations c.args.location.now c.locate.result _ c.locate.ensures c.in-Some.is

pub returns-in-None : goal.returns-in-None
returns-in-None g c = where_not_located (g.W.World.outside c.args.world.now).locations c.args.location.now c.locate.result c.locate.ensures c.in-None.is
