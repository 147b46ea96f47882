use Rattle.global_tables.proofs.Owners.{owner_tells}
use Rattle.global_tables.proofs.lookups.piece_at.Goals as goal

pub returns-clause-found : goal.returns-clause-found
returns-clause-found g c =
    owner_tells (g.W.World.outside c.args.world.now).told c.args.map.now c.args.key.now c.in_ok-below.below c.if_over.result c.if_over.ensures c.in_ok-below.ensures.found
