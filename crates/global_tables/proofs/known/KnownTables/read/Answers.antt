use Rattle.global_tables.proofs.KnownLaws.{known_tells}
use Rattle.global_tables.proofs.known.KnownTables.read.Goals as goal

pub returns-clause-found : goal.returns-clause-found
returns-clause-found g c =
    known_tells (g.W.World.outside c.args.world.now).told _ _ _ _ c.in_ok-maps.ensures.told c.in_ok-shards.ensures.told c.in_ok-tables.ensures.told c.in_ok-away.ensures.told
    c.in_ok-maps.maps.items c.in_ok-shards.shards.items c.in_ok-tables.tables.items c.in_ok-away.away.items c.in_ok-jobs.jobs.items
    c.in_ok-maps.ensures.found c.in_ok-shards.ensures.found c.in_ok-tables.ensures.found c.in_ok-away.ensures.found c.in_ok-jobs.ensures.found
