use Rattle.global_tables.proofs.Counting.{scan_tells}
use Rattle.global_tables.proofs.counts.is_full.Goals as goal

pub returns-in-Ok-clause-found : goal.returns-in-Ok-clause-found
returns-in-Ok-clause-found g c =
    scan_tells (g.W.World.outside c.args.world.now).told c.args.group.now c.args.limit c.least.result c.deref.result.now c.in-Ok.found.items c.count.result (g.W.World.laws c.args.world.now).cells
    c.least.ensures c.deref.ensures.value c.count.ensures.count c.in-Ok.ensures.found
