use Rattle.mapping_plans.proofs.SiteReads.{rows_read, read_rose}
use Rattle.mapping_plans.proofs.site_rows.has_rows.Goals as goal

pub returns-in-Ok-clause-found : goal.returns-in-Ok-clause-found
returns-in-Ok-clause-found g c =
    rows_read (g.W.World.outside c.args.world.now) (g.W.World.laws c.args.world.now) c.args.piece.now c.locate.result c.locate.ensures c.in-Some.site c.in-Some.is c.low.result.now c.low.ensures
    c.in-Ok.found c.in-Ok.ensures.found c.is_over.result c.is_over.ensures

pub returns-in-Err-clause-cause : goal.returns-in-Err-clause-cause
returns-in-Err-clause-cause g c stops =
    read_rose (g.W.World.outside c.args.world.now) _ c.args.piece.now c.locate.result c.locate.ensures c.in-Some.site c.in-Some.is c.in-Err.ensures.same
    _ c.in-Err.error c.in-Err.ensures.cause c.fault_of.result c.fault_of.ensures.memory c.stop_of.result c.stop_of.ensures.memory _ stops
