use Rattle.session_rows.proofs.SiteCalls.{read_finds, read_rose}
use Rattle.session_rows.proofs.rows.read_at.Goals as goal

pub returns-in_err-found-clause-cause : goal.returns-in_err-found-clause-cause
returns-in_err-found-clause-cause g c =
    read_rose (g.W.World.outside c.args.world.now) (g.W.World.outside c.read.new.self) c.args.location.now c.locate.result c.locate.ensures c.in-Some.site c.in-Some.is
    _ c.in_err-found.field-0.0 c.in_err-found.ensures.same c.in_err-found.ensures.cause c.from_residual.result c.from_residual.ensures

pub returns-clause-found : goal.returns-clause-found
returns-clause-found g c =
    read_finds (g.W.World.outside c.args.world.now) (g.W.World.outside c.read.new.self) c.args.location.now c.locate.result c.locate.ensures c.in-Some.site c.in-Some.is
    c.args.row.now c.in_ok-found.found c.in_ok-found.ensures.found c.bytes_in.result c.bytes_in.ensures.found
