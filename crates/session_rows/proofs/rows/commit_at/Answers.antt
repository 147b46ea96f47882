use Rattle.session_rows.proofs.SiteCalls.{commit_tells, commit_stops, commit_rose}
use Rattle.session_rows.proofs.rows.commit_at.Goals as goal

pub returns-in_err-commit-clause-tells : goal.returns-in_err-commit-clause-tells
returns-in_err-commit-clause-tells g c =
    commit_stops (g.W.World.outside c.args.world.now) (g.W.World.outside c.commit.new.self) c.args.location.now c.locate.result c.locate.ensures c.in-Some.site c.in-Some.is c.args.change.now
    c.in_err-commit.field-0.0 c.in_err-commit.ensures.made c.from_residual.result c.from_residual.ensures

pub returns-in_err-commit-clause-cause : goal.returns-in_err-commit-clause-cause
returns-in_err-commit-clause-cause g c =
    commit_rose (g.W.World.outside c.args.world.now) (g.W.World.outside c.commit.new.self) c.args.location.now c.locate.result c.locate.ensures c.in-Some.site c.in-Some.is c.args.change.now
    c.in_err-commit.field-0.0 c.in_err-commit.ensures.made c.in_err-commit.ensures.cause c.from_residual.result c.from_residual.ensures

pub returns-clause-tells : goal.returns-clause-tells
returns-clause-tells g c =
    commit_tells (g.W.World.outside c.args.world.now) (g.W.World.outside c.commit.new.self) c.args.location.now c.locate.result c.locate.ensures c.in-Some.site c.in-Some.is c.args.change.now
    c.in_ok-commit.field-0 c.in_ok-commit.ensures.made
