use Rattle.cell_world.specs.Finding.{IsScan}
use Rattle.sqlite_site.proofs.KeptLemmas.{leaves_there, stores_there}
use Rattle.sqlite_site.proofs.opened.scan.Goals as goal

pub returns-clause-cells : goal.returns-clause-cells
returns-clause-cells g c = stores_there g.S.Store c.args.conn.now c.in-Some.conn c.scan.new.conn c.scan.result (λ s found. IsScan s c.args.from.now c.args.limit found.items) c.in-Some.is c.scan.ensures.cells

pub returns-clause-same : goal.returns-clause-same
returns-clause-same g c = leaves_there g.S.Store c.args.conn.now c.in-Some.conn c.scan.new.conn c.in-Some.is c.scan.ensures.same
