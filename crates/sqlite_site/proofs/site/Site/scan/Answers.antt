use Rattle.cell_world.specs.Finding.{IsScan}
use Rattle.sqlite_site.proofs.KeptLemmas.{told_finds, told_leaves, answered}
use Rattle.sqlite_site.proofs.site.Site.scan.Goals as goal

pub invariant_of-self-clause-kept : goal.invariant_of-self-clause-kept
invariant_of-self-clause-kept g c t = (told_leaves g.S.Store c.args.self.now.conn c.scan-done.new.conn (g.met.S.Keeping.steady t) (c.args.self.now.kept t) c.scan-done.ensures.same c.scan-done.ensures.idle).0

pub returns-clause-stays : goal.returns-clause-stays
returns-clause-stays g c t = (told_leaves g.S.Store c.args.self.now.conn c.scan-done.new.conn (g.met.S.Keeping.steady t) (c.args.self.now.kept t) c.scan-done.ensures.same c.scan-done.ensures.idle).1

pub returns-clause-told : goal.returns-clause-told
returns-clause-told g c t =
    told_finds g.S.Store c.args.self.now.conn c.scan-done.new.conn c.scan-done.result c.counted.result (λ s found. IsScan s c.args.from.now c.args.limit found.items) (g.met.S.Keeping.steady t) (c.args.self.now.kept t) c.counted.ensures.answer c.scan-done.ensures.cells

pub returns-clause-cells : goal.returns-clause-cells
returns-clause-cells g c = answered c.scan-done.result c.counted.result _ c.counted.ensures.answer c.scan-done.ensures.cells
