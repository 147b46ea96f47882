use Rattle.cell_world.specs.Finding.{IsFloor}
use Rattle.sqlite_site.proofs.KeptLemmas.{told_finds, told_leaves, answered}
use Rattle.sqlite_site.proofs.site.Site.floor.Goals as goal

pub invariant_of-self-clause-kept : goal.invariant_of-self-clause-kept
invariant_of-self-clause-kept g c t = (told_leaves g.S.Store c.args.self.now.conn c.floor-done.new.conn (g.met.S.Keeping.steady t) (c.args.self.now.kept t) c.floor-done.ensures.same c.floor-done.ensures.idle).0

pub returns-clause-stays : goal.returns-clause-stays
returns-clause-stays g c t = (told_leaves g.S.Store c.args.self.now.conn c.floor-done.new.conn (g.met.S.Keeping.steady t) (c.args.self.now.kept t) c.floor-done.ensures.same c.floor-done.ensures.idle).1

pub returns-clause-told : goal.returns-clause-told
returns-clause-told g c t =
    told_finds g.S.Store c.args.self.now.conn c.floor-done.new.conn c.floor-done.result c.counted.result (λ s found. IsFloor s c.args.key.now found) (g.met.S.Keeping.steady t) (c.args.self.now.kept t) c.counted.ensures.answer c.floor-done.ensures.cells

pub returns-clause-cells : goal.returns-clause-cells
returns-clause-cells g c = answered c.floor-done.result c.counted.result _ c.counted.ensures.answer c.floor-done.ensures.cells
