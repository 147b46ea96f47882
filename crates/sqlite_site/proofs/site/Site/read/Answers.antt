use Rattle.std.proofs.Common.{◌≡◌}
use Rattle.cell_world.specs.Stores.{cell_at}
use Rattle.sqlite_site.proofs.KeptLemmas.{told_finds, told_leaves}
use Rattle.sqlite_site.proofs.site.Site.read.Goals as goal

pub invariant_of-self-clause-kept : goal.invariant_of-self-clause-kept
invariant_of-self-clause-kept g c t = (told_leaves g.S.Store c.args.self.now.conn c.read-done.new.conn (g.met.S.Keeping.steady t) (c.args.self.now.kept t) c.read-done.ensures.same c.read-done.ensures.idle).0

pub returns-clause-stays : goal.returns-clause-stays
returns-clause-stays g c t = (told_leaves g.S.Store c.args.self.now.conn c.read-done.new.conn (g.met.S.Keeping.steady t) (c.args.self.now.kept t) c.read-done.ensures.same c.read-done.ensures.idle).1

pub returns-clause-told : goal.returns-clause-told
returns-clause-told g c t =
    told_finds g.S.Store c.args.self.now.conn c.read-done.new.conn c.read-done.result c.counted.result (λ s found. found ≡ cell_at s c.args.key.now) (g.met.S.Keeping.steady t) (c.args.self.now.kept t) c.counted.ensures.answer c.read-done.ensures.cells
