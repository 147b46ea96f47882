use Rattle.cell_world.specs.Finding.{IsNextKey}
use Rattle.sqlite_site.proofs.KeptLemmas.{told_finds, told_leaves}
use Rattle.sqlite_site.proofs.site.Site.next_key.Goals as goal

pub invariant_of-self-clause-kept : goal.invariant_of-self-clause-kept
invariant_of-self-clause-kept g c t = (told_leaves g.S.Store c.args.self.now.conn c.next_key-done.new.conn (g.met.S.Keeping.steady t) (c.args.self.now.kept t) c.next_key-done.ensures.same c.next_key-done.ensures.idle).0

pub returns-clause-stays : goal.returns-clause-stays
returns-clause-stays g c t = (told_leaves g.S.Store c.args.self.now.conn c.next_key-done.new.conn (g.met.S.Keeping.steady t) (c.args.self.now.kept t) c.next_key-done.ensures.same c.next_key-done.ensures.idle).1

pub returns-clause-told : goal.returns-clause-told
returns-clause-told g c t =
    told_finds g.S.Store c.args.self.now.conn c.next_key-done.new.conn c.next_key-done.result c.counted.result (λ s found. IsNextKey s.rows c.args.map.now c.args.from.now c.args.past found) (g.met.S.Keeping.steady t) (c.args.self.now.kept t) c.counted.ensures.answer c.next_key-done.ensures.cells
