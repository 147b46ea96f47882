use Rattle.sqlite_site.proofs.KeptLemmas.{told_commits}
use Rattle.sqlite_site.proofs.site.Site.commit.Goals as goal

pub invariant_of-self-clause-kept : goal.invariant_of-self-clause-kept
invariant_of-self-clause-kept g c t =
    (told_commits g.S.Store c.args.self.now.conn c.commit-done.new.conn c.args.change.now c.commit-done.result c.counted.result (g.met.S.Keeping.steady t) (c.args.self.now.kept t) c.counted.ensures.answer c.commit-done.ensures.changed c.commit-done.ensures.unmade c.commit-done.ensures.idle).0

pub returns-clause-told : goal.returns-clause-told
returns-clause-told g c t =
    (told_commits g.S.Store c.args.self.now.conn c.commit-done.new.conn c.args.change.now c.commit-done.result c.counted.result (g.met.S.Keeping.steady t) (c.args.self.now.kept t) c.counted.ensures.answer c.commit-done.ensures.changed c.commit-done.ensures.unmade c.commit-done.ensures.idle).1
