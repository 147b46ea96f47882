use Rattle.sqlite_site.proofs.KeptLemmas.{new_kept}
use Rattle.sqlite_site.proofs.site.Site.open.Goals as goal

pub invariant_of-result-clause-kept : goal.invariant_of-result-clause-kept
invariant_of-result-clause-kept g c t = (new_kept g.S.Store c.in-Ok.conn (c.in-Ok.ensures t)).0

pub returns-in-Ok-clause-empty : goal.returns-in-Ok-clause-empty
returns-in-Ok-clause-empty g c t = (new_kept g.S.Store c.in-Ok.conn (c.in-Ok.ensures t)).1
