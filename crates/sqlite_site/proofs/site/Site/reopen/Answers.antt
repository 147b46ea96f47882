use Rattle.std.proofs.Common.{ap, sym, subst}
use Rattle.sqlite_site.specs.Kept.{IsKept, store_of}
use Rattle.sqlite_site.proofs.site.Site.reopen.Goals as goal

pub invariant_of-self-clause-kept : goal.invariant_of-self-clause-kept
invariant_of-self-clause-kept g c t = subst (λ conn. ∥ IsKept g.S.Store conn ∥₁) (sym (c.reopen-done.ensures t)) (c.args.self.now.kept t)

pub returns-clause-stays : goal.returns-clause-stays
returns-clause-stays g c t = ap (store_of g.S.Store) (c.reopen-done.ensures t)
