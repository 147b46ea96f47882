use Rattle.world_sqlite.proofs.CountLaws.{fresh_pushed}
use Rattle.world_sqlite.proofs.TellLaws.{empty_pushed}
use Rattle.sqlite_site.specs.Kept.{store_of}
use Rattle.world_sqlite.proofs.world.add_site.Goals as goal

pub returns-clause-fresh : goal.returns-clause-fresh
returns-clause-fresh g c all one = fresh_pushed c.args.sites.now.items c.push.new.self.items c.args.site (λ s. s.faults) c.in_ok-push.ensures.items all one

pub returns-clause-empty : goal.returns-clause-empty
returns-clause-empty g c all one = empty_pushed c.args.sites.now.items c.push.new.self.items c.args.site (λ s. store_of g.S.Store s.conn) c.in_ok-push.ensures.items all one
