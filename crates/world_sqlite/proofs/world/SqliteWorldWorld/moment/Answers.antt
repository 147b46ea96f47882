use Rattle.sqlite_site.specs.Kept.{store_of}
use Rattle.world_sqlite.specs.Counted.{stores_of}
use Rattle.world_sqlite.proofs.TellLaws.{no_trail}
use Rattle.world_sqlite.proofs.world.SqliteWorldWorld.moment.Goals as goal

pub returns : goal.returns
returns g c = let w = c.args.self.now in no_trail g.S.Keeping.tells w.locations.items (stores_of (λ s. store_of g.S.Store s.conn) w.sites.items) _
