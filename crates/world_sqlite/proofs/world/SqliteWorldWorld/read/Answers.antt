use Rattle.std.proofs.Common.{◌≡◌}
use Rattle.cell_world.specs.Stores.{cell_at}
use Rattle.sqlite_site.specs.Kept.{store_of}
use Rattle.world_sqlite.proofs.TellLaws.{looks, finds}
use Rattle.world_sqlite.proofs.world.SqliteWorldWorld.read.Goals as goal

pub returns-clause-found : goal.returns-clause-found
returns-clause-found g c =
    let w = c.args.self.now in
    finds g.S.Keeping.tells w.locations.items w.sites.items (λ s. store_of g.S.Store s.conn) (λ s. s.faults) w.sink_faults w.global_reads c.args.site c.index_mut.result.now _ c.read.new.self w.distinct w.each c.requires c.index_mut.ensures.value c.read.result (λ s found. found ≡ cell_at s c.args.key.now) c.read.ensures.told

pub returns-clause-same : goal.returns-clause-same
returns-clause-same g c =
    let w = c.args.self.now in
    looks g.S.Keeping.tells w.locations.items w.sites.items (λ s. store_of g.S.Store s.conn) (λ s. s.faults) w.sink_faults w.global_reads c.args.site c.index_mut.result.now _ c.read.new.self w.distinct w.each c.requires c.index_mut.ensures.value c.read.result c.counted-self.result c.index_mut.result.now.counted c.read.ensures.count c.read.ensures.stays c.counted-self.ensures
