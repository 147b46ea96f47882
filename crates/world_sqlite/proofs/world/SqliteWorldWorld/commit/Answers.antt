use Rattle.sqlite_site.specs.Kept.{store_of}
use Rattle.world_sqlite.proofs.TellLaws.{commits}
use Rattle.world_sqlite.proofs.world.SqliteWorldWorld.commit.Goals as goal

pub returns-clause-made : goal.returns-clause-made
returns-clause-made g c =
    let w = c.args.self.now in
    commits g.S.Keeping.tells w.locations.items w.sites.items (λ s. store_of g.S.Store s.conn) (λ s. s.faults) w.sink_faults w.global_reads c.args.site c.index_mut.result.now _ c.commit.new.self w.distinct w.each c.requires c.index_mut.ensures.value c.args.change.now c.commit.result c.index_mut.result.now.counted c.commit.ensures.count c.commit.ensures.told
