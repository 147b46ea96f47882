use Rattle.cell_world.specs.Finding.{IsNextKey}
use Rattle.sqlite_site.specs.Kept.{store_of}
use Rattle.world_sqlite.proofs.TellLaws.{looks, finds}
use Rattle.world_sqlite.proofs.world.SqliteWorldWorld.next_key.Goals as goal

pub returns-clause-found : goal.returns-clause-found
returns-clause-found g c =
    let w = c.args.self.now in
    finds g.S.Keeping.tells w.locations.items w.sites.items (λ s. store_of g.S.Store s.conn) (λ s. s.faults) w.sink_faults w.global_reads c.args.site c.index_mut.result.now _ c.next_key.new.self w.distinct w.each c.requires c.index_mut.ensures.value c.next_key.result (λ s found. IsNextKey s.rows c.args.map.now c.args.from.now c.args.past found) c.next_key.ensures.told

pub returns-clause-same : goal.returns-clause-same
returns-clause-same g c =
    let w = c.args.self.now in
    looks g.S.Keeping.tells w.locations.items w.sites.items (λ s. store_of g.S.Store s.conn) (λ s. s.faults) w.sink_faults w.global_reads c.args.site c.index_mut.result.now _ c.next_key.new.self w.distinct w.each c.requires c.index_mut.ensures.value c.next_key.result c.counted-self.result c.index_mut.result.now.counted c.next_key.ensures.count c.next_key.ensures.stays c.counted-self.ensures
