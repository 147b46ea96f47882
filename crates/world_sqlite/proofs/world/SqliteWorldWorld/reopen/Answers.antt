use Rattle.std.proofs.Common.{arith}
use Rattle.sqlite_site.specs.Kept.{store_of}
use Rattle.sqlite_site.proofs.KeptLemmas.{kept_store}
use Rattle.world_sqlite.proofs.CountLaws.{fails_with_rise, site_within}
use Rattle.world_sqlite.proofs.TellLaws.{reopens}
use Rattle.world_sqlite.proofs.world.SqliteWorldWorld.reopen.Goals as goal

pub returns-clause-reopened : goal.returns-clause-reopened
returns-clause-reopened g c =
    let w = c.args.self.now in
    reopens g.S.Keeping.tells w.locations.items w.sites.items (λ s. store_of g.S.Store s.conn) (λ s. s.faults) w.sink_faults w.global_reads c.args.site c.index_mut.result.now _ c.reopen.new.self w.distinct w.each c.requires c.index_mut.ensures.value c.reopen.result (λ t. kept_store g.S.Store c.index_mut.result.now.conn (c.index_mut.result.now.kept t)) c.index_mut.result.now.counted c.reopen.ensures.count c.reopen.ensures.stays

pub returns-clause-cause : goal.returns-clause-cause
returns-clause-cause g c =
    let w = c.args.self.now in
    let less = site_within w.locations.items c.args.site.0 c.requires in
    fails_with_rise w.sites.items (λ s. s.faults) c.args.site.0 c.index_mut.result.now _ c.reopen.new.self c.reopen.result (omega (arith, less, w.each)) c.index_mut.ensures.value c.reopen.ensures.count
