use Rattle.table_tests.proofs.Sites.{is_site, is_shard}
use Rattle.world_memory.specs.Memory.{outside_of}
use Rattle.table_tests.proofs.locals.status_at.Goals as goal

pub resolved_at-requires-clause-site : goal.resolved_at-requires-clause-site
resolved_at-requires-clause-site c = is_site (outside_of c.args.world.now) c.args.at.now c.in-Some.site c.locate.result c.locate.ensures c.in-Some.is

pub resolved_at-requires-clause-shard : goal.resolved_at-requires-clause-shard
resolved_at-requires-clause-shard c = is_shard (outside_of c.args.world.now) c.args.at.now c.in-Some.site c.locate.result c.locate.ensures c.in-Some.is
