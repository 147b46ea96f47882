use Rattle.mark_tests.proofs.Sites.{is_site, is_shard}
use Rattle.world_memory.specs.Memory.{outside_of}
use Rattle.mark_tests.proofs.worlds.change_by.Goals as goal

pub change_at-requires-clause-site : goal.change_at-requires-clause-site
change_at-requires-clause-site c = is_site (outside_of c.args.world.now) c.in_ok-at.at c.in-Some.site c.locate.result c.locate.ensures c.in-Some.is

pub change_at-requires-clause-shard : goal.change_at-requires-clause-shard
change_at-requires-clause-shard c = is_shard (outside_of c.args.world.now) c.in_ok-at.at c.in-Some.site c.locate.result c.locate.ensures c.in-Some.is
