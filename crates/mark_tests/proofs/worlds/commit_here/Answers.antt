use Rattle.mark_tests.proofs.Sites.{is_site}
use Rattle.world_memory.specs.Memory.{outside_of}
use Rattle.mark_tests.proofs.worlds.commit_here.Goals as goal

pub commit-requires : goal.commit-requires
commit-requires c = is_site (outside_of c.args.world.now) c.in_ok-at.at c.in-Some.site c.locate.result c.locate.ensures c.in-Some.is
