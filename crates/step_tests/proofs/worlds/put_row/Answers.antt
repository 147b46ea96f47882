use Rattle.world_memory.specs.Memory.{outside_of}
use Rattle.step_tests.proofs.Sites.{is_site}
use Rattle.step_tests.proofs.worlds.put_row.Goals as goal

pub commit-requires : goal.commit-requires
commit-requires c = is_site (outside_of c.args.world.now) c.args.at.now c.in-Some.site c.locate.result c.locate.ensures c.in-Some.is
