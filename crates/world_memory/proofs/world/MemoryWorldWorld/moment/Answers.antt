use Rattle.std.proofs.Common.{arith}
use Rattle.world_memory.proofs.Trails.{moments}
use Rattle.world_memory.proofs.world.MemoryWorldWorld.moment.Goals as goal

pub returns : goal.returns
returns c = let m = moments c.args.self.now.locations.items c.args.self.now.happened.items c.args.self.now.start c.args.self.now.within in grind (arith, m, c.len.ensures, c.args.self.now.happened.ok)
