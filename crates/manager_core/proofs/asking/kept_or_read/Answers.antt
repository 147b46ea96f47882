use Rattle.cell_world.proofs.OutsideLaws.{store_rose_one}
use Rattle.manager_core.proofs.asking.kept_or_read.Goals as goal

pub returns-in-None-clause-cause : goal.returns-in-None-clause-cause
returns-in-None-clause-cause g c = λ is. store_rose_one (g.W.World.outside c.args.world.now) (g.W.World.outside c.read.new.world) c.read.ensures.later.faults (c.read.ensures.cause is)
