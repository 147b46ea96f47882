use Rattle.manager_core.proofs.TakingLaws.{takes_below}
use Rattle.manager_core.proofs.beginning.take_up_below.Goals as goal

pub returns-clause-takes : goal.returns-clause-takes
returns-clause-takes g c = takes_below c.args.live.now c.args.op.now (g.W.World.outside c.args.world.now) (g.W.World.outside c.begin.new.world) c.begin.result c.begin.ensures.passes c.begin.ensures.says c.taken_of.result c.taken_of.ensures
