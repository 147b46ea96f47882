use Rattle.op_steps.proofs.SettleLaws.{no_site, some_site}
use Rattle.op_steps.proofs.settling.settle_if.Goals as goal

pub returns-in-None-clause-passes : goal.returns-in-None-clause-passes
returns-in-None-clause-passes g c = no_site c.args.op.now c.args.location.now (g.W.World.outside c.args.world.now) c.in-None.is

pub returns-in-Some-clause-passes : goal.returns-in-Some-clause-passes
returns-in-Some-clause-passes g c = some_site c.args.op.now c.args.location.now c.in-Some.location _ (g.W.World.outside c.args.world.now) (g.W.World.outside c.settle_at.new.world) c.in-Some.is c.settle_at.ensures.passes
