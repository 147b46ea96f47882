use Rattle.cell_world.proofs.OutsideLaws.{store_rose_one}
use Rattle.mapping_plans.proofs.planning.plan_locking.Goals as goal

pub returns-in-Lock-clause-cause : goal.returns-in-Lock-clause-cause
returns-in-Lock-clause-cause g c stops = store_rose_one (g.W.World.outside c.args.world.now) (g.W.World.outside c.plan_lock.new.world) c.plan_lock.ensures.later.faults (c.plan_lock.ensures.cause stops)

pub returns-in-Unlock-clause-cause : goal.returns-in-Unlock-clause-cause
returns-in-Unlock-clause-cause g c stops = store_rose_one (g.W.World.outside c.args.world.now) (g.W.World.outside c.plan_unlock.new.world) c.plan_unlock.ensures.later.faults (c.plan_unlock.ensures.cause stops)
