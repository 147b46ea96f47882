use Rattle.cell_world.proofs.OutsideLaws.{store_rose_one}
use Rattle.mapping_plans.proofs.planning.plan_exchange.Goals as goal

pub returns-in-Offline-clause-cause : goal.returns-in-Offline-clause-cause
returns-in-Offline-clause-cause g c stops = store_rose_one (g.W.World.outside c.args.world.now) (g.W.World.outside c.plan_status.new.world) c.plan_status.ensures.later.faults (c.plan_status.ensures.cause stops)

pub returns-in-Online-clause-cause : goal.returns-in-Online-clause-cause
returns-in-Online-clause-cause g c stops = store_rose_one (g.W.World.outside c.args.world.now) (g.W.World.outside c.plan_status-in-Online.new.world) c.plan_status-in-Online.ensures.later.faults (c.plan_status-in-Online.ensures.cause stops)

pub returns-in-Split-clause-cause : goal.returns-in-Split-clause-cause
returns-in-Split-clause-cause g c stops = store_rose_one (g.W.World.outside c.args.world.now) (g.W.World.outside c.plan_split.new.world) c.plan_split.ensures.later.faults (c.plan_split.ensures.cause stops)

pub returns-in-Merge-clause-cause : goal.returns-in-Merge-clause-cause
returns-in-Merge-clause-cause g c stops = store_rose_one (g.W.World.outside c.args.world.now) (g.W.World.outside c.plan_merge.new.world) c.plan_merge.ensures.later.faults (c.plan_merge.ensures.cause stops)
