use Rattle.std.proofs.Common.{ap}
use Rattle.std.specs.Prelude.{Err}
use Rattle.cell_world.proofs.OutsideLaws.{later_same}
use Rattle.manager_core.proofs.OpeningLaws.{opens_untouched, rose_by_before, rose_at_global, fault_of}
use Rattle.manager_core.proofs.opening.open_stores.Goals as goal

pub returns-in-Ok-Some-clause-opens : goal.returns-in-Ok-Some-clause-opens
returns-in-Ok-Some-clause-opens g c = opens_untouched (g.W.World.outside c.args.world.now) (g.W.World.outside c.first_unknown.new.world) c.first_unknown.ensures.told c.first_unknown.ensures.later

pub returns-in-Err-clause-opens : goal.returns-in-Err-clause-opens
returns-in-Err-clause-opens g c = opens_untouched (g.W.World.outside c.args.world.now) (g.W.World.outside c.first_unknown.new.world) c.first_unknown.ensures.told c.first_unknown.ensures.later

pub returns-in-Err-open_tables-clause-fault : goal.returns-in-Err-open_tables-clause-fault
returns-in-Err-open_tables-clause-fault g c = fault_of (g.W.World.outside c.args.world.now) (g.W.World.outside c.open_tables.new.world) c.in-Err-open_tables.fault c.from.result c.from.ensures (λ is. rose_by_before 1 (g.W.World.outside c.args.world.now) (g.W.World.outside c.first_unknown.new.world) (g.W.World.outside c.open_tables.new.world) c.first_unknown.ensures.later (c.in-Err-open_tables.ensures.cause (ap Err is)))

pub returns-in-Err-clause-fault : goal.returns-in-Err-clause-fault
returns-in-Err-clause-fault g c = fault_of (g.W.World.outside c.args.world.now) (g.W.World.outside c.first_unknown.new.world) c.in-Err.fault c.from-in-Err.result c.from-in-Err.ensures (λ is. rose_at_global (g.W.World.outside c.args.world.now) (g.W.World.outside c.args.world.now) (g.W.World.outside c.first_unknown.new.world) (later_same (g.W.World.outside c.args.world.now)) c.first_unknown.ensures.later (c.in-Err.ensures.cause (ap Err is)))
