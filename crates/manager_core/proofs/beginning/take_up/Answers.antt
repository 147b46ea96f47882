use Rattle.std.proofs.Common.{ap}
use Rattle.std.specs.Prelude.{Err}
use Rattle.cell_world.proofs.OutsideLaws.{later_same}
use Rattle.manager_core.proofs.TakingLaws.{below_at, full_takes, store_takes, memory_takes, takes_later}
use Rattle.manager_core.proofs.OpeningLaws.{rose_at_global, rose_by_before}
use Rattle.manager_core.proofs.beginning.take_up.Goals as goal

pub returns-then-next-ge-NO_NUMBER-clause-takes : goal.returns-then-next-ge-NO_NUMBER-clause-takes
returns-then-next-ge-NO_NUMBER-clause-takes g c = full_takes c.args.live.now c.args.op.now (g.W.World.outside c.args.world.now) (g.W.World.outside c.next_numbers.new.world) c.in-Ok.ensures.told c.in-Ok.next c.in-Ok.ensures.found c.if-next-ge-NO_NUMBER.true

pub returns-else-next-ge-NO_NUMBER-clause-takes : goal.returns-else-next-ge-NO_NUMBER-clause-takes
returns-else-next-ge-NO_NUMBER-clause-takes g c = takes_later c.args.live.now c.args.op.now (g.W.World.outside c.args.world.now) (g.W.World.outside c.next_numbers.new.world) (g.W.World.outside c.take_up_below.new.world) c.in-Ok.ensures.told c.take_up_below.result
    (c.take_up_below.ensures.takes (below_at (g.W.World.outside c.args.world.now).told (g.W.World.outside c.next_numbers.new.world).told c.in-Ok.ensures.told c.in-Ok.next c.in-Ok.ensures.found c.if-next-ge-NO_NUMBER.false))

pub returns-else-next-ge-NO_NUMBER-clause-cause : goal.returns-else-next-ge-NO_NUMBER-clause-cause
returns-else-next-ge-NO_NUMBER-clause-cause g c = λ fails. rose_by_before 1 (g.W.World.outside c.args.world.now) (g.W.World.outside c.next_numbers.new.world) (g.W.World.outside c.take_up_below.new.world) c.in-Ok.ensures.later (c.take_up_below.ensures.cause fails)

pub returns-in-Err-Store-clause-takes : goal.returns-in-Err-Store-clause-takes
returns-in-Err-Store-clause-takes g c = store_takes c.args.live.now c.args.op.now (g.W.World.outside c.args.world.now) (g.W.World.outside c.next_numbers.new.world) c.in-Err-Store.ensures.told

pub returns-in-Err-Store-clause-cause : goal.returns-in-Err-Store-clause-cause
returns-in-Err-Store-clause-cause g c = λ fails. rose_at_global (g.W.World.outside c.args.world.now) (g.W.World.outside c.args.world.now) (g.W.World.outside c.next_numbers.new.world) (later_same (g.W.World.outside c.args.world.now)) c.in-Err-Store.ensures.later
    (c.in-Err-Store.ensures.cause (ap Err c.in-Err-Store.field-0-is))

pub returns-in-Err-Memory-clause-takes : goal.returns-in-Err-Memory-clause-takes
returns-in-Err-Memory-clause-takes g c = memory_takes c.args.live.now c.args.op.now (g.W.World.outside c.args.world.now) (g.W.World.outside c.next_numbers.new.world) c.in-Err-Memory.ensures.told
