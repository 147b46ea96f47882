use Rattle.local_tables.proofs.ChangeTells.{settle_tells}
use Rattle.local_tables.proofs.changes.settle_change.Goals as goal

pub returns-clause-change : goal.returns-clause-change
returns-clause-change g c =
    settle_tells (g.W.World.outside c.args.world.now) c.args.site c.args.op.now c.in_ok-rows.rows.items c.deref.result.now c.in_ok-change.change c.if_any.result c.if_any.ensures c.deref.ensures.value c.in_ok-rows.ensures.found c.in_ok-change.ensures.settled
