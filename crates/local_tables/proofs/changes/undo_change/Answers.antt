use Rattle.cell_world.specs.declared.cells.Mark.TheVariants.{Plain}
use Rattle.local_tables.specs.declared.altering.Work.TheVariants.{ToUndo}
use Rattle.local_tables.proofs.ChangeTells.{undone_reach, swept_tells, reads_tells, undo_tells}
use Rattle.local_tables.proofs.changes.undo_change.Goals as goal

pub returns-in_err-change-clause-reads : goal.returns-in_err-change-clause-reads
returns-in_err-change-clause-reads g c =
    reads_tells (g.W.World.outside c.args.world.now) c.args.site ToUndo c.args.op.now (undone_reach c.args.op.now) c.in_ok-rows.rows.items c.deref.result.now c.deref.ensures.value c.in_ok-rows.ensures.found
    _ _ _ c.in_ok-rows.ensures.reads c.in_err-change.ensures.reads

pub returns-clause-change : goal.returns-clause-change
returns-clause-change g c =
    undo_tells (g.W.World.outside c.args.world.now) c.args.site c.args.op.now c.in_ok-change.change c.if_any.result c.if_any.ensures
    (swept_tells (g.W.World.outside c.args.world.now) c.args.site ToUndo c.args.op.now (undone_reach c.args.op.now) c.in_ok-rows.rows.items c.deref.result.now c.deref.ensures.value c.in_ok-rows.ensures.found
    (g.W.World.outside c.altered_rows.new.world).told c.in_ok-rows.ensures.told Plain c.in_ok-change.change c.in_ok-change.ensures.swept)

pub returns-clause-reads : goal.returns-clause-reads
returns-clause-reads g c =
    reads_tells (g.W.World.outside c.args.world.now) c.args.site ToUndo c.args.op.now (undone_reach c.args.op.now) c.in_ok-rows.rows.items c.deref.result.now c.deref.ensures.value c.in_ok-rows.ensures.found
    _ _ _ c.in_ok-rows.ensures.reads c.in_ok-change.ensures.reads
