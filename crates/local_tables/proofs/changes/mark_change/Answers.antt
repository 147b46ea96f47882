use Rattle.std.proofs.Common.{◌∙◌}
use Rattle.cell_world.specs.declared.cells.Mark.TheVariants.{Old}
use Rattle.local_tables.specs.declared.altering.Work.TheVariants.{ToMark}
use Rattle.local_tables.proofs.ChangeTells.{marked_reach, swept_tells, reads_tells, mark_tells}
use Rattle.local_tables.proofs.changes.mark_change.Goals as goal

pub returns-in_err-change-clause-reads : goal.returns-in_err-change-clause-reads
returns-in_err-change-clause-reads g c =
    reads_tells (g.W.World.outside c.args.world.now) c.args.site ToMark c.args.op.now (marked_reach c.args.op.now) c.in_ok-rows.rows.items c.deref.result.now c.deref.ensures.value c.in_ok-rows.ensures.found
    _ _ (g.W.World.outside c.swept.new.world).global_reads c.in_ok-rows.ensures.reads c.in_err-change.ensures.reads

pub returns-in_err-put_new-clause-reads : goal.returns-in_err-put_new-clause-reads
returns-in_err-put_new-clause-reads g c =
    reads_tells (g.W.World.outside c.args.world.now) c.args.site ToMark c.args.op.now (marked_reach c.args.op.now) c.in_ok-rows.rows.items c.deref.result.now c.deref.ensures.value c.in_ok-rows.ensures.found
    _ _ (g.W.World.outside c.swept.new.world).global_reads c.in_ok-rows.ensures.reads c.in_ok-change.ensures.reads

pub returns-in_err-put_new-2-clause-reads : goal.returns-in_err-put_new-2-clause-reads
returns-in_err-put_new-2-clause-reads g c =
    reads_tells (g.W.World.outside c.args.world.now) c.args.site ToMark c.args.op.now (marked_reach c.args.op.now) c.in_ok-rows.rows.items c.deref.result.now c.deref.ensures.value c.in_ok-rows.ensures.found
    _ _ (g.W.World.outside c.swept.new.world).global_reads c.in_ok-rows.ensures.reads c.in_ok-change.ensures.reads

pub returns-clause-reads : goal.returns-clause-reads
returns-clause-reads g c =
    reads_tells (g.W.World.outside c.args.world.now) c.args.site ToMark c.args.op.now (marked_reach c.args.op.now) c.in_ok-rows.rows.items c.deref.result.now c.deref.ensures.value c.in_ok-rows.ensures.found
    _ _ (g.W.World.outside c.swept.new.world).global_reads c.in_ok-rows.ensures.reads c.in_ok-change.ensures.reads

pub returns-clause-change : goal.returns-clause-change
returns-clause-change g c =
    mark_tells (g.W.World.outside c.args.world.now) (g.W.World.outside c.swept.new.world) c.args.site (c.in_ok-change.ensures.later.locations ∙ c.in_ok-rows.ensures.later.locations) c.args.op.now c.in_ok-change.change c.put_new.new.change c.put_new-2.new.change c.if_any.result c.if_any.ensures
    c.in_ok-put_new.ensures.put c.in_ok-put_new-2.ensures.put
    (swept_tells (g.W.World.outside c.args.world.now) c.args.site ToMark c.args.op.now (marked_reach c.args.op.now) c.in_ok-rows.rows.items c.deref.result.now c.deref.ensures.value c.in_ok-rows.ensures.found
    (g.W.World.outside c.altered_rows.new.world).told c.in_ok-rows.ensures.told (Old c.args.op.now.number) c.in_ok-change.change c.in_ok-change.ensures.swept)
