use Rattle.std.proofs.Common.{◌∙◌, arith}
use Rattle.local_tables.proofs.SweepLaws.{reads_up_to, reads_more, swept_more}
use Rattle.local_tables.proofs.sweeping.swept.Goals as goal

pub returns-in_err-sweep_row-clause-reads : goal.returns-in_err-sweep_row-clause-reads
returns-in_err-sweep_row-clause-reads g c =
    let before = c.loop-row.invariant.reads in
    let step = c.in_err-sweep_row.ensures.reads in
    let all = reads_up_to c.args.op.now.number c.args.rows.now c.loop-row.row-index c.row-item.result c.loop-row-test.true c.row-item.is in
    omega (arith, before, step, all)

pub loop-row-preserved : goal.loop-row-preserved
loop-row-preserved g c =
    let before = c.loop-row.invariant.later in
    let step = c.in_ok-sweep_row.ensures.later in
    record {
      edits = swept_more (g.W.World.outside c.args.world.now).told (g.W.World.outside c.loop-row.world).told c.loop-row.invariant.told c.args.op.now c.args.mark c.args.rows.now c.loop-row.row-index c.row-item.result c.loop-row-test.true c.row-item.is
          c.loop-row.change c.sweep_row.new.change c.loop-row.invariant.edits c.in_ok-sweep_row.ensures.swept;
      reads = let a = c.loop-row.invariant.reads in let b = c.in_ok-sweep_row.ensures.reads in
          let more = reads_more c.args.op.now.number c.args.rows.now c.loop-row.row-index c.row-item.result c.loop-row-test.true c.row-item.is in
          omega (arith, a, b, more);
      told = c.in_ok-sweep_row.ensures.told ∙ c.loop-row.invariant.told;
      later = record {
        locations = step.locations ∙ before.locations;
        faults = λ site. let a = before.faults site in let b = step.faults site in omega (arith, a, b);
        sink = let a = before.sink in let b = step.sink in omega (arith, a, b);
        reads = let a = before.reads in let b = step.reads in omega (arith, a, b);
      };
    }
