use Rattle.std.proofs.Common.{◌∙◌, ap}
use Rattle.image_laws.specs.LocalSteps.{settle}
use Rattle.image_laws.specs.RowEdits.{edits_by}
use Rattle.local_tables.proofs.SweepLaws.{settled_more, all_taken}
use Rattle.local_tables.proofs.sweeping.settled.Goals as goal

pub loop-row-preserved : goal.loop-row-preserved
loop-row-preserved c =
    settled_more c.args.number c.args.rows.now c.loop-row.row-index c.row-item.result c.loop-row-test.true c.row-item.is c.loop-row.change c.push_edit.new.change c.loop-row.invariant c.is_new.result c.is_new.ensures c.in_ok-push_edit.ensures.pushed

pub returns-clause-settled : goal.returns-clause-settled
returns-clause-settled c = λ own. c.loop-row.invariant own ∙ ap (edits_by (settle c.args.number)) (all_taken c.args.rows.now c.loop-row.row-index c.loop-row-test.false)
