use Rattle.std.proofs.Common.{◌+◌, take, sym, subst}
use Rattle.sqlite_site.specs.Entries.{AreCellsOf}
use Rattle.sqlite_site.proofs.RowLemmas.{cells_more}
use Rattle.sqlite_site.proofs.rows.cells_of.Goals as goal

pub loop-row-preserved : goal.loop-row-preserved
loop-row-preserved c =
    subst (AreCellsOf c.args.kind (take (c.loop-row.row-index + 1) c.args.rows.now)) (sym c.in_ok-push.ensures.items)
    (cells_more c.args.kind c.args.rows.now c.loop-row.cells.items c.loop-row.row-index c.row-item.result c.in_ok-cell_of.field-0 c.loop-row-test.true c.row-item.is c.loop-row.invariant c.in_ok-cell_of.ensures)
