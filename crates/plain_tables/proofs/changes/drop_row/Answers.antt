use Rattle.cell_world.proofs.OrderLaws.{rows_total, exact_rows}
use Rattle.plain_tables.proofs.TableLaws.{remove-table}
use Rattle.plain_tables.proofs.changes.drop_row.Goals as goal

pub returns : goal.returns
returns c = remove-table rows_total exact_rows c.args.rows.now c.remove.new.self c.args.row.now c.remove.ensures.updates
