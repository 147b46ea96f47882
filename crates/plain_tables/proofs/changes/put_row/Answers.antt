use Rattle.cell_world.proofs.OrderLaws.{rows_total, exact_rows}
use Rattle.plain_tables.proofs.TableLaws.{insert-table, same-table}
use Rattle.plain_tables.proofs.ExchangeLaws.{of_ok, of_err}
use Rattle.plain_tables.proofs.changes.put_row.Goals as goal

pub returns-then-is_err-clause-err : goal.returns-then-is_err-clause-err
returns-then-is_err-clause-err c = same-table rows_total c.args.rows.now c.insert.new.self (of_err c.insert.result c.if-is_err.ensures.value c.insert.ensures.err)

pub returns-clause-ok : goal.returns-clause-ok
returns-clause-ok c = insert-table rows_total exact_rows c.args.rows.now c.insert.new.self c.args.row.now c.args.bytes (of_ok c.insert.result c.if-is_err.ensures.value c.insert.ensures.updates)
