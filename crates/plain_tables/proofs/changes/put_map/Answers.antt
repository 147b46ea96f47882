use Rattle.std.proofs.lemmas.Cmp.{nat_list_cmp_total}
use Rattle.cell_world.proofs.OrderLaws.{exact_texts}
use Rattle.plain_tables.proofs.TableLaws.{insert-table, same-table}
use Rattle.plain_tables.proofs.ExchangeLaws.{of_ok, of_err}
use Rattle.plain_tables.proofs.changes.put_map.Goals as goal

pub returns-then-is_err-clause-err : goal.returns-then-is_err-clause-err
returns-then-is_err-clause-err c = same-table nat_list_cmp_total c.args.maps.now c.insert.new.self (of_err c.insert.result c.if-is_err.ensures.value c.insert.ensures.err)

pub returns-clause-ok : goal.returns-clause-ok
returns-clause-ok c = insert-table nat_list_cmp_total exact_texts c.args.maps.now c.insert.new.self c.args.name.now (c.args.kind, c.args.keys) (of_ok c.insert.result c.if-is_err.ensures.value c.insert.ensures.updates)
