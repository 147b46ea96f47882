use Rattle.std.proofs.lemmas.Cmp.{nat_list_cmp_total}
use Rattle.cell_world.proofs.OrderLaws.{exact_texts}
use Rattle.plain_tables.proofs.TableLaws.{remove-table}
use Rattle.plain_tables.proofs.changes.drop_map.Goals as goal

pub returns : goal.returns
returns c = remove-table nat_list_cmp_total exact_texts c.args.maps.now c.remove.new.self c.args.name.now c.remove.ensures.updates
