use Rattle.std.specs.Ordering.{nat_cmp}
use Rattle.cell_world.specs.ByteOrder.{byte_cmp}
use Rattle.cell_world.specs.Orders.{pair_cmp, row_cmp}
use Rattle.cell_world.specs.Plain.{holds_nothing}
use Rattle.plain_tables.proofs.TableLaws.{table-empty}
use Rattle.plain_tables.proofs.SetLaws.{keys_in-empty}
use Rattle.plain_tables.proofs.LinkLaws.{link-empty}
use Rattle.plain_tables.proofs.state.PlainTables.empty.Goals as goal

pub returns : goal.returns
returns c = λ i. record {
  locations = c.in-Ok.ensures.items i;
  maps = table-empty byte_cmp c.new.result c.new.ensures.empty i;
  shards = keys_in-empty pair_cmp c.new-2.result c.new-2.ensures.empty i;
  tables = keys_in-empty pair_cmp c.new-3.result c.new-3.ensures.empty i;
  mappings = table-empty pair_cmp c.new-4.result c.new-4.ensures.empty i;
  jobs = table-empty nat_cmp c.new-5.result c.new-5.ensures.empty i;
  next_job = 1;
  away = table-empty byte_cmp c.new-6.result c.new-6.ensures.empty i;
  rows = table-empty row_cmp c.new-7.result c.new-7.ensures.empty i;
  held = λ location. holds_nothing;
  connections = link-empty c.new-8.result c.new-8.ensures.empty i;
}
