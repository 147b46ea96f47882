use Rattle.std.proofs.Common.{◌≡◌, drop}
use Rattle.cell_world.specs.Orders.{pair_cmp}
use Rattle.cell_world.specs.Stores.{with_all}
use Rattle.plain_tables.specs.Tables.{table}
use Rattle.plain_tables.proofs.exchanges.put_each.Given as goal

abbrev pub invariant-loop-new : goal.invariant-loop-new
invariant-loop-new l = with_all (table pair_cmp l.fn.mappings) l.news ≡ with_all (table pair_cmp l.after) (drop l.new-index l.news)
