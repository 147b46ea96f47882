use Rattle.cell_world.proofs.OrderLaws.{pairs_total, exact_text_pairs}
use Rattle.plain_tables.proofs.SetLaws.{insert-keys_in}
use Rattle.plain_tables.proofs.ExchangeLaws.{of_ok}
use Rattle.plain_tables.proofs.changes.put_shard.Goals as goal

pub returns-clause-ok : goal.returns-clause-ok
returns-clause-ok c = insert-keys_in pairs_total exact_text_pairs c.args.shards.now c.insert.new.self (c.args.name.now, c.args.location.now) (of_ok c.insert.result c.if-is_err.ensures.value c.insert.ensures.updates)
