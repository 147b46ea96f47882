use Rattle.cell_world.proofs.OrderLaws.{pairs_total, exact_text_pairs}
use Rattle.plain_tables.proofs.SetLaws.{remove-keys_in}
use Rattle.plain_tables.proofs.changes.drop_shard.Goals as goal

pub returns : goal.returns
returns c = remove-keys_in pairs_total exact_text_pairs c.args.shards.now c.remove.new.self (c.args.name.now, c.args.location.now) c.remove.ensures.updates
