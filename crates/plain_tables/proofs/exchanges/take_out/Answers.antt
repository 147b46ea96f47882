use Rattle.plain_tables.proofs.ExchangeLaws.{one_less}
use Rattle.plain_tables.proofs.exchanges.take_out.Goals as goal

pub returns : goal.returns
returns c = one_less c.args.mappings.now c.remove.new.self c.args.piece.now c.low.result.now c.low.ensures c.remove.ensures.updates
