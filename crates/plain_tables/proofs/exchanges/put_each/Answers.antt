use Rattle.std.proofs.Common.{◌∙◌}
use Rattle.plain_tables.proofs.ExchangeLaws.{put_next, of_ok}
use Rattle.plain_tables.proofs.exchanges.put_each.Goals as goal

pub loop-new-preserved : goal.loop-new-preserved
loop-new-preserved c = c.loop-new.invariant ∙ put_next c.loop-new.after c.insert.new.self c.new-item.result c.low.result.now c.low.ensures c.args.news.now c.loop-new.new-index c.loop-new-test.true c.new-item.is (of_ok c.insert.result c.if-is_err.ensures.value c.insert.ensures.updates)
