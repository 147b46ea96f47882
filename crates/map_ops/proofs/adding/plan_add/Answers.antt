use Rattle.map_ops.proofs.SpanReadings.{words_planned}
use Rattle.map_ops.proofs.adding.plan_add.Goals as goal

pub returns-in-Ok-clause-plans : goal.returns-in-Ok-clause-plans
returns-in-Ok-clause-plans g c =
    words_planned _ c.args.known.now _ c.args.name c.args.at c.new_range.result c.in-Ok.span c.in-Ok.is (c.new_range.ensures.reads c.args.at) c.plan_new.result c.plan_new.ensures.plans
