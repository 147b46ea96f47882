use Rattle.std.proofs.Common.{sym, ◌∙◌}
use Rattle.map_ops.proofs.RefusalLaws.{unshard_early, unshard_used}
use Rattle.map_ops.proofs.unshard_refusals.unshard_refusal.Goals as goal

pub returns-then-is_some-clause-refuses : goal.returns-then-is_some-clause-refuses
returns-then-is_some-clause-refuses g c =
    unshard_early _ c.args.known.now c.args.name.now c.args.at.now c.unshard_refusal_but_use-early.result c.unshard_refusal_but_use-early.ensures.first (sym c.is_some.ensures ∙ c.if-is_some.true)

pub returns-clause-refuses : goal.returns-clause-refuses
returns-clause-refuses g c =
    unshard_used _ c.args.known.now c.args.name.now c.args.at.now c.unshard_refusal_but_use-early.result c.unshard_refusal_but_use-early.ensures.first (sym c.is_some.ensures ∙ c.if-is_some.false)
    c.in_ok-used.used c.in_ok-used.ensures.found c.first_of.result c.first_of.ensures.first
