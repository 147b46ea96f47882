use Rattle.std.proofs.Common.{sym, ◌∙◌}
use Rattle.map_ops.proofs.RefusalLaws.{new_early, new_late}
use Rattle.map_ops.proofs.new_mappings.new_refusal.Goals as goal

pub returns-then-is_some-clause-refuses : goal.returns-then-is_some-clause-refuses
returns-then-is_some-clause-refuses g c =
    new_early _ c.args.known.now c.args.name.now c.args.span.now c.args.at.now c.site_refusal-early.result c.site_refusal-early.ensures.first (sym c.is_some.ensures ∙ c.if-is_some.true)

pub returns-clause-refuses : goal.returns-clause-refuses
returns-clause-refuses g c =
    new_late _ c.args.known.now c.args.name.now c.args.span.now c.args.at.now c.site_refusal-early.result c.site_refusal-early.ensures.first (sym c.is_some.ensures ∙ c.if-is_some.false)
    c.in_ok-overlaps.overlaps c.in_ok-overlaps.ensures.found c.first_of.result c.first_of.ensures.first
