use Rattle.std.proofs.Common.{ap, sym, ◌∙◌, is_eq}
use Rattle.std.specs.List.{IsDistinct}
use Rattle.event_runs.proofs.stores.empty_world.Goals as goal

pub new-requires-clause-distinct : goal.new-requires-clause-distinct
unfolding IsDistinct
new-requires-clause-distinct c = ((ap is_eq (sym c.cmp.ensures) ∙ sym c.is_eq.ensures ∙ c.if-is_eq.false, tt), (tt, tt))
