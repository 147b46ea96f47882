use Rattle.std.proofs.Common.{sym, ◌∙◌}
use Rattle.std.specs.List.{IsDistinct}
use Rattle.mapping_tests.proofs.told_stores.empty_world.Goals as goal

pub new-requires-clause-distinct : goal.new-requires-clause-distinct
unfolding IsDistinct
new-requires-clause-distinct c =
    ((sym c.is_same.ensures ∙ c.if-is_same.false, (sym c.is_same-2.ensures ∙ c.if-is_same-2.false, tt)), ((sym c.is_same-3.ensures ∙ c.if-is_same-3.false, tt), (tt, tt)))
