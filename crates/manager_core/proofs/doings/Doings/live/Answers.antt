use Rattle.std.proofs.Common.{sym, subst, ◌+◌, ◌∙◌}
use Rattle.manager_core.specs.declared.doings.Doing.TheVariants as seat
use Rattle.manager_core.proofs.DoingLaws.{Counted, counted_next, at_place}
use Rattle.manager_core.proofs.doings.Doings.live.Goals as goal

pub loop-doing-preserved : goal.loop-doing-preserved
loop-doing-preserved c = subst (λ live. Counted live c.deref-doing-items.result.now (c.loop-doing.doing-index + 1)) (sym c.add_live.ensures)
    (counted_next c.loop-doing.live c.deref-doing-items.result.now c.loop-doing.doing-index c.doing-item.result c.loop-doing.invariant
    (at_place c.deref-doing-items.result.now c.loop-doing.doing-index seat.Resting c.doing-item.result c.loop-doing-test.true ∙ sym c.doing-item.is))
