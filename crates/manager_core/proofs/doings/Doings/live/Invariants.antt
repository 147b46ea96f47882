use Rattle.manager_core.proofs.DoingLaws.{Counted}
use Rattle.manager_core.proofs.doings.Doings.live.Given as goal

abbrev pub invariant-loop-doing : goal.invariant-loop-doing
invariant-loop-doing l = Counted l.live l.doing-items l.doing-index
