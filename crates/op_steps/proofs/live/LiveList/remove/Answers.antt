use Rattle.std.proofs.Common.{refl, sym, subst}
use Rattle.op_steps.specs.Live.{AreDistinct}
use Rattle.op_steps.proofs.LiveLaws.{next_fresh}
use Rattle.op_steps.proofs.live.LiveList.remove.Goals as goal

pub push-requires-clause-fresh : goal.push-requires-clause-fresh
push-requires-clause-fresh c = next_fresh c.args.number c.as_slice-n-items.result.now c.loop-n.rest c.loop-n.n-index _ (subst AreDistinct (sym c.as_slice-n-items.ensures.list) c.as_slice-n-items.ensures.distinct) c.loop-n-test.true refl c.loop-n.invariant.0
