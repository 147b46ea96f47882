use Rattle.std.proofs.Common.{sym}
use Rattle.op_steps.proofs.LiveLaws.{pushed}
use Rattle.op_steps.proofs.live.LiveList.push.Goals as goal

pub invariant_of-self : goal.invariant_of-self
invariant_of-self c = pushed c.args.self.now c.self.inside.count c.self.inside.numbers c.args.number (sym c.self.view_is) c.self.invariant c.requires.room c.requires.fresh
