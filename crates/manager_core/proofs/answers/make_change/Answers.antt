use Rattle.std.proofs.Common.{refl, subst, sym}
use Rattle.manager_core.specs.Asking.{MakesChange}
use Rattle.manager_core.proofs.ShortAnswers.{makes_none}
use Rattle.manager_core.proofs.answers.make_change.Goals as goal

pub returns-in-Err-clause-makes : goal.returns-in-Err-clause-makes
returns-in-Err-clause-makes g c =
    subst (λ s. MakesChange c.args.change.now s c.args.known.now c.args.known.now (g.W.World.outside c.args.world.now) (g.W.World.outside c.args.world.now)) (sym c.no_memory.ensures.reply)
    (makes_none c.args.change.now c.requires.no_log c.args.known.now (g.W.World.outside c.args.world.now) (g.W.World.outside c.args.world.now) refl)

pub returns-in-Err-clause-lines : goal.returns-in-Err-clause-lines
returns-in-Err-clause-lines g c = c.no_memory.ensures.lines c.args.tag
