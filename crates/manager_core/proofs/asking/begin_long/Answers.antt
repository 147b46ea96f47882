use Rattle.std.proofs.Common.{refl, subst, sym}
use Rattle.map_ops.proofs.PlannedLaws.{long_is_asked}
use Rattle.manager_core.specs.Asking.{AnswersNow}
use Rattle.manager_core.specs.Doings.{all_doing}
use Rattle.manager_core.proofs.AskedEvents.{comes_now}
use Rattle.manager_core.proofs.AskedLaws.{now_memory}
use Rattle.manager_core.proofs.asking.begin_long.Goals as goal

pub returns-in-Err-clause-comes : goal.returns-in-Err-clause-comes
returns-in-Err-clause-comes g c = λ known plans. comes_now c.args.session c.args.command c.no_memory.result known known (all_doing c.args.doings.now) (g.W.World.outside c.args.world.now) (g.W.World.outside c.args.world.now) c.requires.rests
    (subst (λ r. AnswersNow c.args.command r known known (all_doing c.args.doings.now) (g.W.World.outside c.args.world.now) (g.W.World.outside c.args.world.now)) (sym c.no_memory.ensures.reply) (now_memory c.args.command (long_is_asked c.args.command c.requires.long) known (all_doing c.args.doings.now) (g.W.World.outside c.args.world.now) (g.W.World.outside c.args.world.now) refl))

pub returns-in-Err-clause-lines : goal.returns-in-Err-clause-lines
returns-in-Err-clause-lines g c = c.no_memory.ensures.lines c.args.tag
