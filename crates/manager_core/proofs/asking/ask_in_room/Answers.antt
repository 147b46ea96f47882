use Rattle.std.proofs.Common.{refl, subst, sym}
use Rattle.manager_core.specs.Asking.{AnswersNow}
use Rattle.manager_core.specs.Doings.{all_doing}
use Rattle.manager_core.specs.declared.coming.Came.TheVariants.{Ended}
use Rattle.manager_core.proofs.AskedEvents.{comes_now}
use Rattle.manager_core.proofs.AskedLaws.{now_memory}
use Rattle.manager_core.proofs.TableCopies.{comes_anyhow, keeps_known}
use Rattle.manager_core.proofs.asking.ask_in_room.Goals as goal

pub returns-in-Err-clause-comes : goal.returns-in-Err-clause-comes
returns-in-Err-clause-comes g c =
    comes_anyhow c.args.session c.args.command (Ended c.args.command c.no_memory.result 0) c.args.known.now c.args.known.now (all_doing c.args.doings.now) (all_doing c.args.doings.now) (g.W.World.outside c.args.world.now) (g.W.World.outside c.args.world.now)
    (keeps_known c.args.known.now (g.W.World.outside c.args.world.now).told)
    (λ copy. comes_now c.args.session c.args.command c.no_memory.result copy copy (all_doing c.args.doings.now) (g.W.World.outside c.args.world.now) (g.W.World.outside c.args.world.now) c.requires.rests
    (subst (λ r. AnswersNow c.args.command r copy copy (all_doing c.args.doings.now) (g.W.World.outside c.args.world.now) (g.W.World.outside c.args.world.now)) (sym c.no_memory.ensures.reply)
    (now_memory c.args.command c.requires.asked copy (all_doing c.args.doings.now) (g.W.World.outside c.args.world.now) (g.W.World.outside c.args.world.now) refl)))

pub returns-in-Err-clause-lines : goal.returns-in-Err-clause-lines
returns-in-Err-clause-lines g c = c.no_memory.ensures.lines c.args.tag
