use Rattle.std.proofs.Common.{ap, subst, sym}
use Rattle.std.specs.Prelude.{Err, IfSome}
use Rattle.manager_core.specs.Answering.{IsCopy}
use Rattle.plain_model.specs.declared.replies.Reply.TheVariants as reply
use Rattle.manager_core.specs.Asking.{AnswersNow}
use Rattle.manager_core.specs.Doings.{all_doing}
use Rattle.manager_core.specs.declared.coming.Came.TheVariants.{Ended}
use Rattle.manager_core.proofs.AskedEvents.{comes_now}
use Rattle.manager_core.proofs.AskedLaws.{now_either, now_fault, now_memory}
use Rattle.manager_core.proofs.TableCopies.{comes_anyhow, comes_by, known_or, none_keeps}
use Rattle.manager_core.proofs.asking.ask_with_tables.Goals as goal

pub returns-in-Ok-clause-comes : goal.returns-in-Ok-clause-comes
returns-in-Ok-clause-comes g c = comes_by c.args.session c.args.command c.ask_planned-came.result c.args.known.now c.in-Ok.copy c.ask_planned-came.new.known (all_doing c.args.doings.now) (all_doing c.ask_planned-came.new.doings)
    (g.W.World.outside c.args.world.now) (g.W.World.outside c.kept_or_read.new.world) (g.W.World.outside c.ask_planned-came.new.world) c.requires.rests c.kept_or_read.ensures.told c.kept_or_read.ensures.later c.ask_planned-came.ensures.later
    (subst (λ known. IfSome known (λ k. IsCopy k (g.W.World.outside c.args.world.now).told) → IsCopy c.in-Ok.copy (g.W.World.outside c.args.world.now).told) c.take.ensures.value c.in-Ok.ensures.copy) c.ask_planned-came.ensures.comes

pub returns-in-Err-Store-clause-comes : goal.returns-in-Err-Store-clause-comes
returns-in-Err-Store-clause-comes g c =
    let old = g.W.World.outside c.args.world.now in
    let new = g.W.World.outside c.kept_or_read.new.world in
    let doing = all_doing c.args.doings.now in
    comes_anyhow c.args.session c.args.command (Ended c.args.command c.answer_with.result 0) c.args.known.now c.take.new.self doing doing old new (none_keeps c.take.new.self (known_or c.args.known.now old.told) c.take.ensures.after)
    (λ copy. comes_now c.args.session c.args.command c.answer_with.result copy copy doing old new c.requires.rests
    (now_either c.args.command c.requires.asked copy doing old new c.kept_or_read.ensures.told reply.Fault c.answer_with.result.reply c.answer_with.ensures.reply
    (now_fault c.args.command c.requires.asked copy doing old new c.kept_or_read.ensures.told (c.in-Err-Store.ensures.cause (ap Err c.in-Err-Store.field-0-is)))))

pub returns-in-Err-Memory-clause-comes : goal.returns-in-Err-Memory-clause-comes
returns-in-Err-Memory-clause-comes g c =
    let old = g.W.World.outside c.args.world.now in
    let new = g.W.World.outside c.kept_or_read.new.world in
    let doing = all_doing c.args.doings.now in
    comes_anyhow c.args.session c.args.command (Ended c.args.command c.no_memory.result 0) c.args.known.now c.take.new.self doing doing old new (none_keeps c.take.new.self (known_or c.args.known.now old.told) c.take.ensures.after)
    (λ copy. comes_now c.args.session c.args.command c.no_memory.result copy copy doing old new c.requires.rests
    (subst (λ r. AnswersNow c.args.command r copy copy doing old new) (sym c.no_memory.ensures.reply) (now_memory c.args.command c.requires.asked copy doing old new c.kept_or_read.ensures.told)))

pub returns-in-Err-Memory-clause-lines : goal.returns-in-Err-Memory-clause-lines
returns-in-Err-Memory-clause-lines g c = c.no_memory.ensures.lines c.args.tag
