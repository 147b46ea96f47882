use Rattle.std.proofs.Common.{subst, sym, ap}
use Rattle.std.specs.Prelude.{Ok, Err}
use Rattle.plain_model.specs.declared.replies.Reply.TheVariants as reply
use Rattle.manager_core.specs.Asking.{AnswersNow, ClearsFor}
use Rattle.manager_core.specs.Doings.{all_doing}
use Rattle.manager_core.proofs.ChangeAnswers.{now_or, fault_after, memory_after, waits_now, made_now}
use Rattle.manager_core.proofs.answers.answer_change.Goals as goal

pub returns-in-Ok-None-clause-answers : goal.returns-in-Ok-None-clause-answers
returns-in-Ok-None-clause-answers g c =
    let clears = subst (λ o. ClearsFor (all_doing c.args.doings.now) c.args.reach.now (Ok o) (g.W.World.outside c.args.world.now) (g.W.World.outside c.clear.new.world)) c.in-Ok-None.field-0-is (c.in-Ok-None.ensures.clears (all_doing c.args.doings.now) c.live.ensures) in
    made_now c.args.command.now c.requires.planned c.args.known.now (all_doing c.args.doings.now) c.args.reach.now c.args.change.now (g.W.World.outside c.args.world.now) (g.W.World.outside c.clear.new.world) clears.becomes clears.tidied c.clear.ensures.later
    c.requires.plans clears.way c.make_change.new.known (g.W.World.outside c.make_change.new.world) c.make_change.result.reply c.make_change.ensures.makes

pub returns-in-Ok-Some-clause-answers : goal.returns-in-Ok-Some-clause-answers
returns-in-Ok-Some-clause-answers g c =
    let clears = subst (λ o. ClearsFor (all_doing c.args.doings.now) c.args.reach.now (Ok o) (g.W.World.outside c.args.world.now) (g.W.World.outside c.clear.new.world)) c.in-Ok-Some.field-0-is (c.in-Ok-Some.ensures.clears (all_doing c.args.doings.now) c.live.ensures) in
    now_or c.args.command.now c.args.known.now c.args.known.now (all_doing c.args.doings.now) (g.W.World.outside c.args.world.now) (g.W.World.outside c.clear.new.world) (reply.Pending c.in-Ok-Some.number) reply.Memory c.answer_with.result.reply c.answer_with.ensures.reply
    (waits_now c.args.command.now c.requires.planned c.args.known.now (all_doing c.args.doings.now) c.args.reach.now c.args.change.now (g.W.World.outside c.args.world.now) (g.W.World.outside c.clear.new.world) clears.becomes clears.tidied c.clear.ensures.later
    c.requires.plans c.in-Ok-Some.number clears.live clears.way c.live.result c.live.ensures)
    (memory_after c.args.command.now c.requires.planned c.args.known.now (all_doing c.args.doings.now) c.args.reach.now c.args.change.now (g.W.World.outside c.args.world.now) (g.W.World.outside c.clear.new.world) clears.becomes clears.tidied c.clear.ensures.later c.requires.plans)

pub returns-in-Err-Store-clause-answers : goal.returns-in-Err-Store-clause-answers
returns-in-Err-Store-clause-answers g c =
    let clears = subst (λ e. ClearsFor (all_doing c.args.doings.now) c.args.reach.now (Err e) (g.W.World.outside c.args.world.now) (g.W.World.outside c.clear.new.world)) c.in-Err-Store.field-0-is (c.in-Err-Store.ensures.clears (all_doing c.args.doings.now) c.live.ensures) in
    now_or c.args.command.now c.args.known.now c.args.known.now (all_doing c.args.doings.now) (g.W.World.outside c.args.world.now) (g.W.World.outside c.clear.new.world) reply.Fault reply.Memory c.answer_with-in-Err-Store.result.reply c.answer_with-in-Err-Store.ensures.reply
    (fault_after c.args.command.now c.requires.planned c.args.known.now (all_doing c.args.doings.now) c.args.reach.now c.args.change.now (g.W.World.outside c.args.world.now) (g.W.World.outside c.clear.new.world) clears.becomes clears.tidied c.clear.ensures.later c.requires.plans
    (c.in-Err-Store.ensures.cause (ap Err c.in-Err-Store.field-0-is)))
    (memory_after c.args.command.now c.requires.planned c.args.known.now (all_doing c.args.doings.now) c.args.reach.now c.args.change.now (g.W.World.outside c.args.world.now) (g.W.World.outside c.clear.new.world) clears.becomes clears.tidied c.clear.ensures.later c.requires.plans)

pub returns-in-Err-Memory-clause-answers : goal.returns-in-Err-Memory-clause-answers
returns-in-Err-Memory-clause-answers g c =
    let clears = subst (λ e. ClearsFor (all_doing c.args.doings.now) c.args.reach.now (Err e) (g.W.World.outside c.args.world.now) (g.W.World.outside c.clear.new.world)) c.in-Err-Memory.field-0-is (c.in-Err-Memory.ensures.clears (all_doing c.args.doings.now) c.live.ensures) in
    subst (λ s. AnswersNow c.args.command.now s c.args.known.now c.args.known.now (all_doing c.args.doings.now) (g.W.World.outside c.args.world.now) (g.W.World.outside c.clear.new.world)) (sym c.no_memory.ensures.reply)
    (memory_after c.args.command.now c.requires.planned c.args.known.now (all_doing c.args.doings.now) c.args.reach.now c.args.change.now (g.W.World.outside c.args.world.now) (g.W.World.outside c.clear.new.world) clears.becomes clears.tidied c.clear.ensures.later c.requires.plans)

pub returns-in-Err-Memory-clause-lines : goal.returns-in-Err-Memory-clause-lines
returns-in-Err-Memory-clause-lines g c = c.no_memory.ensures.lines c.args.tag
