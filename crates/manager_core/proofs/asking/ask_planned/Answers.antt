use Rattle.std.proofs.Common.{ap, subst, sym}
use Rattle.std.specs.Prelude.{Ok, Err}
use Rattle.cell_world.specs.Outside.{IfContents}
use Rattle.map_ops.specs.Planning.{IsPlanOf, PlansWith}
use Rattle.plain_model.specs.declared.plans.Plan.TheVariants as plan
use Rattle.plain_model.specs.declared.replies.Reply.TheVariants as reply
use Rattle.manager_core.specs.Asking.{AnswersNow}
use Rattle.manager_core.specs.declared.coming.Came.TheVariants.{Ended}
use Rattle.manager_core.specs.Doings.{all_doing}
use Rattle.manager_core.proofs.AskedEvents.{comes_later, comes_now}
use Rattle.manager_core.proofs.AskedLaws.{now_answer, now_either, now_fault, now_memory, now_refused}
use Rattle.manager_core.proofs.asking.ask_planned.Goals as goal

pub returns-in-Ok-Short-clause-comes : goal.returns-in-Ok-Short-clause-comes
returns-in-Ok-Short-clause-comes g c = comes_later c.args.session c.args.command (Ended c.args.command c.answer_change-answer.result 0) c.args.known.now c.answer_change-answer.new.known (all_doing c.args.doings.now) (all_doing c.args.doings.now)
    (g.W.World.outside c.args.world.now) (g.W.World.outside c.plan.new.world) (g.W.World.outside c.answer_change-answer.new.world) c.requires.rests c.in-Ok-Short.ensures.told c.in-Ok-Short.ensures.later c.answer_change-answer.ensures.later
    (comes_now c.args.session c.args.command c.answer_change-answer.result c.args.known.now c.answer_change-answer.new.known (all_doing c.args.doings.now) (g.W.World.outside c.plan.new.world) (g.W.World.outside c.answer_change-answer.new.world) c.requires.rests
    c.answer_change-answer.ensures.answers)

pub returns-in-Ok-Long-clause-comes : goal.returns-in-Ok-Long-clause-comes
returns-in-Ok-Long-clause-comes g c =
    let plans = subst (λ p. IfContents (g.W.World.outside c.args.world.now).told (PlansWith c.args.known.now c.args.command (Ok p))) c.in-Ok-Long.field-0-is c.in-Ok-Long.ensures.plans in
    comes_later c.args.session c.args.command c.begin_long.result c.args.known.now c.args.known.now (all_doing c.args.doings.now) (all_doing c.begin_long.new.doings)
    (g.W.World.outside c.args.world.now) (g.W.World.outside c.plan.new.world) (g.W.World.outside c.begin_long.new.world) c.requires.rests c.in-Ok-Long.ensures.told c.in-Ok-Long.ensures.later c.begin_long.ensures.later
    (c.begin_long.ensures.comes c.args.known.now (subst (λ t. IfContents t (PlansWith c.args.known.now c.args.command (Ok (plan.Long c.in-Ok-Long.op)))) (sym c.in-Ok-Long.ensures.told) plans))

pub returns-in-Ok-Answer-clause-comes : goal.returns-in-Ok-Answer-clause-comes
returns-in-Ok-Answer-clause-comes g c =
    let plans = subst (λ p. IfContents (g.W.World.outside c.args.world.now).told (PlansWith c.args.known.now c.args.command (Ok p))) c.in-Ok-Answer.field-0-is c.in-Ok-Answer.ensures.plans in
    let so = subst (λ p. IsPlanOf c.args.command (Ok p)) c.in-Ok-Answer.field-0-is c.in-Ok-Answer.ensures.of_command in
    comes_now c.args.session c.args.command c.answer_with.result c.args.known.now c.args.known.now (all_doing c.args.doings.now) (g.W.World.outside c.args.world.now) (g.W.World.outside c.plan.new.world) c.requires.rests
    (now_either c.args.command c.requires.asked c.args.known.now (all_doing c.args.doings.now) (g.W.World.outside c.args.world.now) (g.W.World.outside c.plan.new.world) c.in-Ok-Answer.ensures.told c.in-Ok-Answer.reply c.answer_with.result.reply c.answer_with.ensures.reply
    (now_answer c.args.command c.requires.asked c.args.known.now (all_doing c.args.doings.now) (g.W.World.outside c.args.world.now) (g.W.World.outside c.plan.new.world) c.in-Ok-Answer.ensures.told c.in-Ok-Answer.reply so.1.0 so.1.1 so.0 plans))

pub returns-in-Err-Refused-clause-comes : goal.returns-in-Err-Refused-clause-comes
returns-in-Err-Refused-clause-comes g c =
    let plans = subst (λ s. IfContents (g.W.World.outside c.args.world.now).told (PlansWith c.args.known.now c.args.command (Err s))) c.in-Err-Refused.field-0-is c.in-Err-Refused.ensures.plans in
    let word = subst (λ s. IsPlanOf c.args.command (Err s)) c.in-Err-Refused.field-0-is c.in-Err-Refused.ensures.of_command in
    comes_now c.args.session c.args.command c.answer_with-in-Err-Refused.result c.args.known.now c.args.known.now (all_doing c.args.doings.now) (g.W.World.outside c.args.world.now) (g.W.World.outside c.plan.new.world) c.requires.rests
    (now_either c.args.command c.requires.asked c.args.known.now (all_doing c.args.doings.now) (g.W.World.outside c.args.world.now) (g.W.World.outside c.plan.new.world) c.in-Err-Refused.ensures.told (reply.Refused c.in-Err-Refused.refusal) c.answer_with-in-Err-Refused.result.reply
    c.answer_with-in-Err-Refused.ensures.reply
    (now_refused c.args.command c.requires.asked c.args.known.now (all_doing c.args.doings.now) (g.W.World.outside c.args.world.now) (g.W.World.outside c.plan.new.world) c.in-Err-Refused.ensures.told c.in-Err-Refused.refusal word plans))

pub returns-in-Err-Store-clause-comes : goal.returns-in-Err-Store-clause-comes
returns-in-Err-Store-clause-comes g c =
    comes_now c.args.session c.args.command c.answer_with-in-Err-Store.result c.args.known.now c.args.known.now (all_doing c.args.doings.now) (g.W.World.outside c.args.world.now) (g.W.World.outside c.plan.new.world) c.requires.rests
    (now_either c.args.command c.requires.asked c.args.known.now (all_doing c.args.doings.now) (g.W.World.outside c.args.world.now) (g.W.World.outside c.plan.new.world) c.in-Err-Store.ensures.told reply.Fault c.answer_with-in-Err-Store.result.reply c.answer_with-in-Err-Store.ensures.reply
    (now_fault c.args.command c.requires.asked c.args.known.now (all_doing c.args.doings.now) (g.W.World.outside c.args.world.now) (g.W.World.outside c.plan.new.world) c.in-Err-Store.ensures.told
    (c.in-Err-Store.ensures.cause (ap Err c.in-Err-Store.field-0-is))))

pub returns-clause-comes : goal.returns-clause-comes
returns-clause-comes g c =
    comes_now c.args.session c.args.command c.no_memory.result c.args.known.now c.args.known.now (all_doing c.args.doings.now) (g.W.World.outside c.args.world.now) (g.W.World.outside c.plan.new.world) c.requires.rests
    (subst (λ r. AnswersNow c.args.command r c.args.known.now c.args.known.now (all_doing c.args.doings.now) (g.W.World.outside c.args.world.now) (g.W.World.outside c.plan.new.world)) (sym c.no_memory.ensures.reply)
    (now_memory c.args.command c.requires.asked c.args.known.now (all_doing c.args.doings.now) (g.W.World.outside c.args.world.now) (g.W.World.outside c.plan.new.world) c.in-Err-Memory.ensures.told))

pub returns-clause-lines : goal.returns-clause-lines
returns-clause-lines g c = c.no_memory.ensures.lines c.args.tag
