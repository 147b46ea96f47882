use Rattle.std.proofs.Common.{ap, refl, subst, sym, Some}
use Rattle.std.specs.Prelude.{Err}
use Rattle.cell_world.proofs.OutsideLaws.{later_same}
use Rattle.manager_core.specs.Asking.{AnswersNow}
use Rattle.manager_core.specs.Doings.{all_doing}
use Rattle.manager_core.specs.declared.coming.Came.TheVariants.{Ended}
use Rattle.manager_core.proofs.AskedEvents.{comes_now, live_then, rests_then}
use Rattle.manager_core.proofs.AskedLaws.{now_memory}
use Rattle.manager_core.proofs.TableCopies.{comes_anyhow, comes_settled, keeps_known}
use Rattle.manager_core.proofs.asking.ask_command.Goals as goal

pub returns-in-Ok-clause-comes : goal.returns-in-Ok-clause-comes
returns-in-Ok-clause-comes g c = comes_settled c.args.session c.args.command c.args.known.now c.ask_in_room.new.known (all_doing c.args.doings.now) (all_doing c.settle_session.new.doings) (all_doing c.ask_in_room.new.doings) (g.W.World.outside c.args.world.now) (g.W.World.outside c.settle_session.new.world) (g.W.World.outside c.ask_in_room.new.world)
    (rests_then (all_doing c.args.doings.now) (all_doing c.settle_session.new.doings) c.args.session c.requires.rests c.settle_session.ensures.next) (live_then (all_doing c.args.doings.now) (all_doing c.settle_session.new.doings) c.args.session c.requires.rests c.settle_session.ensures.next) c.settle_session.ensures.becomes c.settle_session.ensures.tidied
    c.settle_session.ensures.later c.ask_in_room.ensures.later c.ask_in_room.result (λ op left steady memory rose. c.in-Ok.ensures.settled refl op left steady) c.ask_in_room.ensures.comes

pub returns-in-Err-Store-clause-comes : goal.returns-in-Err-Store-clause-comes
returns-in-Err-Store-clause-comes g c = comes_settled c.args.session c.args.command c.args.known.now c.ask_in_room-in-Err-Store.new.known (all_doing c.args.doings.now) (all_doing c.settle_session.new.doings) (all_doing c.ask_in_room-in-Err-Store.new.doings) (g.W.World.outside c.args.world.now) (g.W.World.outside c.settle_session.new.world) (g.W.World.outside c.ask_in_room-in-Err-Store.new.world)
    (rests_then (all_doing c.args.doings.now) (all_doing c.settle_session.new.doings) c.args.session c.requires.rests c.settle_session.ensures.next) (live_then (all_doing c.args.doings.now) (all_doing c.settle_session.new.doings) c.args.session c.requires.rests c.settle_session.ensures.next) c.settle_session.ensures.becomes c.settle_session.ensures.tidied
    c.settle_session.ensures.later c.ask_in_room-in-Err-Store.ensures.later c.ask_in_room-in-Err-Store.result (λ op left steady memory rose. absurd (rose (c.in-Err-Store.ensures.cause (ap Err c.in-Err-Store.field-0-is)))) c.ask_in_room-in-Err-Store.ensures.comes

pub returns-in-Err-Memory-clause-comes : goal.returns-in-Err-Memory-clause-comes
returns-in-Err-Memory-clause-comes g c = comes_settled c.args.session c.args.command c.args.known.now c.args.known.now (all_doing c.args.doings.now) (all_doing c.settle_session.new.doings) (all_doing c.settle_session.new.doings) (g.W.World.outside c.args.world.now) (g.W.World.outside c.settle_session.new.world) (g.W.World.outside c.settle_session.new.world)
    (rests_then (all_doing c.args.doings.now) (all_doing c.settle_session.new.doings) c.args.session c.requires.rests c.settle_session.ensures.next) (live_then (all_doing c.args.doings.now) (all_doing c.settle_session.new.doings) c.args.session c.requires.rests c.settle_session.ensures.next) c.settle_session.ensures.becomes c.settle_session.ensures.tidied
    c.settle_session.ensures.later (later_same (g.W.World.outside c.settle_session.new.world)) (Ended c.args.command c.no_memory.result 0) (λ op left steady memory rose. absurd (memory (ap Some c.no_memory.ensures.reply)))
    (comes_anyhow c.args.session c.args.command (Ended c.args.command c.no_memory.result 0) c.args.known.now c.args.known.now (all_doing c.settle_session.new.doings) (all_doing c.settle_session.new.doings) (g.W.World.outside c.settle_session.new.world) (g.W.World.outside c.settle_session.new.world)
    (keeps_known c.args.known.now (g.W.World.outside c.settle_session.new.world).told)
    (λ copy. comes_now c.args.session c.args.command c.no_memory.result copy copy (all_doing c.settle_session.new.doings) (g.W.World.outside c.settle_session.new.world) (g.W.World.outside c.settle_session.new.world) (rests_then (all_doing c.args.doings.now) (all_doing c.settle_session.new.doings) c.args.session c.requires.rests c.settle_session.ensures.next).here
    (subst (λ r. AnswersNow c.args.command r copy copy (all_doing c.settle_session.new.doings) (g.W.World.outside c.settle_session.new.world) (g.W.World.outside c.settle_session.new.world)) (sym c.no_memory.ensures.reply) (now_memory c.args.command c.requires.asked copy (all_doing c.settle_session.new.doings) (g.W.World.outside c.settle_session.new.world) (g.W.World.outside c.settle_session.new.world) refl))))

pub returns-in-Err-Memory-clause-lines : goal.returns-in-Err-Memory-clause-lines
returns-in-Err-Memory-clause-lines g c = c.no_memory.ensures.lines c.args.tag
