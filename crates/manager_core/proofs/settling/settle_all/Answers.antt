use Rattle.std.proofs.Common.{refl, ◌∙◌}
use Rattle.manager_core.specs.Doings.{all_doing}
use Rattle.manager_core.proofs.OpeningLaws.{rose_by_before}
use Rattle.manager_core.proofs.SettleLaws.{going_then, settled_none, settled_next, tidied_more}
use Rattle.manager_core.proofs.Steadiness.{becomes_then}
use Rattle.manager_core.proofs.Waiting.{waits_then}
use Rattle.manager_core.proofs.settling.settle_all.Goals as goal

pub loop-seat-init : goal.loop-seat-init
loop-seat-init g c = record { so = settled_none (g.W.World.outside c.args.world.now) (all_doing c.args.doings.now); sessions = refl }

pub returns-in-Err-clause-becomes : goal.returns-in-Err-clause-becomes
returns-in-Err-clause-becomes g c = becomes_then (g.W.World.outside c.args.world.now) (g.W.World.outside c.loop-seat.world) (g.W.World.outside c.settle_session.new.world) (all_doing c.args.doings.now) (all_doing c.loop-seat.doings) (all_doing c.settle_session.new.doings)
    c.loop-seat.invariant.so.becomes c.in-Err.ensures.becomes

pub returns-in-Err-clause-waits : goal.returns-in-Err-clause-waits
returns-in-Err-clause-waits g c = waits_then (g.W.World.outside c.args.world.now) (g.W.World.outside c.loop-seat.world) (g.W.World.outside c.settle_session.new.world) (all_doing c.args.doings.now) (all_doing c.loop-seat.doings) (all_doing c.settle_session.new.doings)
    c.loop-seat.invariant.so.becomes c.loop-seat.invariant.so.waits c.in-Err.ensures.waits

pub returns-in-Err-clause-going : goal.returns-in-Err-clause-going
returns-in-Err-clause-going g c = going_then (all_doing c.args.doings.now) (all_doing c.loop-seat.doings) (all_doing c.settle_session.new.doings) c.loop-seat.invariant.so.going c.in-Err.ensures.going

pub returns-in-Err-clause-tidied : goal.returns-in-Err-clause-tidied
returns-in-Err-clause-tidied g c = tidied_more (g.W.World.outside c.args.world.now) (g.W.World.outside c.loop-seat.world) (g.W.World.outside c.settle_session.new.world) (all_doing c.args.doings.now) (all_doing c.loop-seat.doings) c.loop-seat.seat
    c.loop-seat.invariant.so.same c.loop-seat.invariant.so.tidied c.in-Err.ensures.tidied c.loop-seat.invariant.so.becomes

pub returns-in-Err-clause-sessions : goal.returns-in-Err-clause-sessions
returns-in-Err-clause-sessions g c = c.in-Err.ensures.sessions ∙ c.loop-seat.invariant.sessions

pub returns-in-Err-clause-cause : goal.returns-in-Err-clause-cause
returns-in-Err-clause-cause g c = λ is. rose_by_before 1 (g.W.World.outside c.args.world.now) (g.W.World.outside c.loop-seat.world) (g.W.World.outside c.settle_session.new.world) c.loop-seat.invariant.so.later (c.in-Err.ensures.cause is)

pub loop-seat-preserved : goal.loop-seat-preserved
loop-seat-preserved g c = record {
  so = settled_next (g.W.World.outside c.args.world.now) (g.W.World.outside c.loop-seat.world) (g.W.World.outside c.settle_session.new.world) (all_doing c.args.doings.now) (all_doing c.loop-seat.doings) (all_doing c.settle_session.new.doings) c.loop-seat.seat
      c.loop-seat.invariant.so c.settle_session.ensures.becomes c.settle_session.ensures.waits c.settle_session.ensures.going c.settle_session.ensures.tidied c.settle_session.ensures.later c.settle_session.ensures.next (c.in-Ok.ensures.settled refl);
  sessions = c.settle_session.ensures.sessions ∙ c.loop-seat.invariant.sessions;
}
