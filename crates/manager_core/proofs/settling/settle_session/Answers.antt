use Rattle.std.proofs.Common.{refl, sym, ◌∙◌, subst}
use Rattle.cell_world.specs.Outside.{IfContents}
use Rattle.manager_core.specs.Doings.{all_doing}
use Rattle.manager_core.specs.Coming.{SettleStep}
use Rattle.manager_core.specs.Steady.{IsSettledOp}
use Rattle.manager_core.proofs.SettleLaws.{becomes_alike, same_as_before, same_op, still_going, waits_alike}
use Rattle.manager_core.proofs.TidyLaws.{tidied_none}
use Rattle.manager_core.proofs.settling.settle_session.Goals as goal

pub returns-in-Some-clause-becomes : goal.returns-in-Some-clause-becomes
returns-in-Some-clause-becomes g c = c.settle.ensures.becomes (all_doing c.args.doings.now) (all_doing c.take_left.new.self) c.args.session c.in-Some.ensures.left.0 c.take_left.ensures.next

pub returns-in-Some-clause-waits : goal.returns-in-Some-clause-waits
returns-in-Some-clause-waits g c = c.settle.ensures.waits (all_doing c.args.doings.now) (all_doing c.take_left.new.self) c.args.session c.in-Some.ensures.left.0 c.take_left.ensures.next

pub returns-in-Some-clause-going : goal.returns-in-Some-clause-going
returns-in-Some-clause-going g c = still_going (all_doing c.args.doings.now) c.args.session (all_doing c.take_left.new.self) c.take_left.ensures.next

pub returns-in-Some-clause-tidied : goal.returns-in-Some-clause-tidied
returns-in-Some-clause-tidied g c = c.settle.ensures.tidied (all_doing c.args.doings.now) c.args.session c.in-Some.ensures.left.0

pub returns-in-Some-clause-settled : goal.returns-in-Some-clause-settled
returns-in-Some-clause-settled g c = λ ok op is steady. subst (λ o. IfContents (g.W.World.outside c.settle.new.world).told (IsSettledOp o)) (same_op c.in-Some.left.op op (sym c.in-Some.ensures.left.0 ∙ is))
    (c.settle.ensures.settled ok (all_doing c.args.doings.now) c.args.session c.in-Some.ensures.left.0 steady)

pub returns-in-None-clause-becomes : goal.returns-in-None-clause-becomes
returns-in-None-clause-becomes g c = becomes_alike (g.W.World.outside c.args.world.now) (g.W.World.outside c.args.world.now) (all_doing c.args.doings.now) (all_doing c.take_left.new.self)
    (same_as_before (all_doing c.args.doings.now) (all_doing c.take_left.new.self) c.args.session (c.in-None.ensures.none refl) c.take_left.ensures.next) refl

pub returns-in-None-clause-waits : goal.returns-in-None-clause-waits
returns-in-None-clause-waits g c = waits_alike (g.W.World.outside c.args.world.now) (g.W.World.outside c.args.world.now) (all_doing c.args.doings.now) (all_doing c.take_left.new.self)
    (same_as_before (all_doing c.args.doings.now) (all_doing c.take_left.new.self) c.args.session (c.in-None.ensures.none refl) c.take_left.ensures.next) refl

pub returns-in-None-clause-going : goal.returns-in-None-clause-going
returns-in-None-clause-going g c = still_going (all_doing c.args.doings.now) c.args.session (all_doing c.take_left.new.self) c.take_left.ensures.next

pub returns-in-None-clause-tidied : goal.returns-in-None-clause-tidied
returns-in-None-clause-tidied g c = λ steady. tidied_none (SettleStep (all_doing c.args.doings.now c.args.session)) (g.W.World.outside c.args.world.now).told (g.W.World.outside c.args.world.now).told refl
