use Rattle.std.proofs.Common.{◌≡◌, subst, true}
use Rattle.std.specs.Prelude.{Ok, IfSome}
use Rattle.op_steps.specs.Clearing.{Clears, is_in_way}
use Rattle.op_steps.specs.Passing.{Passes}
use Rattle.manager_core.proofs.ClearingLaws.{nothing_clears, free_clears, found_clears, fault_clears}
use Rattle.manager_core.proofs.clearing.clear.Goals as goal

pub returns-in-Nothing-clause-clears : goal.returns-in-Nothing-clause-clears
returns-in-Nothing-clause-clears g c = λ before are. nothing_clears before c.args.reach.now (g.W.World.outside c.args.world.now) c.in-Nothing.is

pub returns-in-Ok-Some-clause-clears : goal.returns-in-Ok-Some-clause-clears
returns-in-Ok-Some-clause-clears g c = λ before are. found_clears c.args.live.now before are c.args.reach.now (g.W.World.outside c.args.world.now) (g.W.World.outside c.clear_way.new.world) c.in-Ok-Some.op
    (subst (λ o. IfSome o (λ op. is_in_way c.args.live.now c.args.reach.now op ≡ true)) c.in-Ok-Some.field-0-is c.in-Ok-Some.ensures.in_way)
    (subst (λ o. Passes (Clears c.args.live.now c.args.reach.now (Ok o)) (g.W.World.outside c.args.world.now) (g.W.World.outside c.clear_way.new.world)) c.in-Ok-Some.field-0-is c.in-Ok-Some.ensures.passes)

pub returns-in-Ok-None-clause-clears : goal.returns-in-Ok-None-clause-clears
returns-in-Ok-None-clause-clears g c = λ before are. free_clears c.args.live.now before are c.args.reach.now (g.W.World.outside c.args.world.now) (g.W.World.outside c.clear_way.new.world)
    (subst (λ o. Passes (Clears c.args.live.now c.args.reach.now (Ok o)) (g.W.World.outside c.args.world.now) (g.W.World.outside c.clear_way.new.world)) c.in-Ok-None.field-0-is c.in-Ok-None.ensures.passes)

pub returns-in-Err-clause-clears : goal.returns-in-Err-clause-clears
returns-in-Err-clause-clears g c = λ before are. fault_clears c.args.live.now before are c.args.reach.now (g.W.World.outside c.args.world.now) (g.W.World.outside c.clear_way.new.world) c.in-Err.fault c.in-Err.ensures.passes
