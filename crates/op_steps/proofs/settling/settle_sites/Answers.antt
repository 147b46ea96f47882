use Rattle.op_steps.proofs.Passes.{passes_then, passes_weaker}
use Rattle.op_steps.proofs.SettleLaws.{both_settled, first_failed}
use Rattle.op_steps.proofs.Rises.{rose_after}
use Rattle.op_steps.proofs.UndoCalls.{err_not_ok}
use Rattle.op_steps.proofs.settling.settle_sites.Goals as goal

pub returns-in-Ok-clause-passes : goal.returns-in-Ok-clause-passes
returns-in-Ok-clause-passes g c =
    passes_then _ _ _ (g.W.World.outside c.args.world.now) (g.W.World.outside c.settle_if.new.world) (g.W.World.outside c.settle_if-in-Ok.new.world) c.in-Ok.ensures.passes c.settle_if-in-Ok.ensures.passes
    (λ image hs gs p q. both_settled c.args.op.now c.sites_of-sites.result c.sites_of-sites.ensures.all _ image hs gs p q)

pub returns-in-Ok-clause-cause : goal.returns-in-Ok-clause-cause
returns-in-Ok-clause-cause g c h =
    rose_after (g.W.World.outside c.args.world.now) (g.W.World.outside c.settle_if.new.world) (g.W.World.outside c.settle_if-in-Ok.new.world) c.settle_if.ensures.passes.later (c.settle_if-in-Ok.ensures.cause h)

pub returns-in-Err-clause-passes : goal.returns-in-Err-clause-passes
returns-in-Err-clause-passes g c =
    passes_weaker _ _ (g.W.World.outside c.args.world.now) (g.W.World.outside c.settle_if.new.world) (λ image hs p. first_failed c.args.op.now c.sites_of-sites.result c.sites_of-sites.ensures.all _ (err_not_ok c.in-Err.fault) image hs p) c.in-Err.ensures.passes
