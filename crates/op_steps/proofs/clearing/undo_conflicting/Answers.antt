use Rattle.op_steps.proofs.ClearLaws.{undoes_none}
use Rattle.op_steps.proofs.clearing.undo_conflicting.Goals as goal

pub returns-in-Ok-clause-passes : goal.returns-in-Ok-clause-passes
returns-in-Ok-clause-passes g c = rw (← c.in-Ok.ensures, ← c.deref.ensures.value) c.undo_all.ensures.passes

pub returns-in-Err-clause-passes : goal.returns-in-Err-clause-passes
returns-in-Err-clause-passes g c = undoes_none _ (g.W.World.outside c.args.world.now)
