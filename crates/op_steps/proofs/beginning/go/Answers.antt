use Rattle.op_steps.proofs.beginning.go.Goals as goal

pub returns-in-Ok-clause-passes : goal.returns-in-Ok-clause-passes
returns-in-Ok-clause-passes g c = c.in-Ok.ensures.passes

pub returns-in-Ok-clause-says : goal.returns-in-Ok-clause-says
returns-in-Ok-clause-says g c live = record { asked = c.in-Ok.ensures.asked; number = c.logged.ensures.number; name = c.logged.ensures.name }

pub returns-in-Err-clause-passes : goal.returns-in-Err-clause-passes
returns-in-Err-clause-passes g c = c.in-Err.ensures.passes

pub returns-in-Err-clause-cause : goal.returns-in-Err-clause-cause
returns-in-Err-clause-cause g c h = c.in-Err.ensures.cause h
