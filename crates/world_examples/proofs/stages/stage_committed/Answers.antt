use Rattle.std.proofs.Common.{◌<◌, true≢false, sym, ap, ◌∙◌, arith, is_some}
use Rattle.world_examples.proofs.Marking.{out_of_log, in_log}
use Rattle.world_examples.proofs.stages.stage_committed.Goals as goal

pub returns-clause-accepted : goal.returns-clause-accepted
returns-clause-accepted c = (out_of_log, omega arith)

pub returns-clause-in_log : goal.returns-clause-in_log
returns-clause-in_log c = λ h. true≢false (sym (ap is_some in_log) ∙ ap is_some h.0)

pub returns-clause-number_not_given : goal.returns-clause-number_not_given
returns-clause-number_not_given c = λ h. let below : 1 < 1 = h.1 in omega arith
