use Rattle.std.specs.Prelude.{IsOk}
use Rattle.op_steps.specs.Passing.{FailsByMemory}
use Rattle.op_steps.proofs.PassedStages.{source_makes, commit_makes}
use Rattle.op_steps.proofs.laws.steps_are_made.Goals as goal

pub returns-clause-step : goal.returns-clause-step
returns-clause-step c = λ op image sound at step result done. source_makes op image sound at step (IsOk result) (FailsByMemory result) done

pub returns-clause-commit : goal.returns-clause-commit
returns-clause-commit c = λ op image sound at result done. commit_makes op image sound at (IsOk result) (FailsByMemory result) done
