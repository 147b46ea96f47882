use Rattle.operation_laws.proofs.OwnSteps.{step_leaves, commit_made, commit_failed, commit_untried}
use Rattle.operation_laws.proofs.advancing.operation_leaves.Goals as goal

pub returns-clause-before : goal.returns-clause-before
returns-clause-before c = step_leaves

pub returns-clause-committed : goal.returns-clause-committed
returns-clause-committed c = commit_made

pub returns-clause-failed : goal.returns-clause-failed
returns-clause-failed c = commit_failed

pub returns-clause-memory : goal.returns-clause-memory
returns-clause-memory c = commit_untried
