use Rattle.row_laws.proofs.CommitLeads.{done_commits, fault_commits}
use Rattle.row_laws.proofs.leading.short_changes_are_row_commits.Goals as goal

pub returns-clause-done : goal.returns-clause-done
returns-clause-done c = done_commits

pub returns-clause-fault : goal.returns-clause-fault
returns-clause-fault c = fault_commits
