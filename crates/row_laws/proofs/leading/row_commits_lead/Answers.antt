use Rattle.row_laws.proofs.CommitLeads.{commit_leads}
use Rattle.row_laws.proofs.leading.row_commits_lead.Goals as goal

pub returns : goal.returns
returns c = commit_leads
