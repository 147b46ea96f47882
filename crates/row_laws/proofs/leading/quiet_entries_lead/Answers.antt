use Rattle.row_laws.proofs.QuietLeads.{quiet_leads}
use Rattle.row_laws.proofs.leading.quiet_entries_lead.Goals as goal

pub returns : goal.returns
returns c = quiet_leads
