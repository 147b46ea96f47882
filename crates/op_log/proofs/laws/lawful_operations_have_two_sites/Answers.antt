use Rattle.op_log.proofs.TwoSites.{two_sites}
use Rattle.op_log.proofs.laws.lawful_operations_have_two_sites.Goals as goal

pub returns : goal.returns
returns c = two_sites
