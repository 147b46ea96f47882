use Rattle.session_laws.proofs.ContractLaws.{core_runs_by_moments}
use Rattle.session_laws.proofs.core_runs_at_each_moment.Goals as goal

pub returns : goal.returns
returns c = core_runs_by_moments
