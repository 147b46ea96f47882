use Rattle.operation_laws.proofs.FirstImage.{core_recovers_first, alone_recovers_first}
use Rattle.operation_laws.proofs.recovering.core_recovers_first.Goals as goal

pub returns-clause-on_trail : goal.returns-clause-on_trail
returns-clause-on_trail c = core_recovers_first

pub returns-clause-alone : goal.returns-clause-alone
returns-clause-alone c = alone_recovers_first
