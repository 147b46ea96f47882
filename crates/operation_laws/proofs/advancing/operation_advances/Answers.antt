use Rattle.operation_laws.proofs.OwnSteps.{advances_on_trail, advances_alone}
use Rattle.operation_laws.proofs.advancing.operation_advances.Goals as goal

pub returns-clause-on_trail : goal.returns-clause-on_trail
returns-clause-on_trail c = advances_on_trail

pub returns-clause-alone : goal.returns-clause-alone
returns-clause-alone c = advances_alone
