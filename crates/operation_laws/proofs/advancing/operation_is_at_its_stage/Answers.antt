use Rattle.operation_laws.proofs.OwnSteps.{stage_on_trail, stage_alone}
use Rattle.operation_laws.proofs.advancing.operation_is_at_its_stage.Goals as goal

pub returns-clause-on_trail : goal.returns-clause-on_trail
returns-clause-on_trail c = stage_on_trail

pub returns-clause-alone : goal.returns-clause-alone
returns-clause-alone c = stage_alone
