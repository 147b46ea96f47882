use Rattle.operation_laws.proofs.GivenNumbers.{given_first, given_operating, given_idle}
use Rattle.operation_laws.proofs.beginning.numbers_are_given.Goals as goal

pub returns-clause-first : goal.returns-clause-first
returns-clause-first c = given_first

pub returns-clause-operating : goal.returns-clause-operating
returns-clause-operating c = given_operating

pub returns-clause-idle : goal.returns-clause-idle
returns-clause-idle c = given_idle
