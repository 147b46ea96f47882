use Rattle.plain_model.proofs.NearLaws.{near_itself, near_back, near_on}
use Rattle.plain_model.proofs.run_laws.near_is_an_equivalence.Goals as goal

pub returns-clause-itself : goal.returns-clause-itself
returns-clause-itself c = near_itself

pub returns-clause-back : goal.returns-clause-back
returns-clause-back c = near_back

pub returns-clause-on : goal.returns-clause-on
returns-clause-on c = near_on
