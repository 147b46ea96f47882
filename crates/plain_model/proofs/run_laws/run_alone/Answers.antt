use Rattle.plain_model.proofs.AloneLaws.{alone_begins, alone_goes_on, alone_enters, alone_follows}
use Rattle.plain_model.proofs.run_laws.run_alone.Goals as goal

pub returns-clause-begins : goal.returns-clause-begins
returns-clause-begins c = alone_begins

pub returns-clause-goes_on : goal.returns-clause-goes_on
returns-clause-goes_on c = alone_goes_on

pub returns-clause-enters : goal.returns-clause-enters
returns-clause-enters c = alone_enters

pub returns-clause-follows : goal.returns-clause-follows
returns-clause-follows c = alone_follows
