use Rattle.plain_model.proofs.AloneLaws.{alone_from, same_entries}
use Rattle.plain_model.proofs.run_laws.run_alone_on_a_trail.Goals as goal

pub returns-clause-run : goal.returns-clause-run
returns-clause-run c = alone_from

pub returns-clause-entries : goal.returns-clause-entries
returns-clause-entries c = same_entries
