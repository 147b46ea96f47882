use Rattle.image_laws.proofs.FitLaws.{exchange, are_mappings_after, new_apart}
use Rattle.image_laws.proofs.shapes.exchanges_keep_mappings.Goals as goal

pub returns-clause-exchanged : goal.returns-clause-exchanged
returns-clause-exchanged c = exchange

pub returns-clause-mappings : goal.returns-clause-mappings
returns-clause-mappings c = are_mappings_after

pub returns-clause-apart : goal.returns-clause-apart
returns-clause-apart c = new_apart
