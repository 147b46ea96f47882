use Rattle.image_laws.proofs.UnderWayLaws.{begun, step_leads, under_way_local, under_way_global}
use Rattle.image_laws.proofs.progress.operations_get_on.Goals as goal

pub returns-clause-begun : goal.returns-clause-begun
returns-clause-begun c = begun

pub returns-clause-stepped : goal.returns-clause-stepped
returns-clause-stepped c = step_leads

pub returns-clause-local : goal.returns-clause-local
returns-clause-local c = under_way_local

pub returns-clause-global_store : goal.returns-clause-global_store
returns-clause-global_store c = under_way_global
