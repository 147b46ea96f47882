use Rattle.std.proofs.Common.{refl}
use Rattle.connection_laws.proofs.SameStates.{owned_same, all_same}
use Rattle.connection_laws.proofs.states.other_parts_mean_nothing.Goals as goal

pub returns-clause-one : goal.returns-clause-one
returns-clause-one c = owned_same

pub returns-clause-all : goal.returns-clause-all
returns-clause-all c = all_same

pub returns-clause-rows : goal.returns-clause-rows
returns-clause-rows c s rows = all_same s (record s { rows = rows }) refl refl refl
