use Rattle.std.proofs.Common.{refl, [], ◌∷◌}
use Rattle.world_examples.specs.Examples.{range, map_m, row_of, numbered_rows}
use Rattle.world_examples.proofs.Refusing.{some_under}
use Rattle.world_examples.proofs.lawful.refused_deletes.Goals as goal

pub returns-clause-rows : goal.returns-clause-rows
returns-clause-rows c h = some_under map_m (range 0 5) (numbered_rows 1 (4 ∷ [])) tt (row_of 4 1) refl h.shape.1
