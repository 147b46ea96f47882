use Rattle.std.proofs.Common.{refl}
use Rattle.std.specs.FinMap as fin
use Rattle.cell_world.specs.ByteOrder.{byte_cmp}
use Rattle.cell_world.specs.declared.cells.Away.{Away}
use Rattle.cell_world.specs.declared.cells.Away.TheVariants.{Detached}
use Rattle.world_examples.specs.Examples.{site_a}
use Rattle.model_examples.proofs.NearStates.{is_away}
use Rattle.model_examples.proofs.caches.learning.Goals as goal

pub returns-clause-hit : goal.returns-clause-hit
returns-clause-hit c = rw (fin.get-empty {X = Away} byte_cmp site_a) refl

pub returns-clause-at_a_site_that_is_away : goal.returns-clause-at_a_site_that_is_away
returns-clause-at_a_site_that_is_away c = rw (is_away Detached) refl
