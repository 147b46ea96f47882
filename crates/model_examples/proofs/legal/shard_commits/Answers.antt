use Rattle.std.proofs.Common.{◌≡◌, refl, sym, ◌∙◌, Some, None}
use Rattle.std.specs.FinMap as fin
use Rattle.cell_world.specs.ByteOrder.{byte_cmp}
use Rattle.cell_world.specs.declared.cells.Away.{Away}
use Rattle.cell_world.specs.declared.cells.Away.TheVariants.{Detached}
use Rattle.world_examples.specs.Examples.{site_a}
use Rattle.model_examples.proofs.legal.shard_commits.Goals as goal

pub returns-clause-a_local_row : goal.returns-clause-a_local_row
returns-clause-a_local_row c = (refl, λ detached. let e : None ≡ Some Detached = sym (fin.get-empty {X = Away} byte_cmp site_a) ∙ detached in absurd cc)
