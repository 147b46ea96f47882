use Rattle.cell_world.proofs.SameStore.{same_store}
use Rattle.image_laws.proofs.stores.cells_are_the_store.Goals as goal

pub returns : goal.returns
returns c = same_store
