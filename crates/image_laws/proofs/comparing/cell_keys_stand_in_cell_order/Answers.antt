-- The order that the program derives is cell order.
use Rattle.cell_world.specs.KeyOrder.{same_order}
use Rattle.image_laws.proofs.comparing.cell_keys_stand_in_cell_order.Goals as goal

pub returns : goal.returns
returns c = same_order
