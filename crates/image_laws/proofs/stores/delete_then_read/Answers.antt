use Rattle.cell_world.proofs.StoreLaws.{cell_at-delete_same, cell_at-delete_other}
use Rattle.image_laws.proofs.stores.delete_then_read.Goals as goal

pub returns-clause-gone : goal.returns-clause-gone
returns-clause-gone c = cell_at-delete_same

pub returns-clause-others : goal.returns-clause-others
returns-clause-others c = cell_at-delete_other
