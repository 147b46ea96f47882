-- The change with the delete still puts nothing but cells.
use Rattle.cell_world.proofs.Edits.{tried}
use Rattle.cell_world.proofs.changes.Change.delete.Goals as goal

pub invariant_of-self-2 : goal.invariant_of-self-2
invariant_of-self-2 c = tried _ _ _ _ c.push.ensures.items c.self.invariant c.known.ensures
