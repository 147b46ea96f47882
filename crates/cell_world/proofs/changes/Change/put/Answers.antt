-- The change with the put still puts nothing but cells.
use Rattle.cell_world.proofs.Edits.{tried}
use Rattle.cell_world.specs.declared.changes.Edit.TheVariants.{Put}
use Rattle.cell_world.proofs.changes.Change.put.Goals as goal

pub invariant_of-self-2 : goal.invariant_of-self-2
invariant_of-self-2 c = tried _ _ _ (Put c.args.cell) c.push.ensures.items c.self.invariant record { typed = c.known.ensures; spelled = c.requires }
