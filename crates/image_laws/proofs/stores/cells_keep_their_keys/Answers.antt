use Rattle.cell_world.proofs.KeyedLaws.{stands_under, keyed_changed}
use Rattle.image_laws.proofs.stores.cells_keep_their_keys.Goals as goal

pub returns-clause-own : goal.returns-clause-own
returns-clause-own c s h k d = stands_under s k d h

pub returns-clause-changes : goal.returns-clause-changes
returns-clause-changes c s h edits = keyed_changed s edits h
