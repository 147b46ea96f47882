use Rattle.cell_world.proofs.KeyedLaws.{cell_at-empty, store_empty, store_changed}
use Rattle.image_laws.proofs.stores.stores_stay_stores.Goals as goal

pub returns-clause-nothing : goal.returns-clause-nothing
returns-clause-nothing c = cell_at-empty

pub returns-clause-empty : goal.returns-clause-empty
returns-clause-empty c = store_empty

pub returns-clause-changes : goal.returns-clause-changes
returns-clause-changes c s h edits puts = store_changed s edits puts h
