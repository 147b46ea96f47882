-- The run so far over a world that tells its contents alone.
use Rattle.std.specs.Prelude.{◌≡◌, List, [], ◌∷◌, ◌++◌}
use Rattle.cell_world.specs.Images.{Image}
use Rattle.cell_world.specs.Plain.{PlainState, Connections, nobody, with_connections}
use Rattle.cell_world.specs.Meaning.{meaning}
use Rattle.cell_world.specs.Sound.{Sound}
use Rattle.plain_model.specs.declared.history.Entry.{Entry}
use Rattle.plain_model.specs.Timelines.{Past}
use Rattle.plain_model.specs.Follows.{Follows}

-- the entries, in order
abbrev pub entries_of : Past → List Entry
entries_of [] = []
entries_of (m ∷ past) = entries_of past ++ m.entry ∷ []

-- From the first state the entries lead to this one: each follows from the state before it to its own.
abbrev pub LeadsTo : PlainState → Past → PlainState → Type 0
LeadsTo first [] now = first ≡ now
LeadsTo first (m ∷ past) now = (before : PlainState) × LeadsTo first past before × (with_connections before nobody ≡ m.before) × Follows past before m.entry now m.entry.reply

pub record RunningAlone (first : Image) (past : Past) (connections : Connections) (image : Image) : Type 0 where
  -- the entries lead from what the stores stood for first to what they stand for now, with these connections
  pub leads : LeadsTo (meaning first) past (with_connections (meaning image) connections)
  -- the stores are sound
  pub sound : Sound image
