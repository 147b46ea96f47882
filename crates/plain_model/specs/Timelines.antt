-- What came in which order: happenings at the outside, and entries of the history.
use Rattle.std.specs.Prelude.{List, [], ◌∷◌, ◌++◌}
use Rattle.cell_world.specs.Texts.{Text}
use Rattle.cell_world.specs.Images.{Image, Happening, Committed, Wrote, Reopened, after_one}
use Rattle.cell_world.specs.Plain.{PlainState}
use Rattle.cell_world.specs.Meaning.{meaning}
use Rattle.plain_model.specs.declared.history.Entry.{Entry}

pub data Beat : Type 0 where
  -- Something happened to the stores or the output.
  Happened : (what : Happening) → Beat
  -- An entry was made.
  Entered : (entry : Entry) → Beat

-- The latest comes first.
abbrev pub Timeline : Type 0
Timeline = List Beat

-- what the stores hold now
abbrev pub image_of : Image → Timeline → Image
image_of start [] = start
image_of start (Happened h ∷ past) = after_one (image_of start past) h
image_of start (Entered e ∷ past) = image_of start past

-- what the stores stood for when the latest entry was made, or at the start
abbrev pub facts_of : Image → Timeline → PlainState
facts_of start [] = meaning start
facts_of start (Happened h ∷ past) = facts_of start past
facts_of start (Entered e ∷ past) = meaning (image_of start past)

-- what happened, in order
abbrev pub happened_of : Timeline → List Happening
happened_of [] = []
happened_of (Happened h ∷ past) = happened_of past ++ h ∷ []
happened_of (Entered e ∷ past) = happened_of past

-- the entries, in order
abbrev pub history_of : Timeline → List Entry
history_of [] = []
history_of (Happened h ∷ past) = history_of past
history_of (Entered e ∷ past) = history_of past ++ e ∷ []

-- the bytes that were written
abbrev pub written_of : Timeline → Text
written_of [] = []
written_of (Happened (Wrote bytes) ∷ past) = written_of past ++ bytes
written_of (Happened (Committed place change took) ∷ past) = written_of past
written_of (Happened (Reopened place cells) ∷ past) = written_of past
written_of (Entered e ∷ past) = written_of past

-- ---- the entries with their states

-- an entry
pub record Made : Type 0 where
  pub entry : Entry  -- as it stands in the history
  pub before : PlainState  -- the state before it, but for connections

-- The latest comes first.
abbrev pub Past : Type 0
Past = List Made

abbrev pub past_of : Image → Timeline → Past
past_of start [] = []
past_of start (Happened h ∷ past) = past_of start past
past_of start (Entered e ∷ past) = record { entry = e; before = facts_of start past } ∷ past_of start past
