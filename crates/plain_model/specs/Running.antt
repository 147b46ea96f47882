-- The run so far, as one record: what holds between two events.
use Rattle.std.specs.Prelude.{◌≡◌, ℕ, [], ◌∷◌, ◌++◌}
use Rattle.cell_world.specs.Texts.{Text}
use Rattle.cell_world.specs.Images.{Image, Happening, Wrote, Committed, Reopened}
use Rattle.cell_world.specs.Plain.{Connections}
use Rattle.cell_world.specs.Meaning.{meaning}
use Rattle.cell_world.specs.Sound.{Sound}
use Rattle.plain_model.specs.declared.history.Entry.{Entry}
use Rattle.plain_model.specs.Lines.{lines, entry_text}
use Rattle.plain_model.specs.Timelines.{Timeline, Happened, Entered, image_of, facts_of, history_of, written_of}
use Rattle.plain_model.specs.OnTrail.{NoneOwed}
use Rattle.plain_model.specs.Legal.{Unfolds, IsAtRest}
use Rattle.plain_model.specs.Written.{Mode, EachReply, Summary, WrittenSoFar, WasWritten}

-- each image of the timeline is sound
abbrev pub AllSound : Image → Timeline → Type 0
AllSound start [] = Sound start
AllSound start (Happened h ∷ past) = Sound (image_of start (Happened h ∷ past)) × AllSound start past
AllSound start (Entered e ∷ past) = AllSound start past

pub record Running (since : ℕ) (start : Image) (mode : Mode) (past : Timeline) (connections : Connections) : Type 0 where
  -- it may have come about so, and these are the connections now
  pub unfolds : Unfolds since start past connections
  -- the stores stand exactly for the state of the latest entry
  pub exact : meaning (image_of start past) ≡ facts_of start past
  -- no entry is owed
  pub none_owed : NoneOwed start past
  -- the stores were sound at each moment
  pub sound : AllSound start past
  -- only what happened was written, before each thing and now
  pub was_written : WasWritten mode past
  pub written : WrittenSoFar mode past

-- ---- lines that are still to be written

-- the bytes that a happening writes
abbrev pub bytes_of : Happening → Text
bytes_of (Wrote bytes) = bytes
bytes_of (Committed place change took) = []
bytes_of (Reopened place cells) = []

-- what an entry adds to what is to be written
abbrev pub text_of : Mode → Entry → Text
text_of (EachReply tagged) e = entry_text tagged e
text_of Summary e = []

-- the rest is still to be written; with a summary nothing is written yet
abbrev pub Owes : Mode → Timeline → Text → Type 0
Owes (EachReply tagged) past rest = written_of past ++ rest ≡ lines tagged (history_of past)
Owes Summary past rest = (written_of past ≡ []) × (rest ≡ [])

-- the run so far, with this still to be written
pub record Owing (since : ℕ) (start : Image) (mode : Mode) (past : Timeline) (connections : Connections) (rest : Text) : Type 0 where
  pub run : Running since start mode past connections
  -- the rest of the lines
  pub owes : Owes mode past rest

-- ---- inside `attach` and `clear`

-- the run so far, where the stores stand for the state of the latest entry up to near
pub record Recovering (since : ℕ) (start : Image) (mode : Mode) (past : Timeline) (connections : Connections) (rest : Text) : Type 0 where
  pub unfolds : Unfolds since start past connections
  pub rests : IsAtRest start past
  pub none_owed : NoneOwed start past
  pub sound : AllSound start past
  pub was_written : WasWritten mode past
  pub written : WrittenSoFar mode past
  pub owes : Owes mode past rest
