-- How much of a history's lines is written.
use Rattle.std.specs.Prelude.{◌≡◌, ℕ, ◌≤◌, Bool, false, ◌||◌, List, [], ◌∷◌, ◌++◌, length, filter, nat_le, if◌then◌else◌, is_some}
use Rattle.cell_world.specs.Texts.{Text}
use Rattle.cell_world.specs.Images.{Trail, end_of_trail, bytes_between}
use Rattle.plain_model.specs.declared.history.Entry.{Entry}
use Rattle.plain_model.specs.Lines.{lines}
use Rattle.plain_model.specs.Summary.{summary_lines}
use Rattle.plain_model.specs.Timelines.{Timeline, Happened, Entered, history_of, written_of}

-- ---- what is to be written

pub data Mode : Type 0 where
  -- the lines of each reply; where it is tagged each line begins with the session's number
  EachReply : (tagged : Bool) → Mode
  -- with `--workload`: four summary lines after the last command
  Summary : Mode

-- the four lines, counted over the entries that have a reply; none of an empty history
abbrev pub summary : List Entry → Text
summary [] = []
summary (e ∷ es) = summary_lines (e ∷ es)

-- what the output is once all is written
abbrev pub all_lines : Mode → List Entry → Text
all_lines (EachReply tagged) history = lines tagged history
all_lines Summary history = summary history

abbrev pub IsPrefixOf : Text → Text → Type 0
IsPrefixOf front whole = (rest : Text) × (front ++ rest ≡ whole)

-- ---- by moments

-- the moment of the last of these entries, or t0
abbrev pub last_moment : ℕ → List Entry → ℕ
last_moment t0 [] = t0
last_moment t0 (e ∷ es) = last_moment e.moment es

-- the entries whose moment is at most t
abbrev pub by_moment : ℕ → List Entry → List Entry
by_moment t history = filter (λ (e : Entry). nat_le e.moment t) history

abbrev pub some_answered : List Entry → Bool
some_answered [] = false
some_answered (e ∷ es) = is_some e.reply || some_answered es

-- the entries without the last that has a reply
abbrev pub without_last : List Entry → List Entry
without_last [] = []
without_last (e ∷ es) = if some_answered es then e ∷ without_last es else if is_some e.reply then es else e ∷ es

-- at moment t, with the bytes written by then
pub record LinesAt (tagged : Bool) (history : List Entry) (t : ℕ) (bytes : Text) : Type 0 where
  -- they are a front of the lines
  pub front : IsPrefixOf bytes (lines tagged history)
  -- no longer than the lines of the entries with moment at most t
  pub most : length bytes ≤ length (lines tagged (by_moment t history))
  -- and they have the lines of all these but the last that has a reply
  pub least : length (lines tagged (without_last (by_moment t history))) ≤ length bytes

pub record SummaryAt (t0 : ℕ) (history : List Entry) (t : ℕ) (bytes : Text) : Type 0 where
  -- nothing is written until the last entry is made
  pub quiet : t ≤ last_moment t0 history → bytes ≡ []
  -- and then a front of the four summary lines
  pub front : last_moment t0 history ≤ t → IsPrefixOf bytes (summary history)

abbrev pub WrittenAt : Mode → Trail → ℕ → List Entry → ℕ → Type 0
WrittenAt (EachReply tagged) trail t0 history t = LinesAt tagged history t (bytes_between trail t0 t)
WrittenAt Summary trail t0 history t = SummaryAt t0 history t (bytes_between trail t0 t)

-- Only what happened is written: at each moment of the run, which began at moment t0.
abbrev pub WrittenByMoments : Mode → Trail → ℕ → List Entry → Type 0
WrittenByMoments mode trail t0 history = (t : ℕ) → t0 ≤ t → t ≤ end_of_trail trail → WrittenAt mode trail t0 history t

-- All of it is written at the end.
abbrev pub AllWritten : Mode → Trail → ℕ → List Entry → Type 0
AllWritten mode trail t0 history = bytes_between trail t0 (end_of_trail trail) ≡ all_lines mode history

-- ---- by the timeline

-- the entries but for the latest that has a reply, and what came after it
abbrev pub surely_written : Timeline → List Entry
surely_written [] = []
surely_written (Happened h ∷ past) = surely_written past
surely_written (Entered e ∷ past) = if is_some e.reply then history_of past else surely_written past

-- the bytes so far have the lines of all entries but the last answered one, and no more than those of all
pub record LinesSoFar (tagged : Bool) (past : Timeline) : Type 0 where
  -- the lines of all entries but the last answered one are written
  pub enough : IsPrefixOf (lines tagged (surely_written past)) (written_of past)
  -- and no more than the lines of all
  pub no_more : IsPrefixOf (written_of past) (lines tagged (history_of past))

abbrev pub WrittenSoFar : Mode → Timeline → Type 0
WrittenSoFar (EachReply tagged) past = LinesSoFar tagged past
WrittenSoFar Summary past = IsPrefixOf (written_of past) (summary (history_of past))

-- what an entry finds written: with a summary nothing
abbrev pub IsQuietAt : Mode → Timeline → Type 0
IsQuietAt (EachReply tagged) past = Unit {0}
IsQuietAt Summary past = written_of past ≡ []

-- so it was before each thing that happened or was entered
abbrev pub WasWritten : Mode → Timeline → Type 0
WasWritten mode [] = Unit {0}
WasWritten mode (Happened h ∷ past) = WasWritten mode past × WrittenSoFar mode past
WasWritten mode (Entered e ∷ past) = WasWritten mode past × IsQuietAt mode past
