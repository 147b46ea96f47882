-- How the program runs, from its words and its input to its status.
use Rattle.std.specs.Prelude.{◌≡◌, ◌⊎◌, ℕ, List, [], Option}
use Rattle.cell_world.specs.Texts.{Text}
use Rattle.cell_world.specs.Images.{empty_image}
use Rattle.cell_world.specs.Outside.{Outside}
use Rattle.plain_model.specs.declared.finish.RunStatus.{RunStatus}
use Rattle.plain_model.specs.declared.finish.RunStatus.TheVariants as status
use Rattle.plain_model.specs.declared.history.Entry.{Entry}
use Rattle.script_lang.specs.declared.programs.Program.TheVariants.{Ctl}
use Rattle.script_lang.specs.declared.command_line.Words.{Words}
use Rattle.script_lang.specs.CommandLine.{options_built, SaysWords, IsAccepted, IsBadAt}
use Rattle.script_shell.specs.Promises.{RunsScript, Completes}
use Rattle.world_memory.specs.Told.{fresh}
use Rattle.shardctl_program.specs.Worlds.{IsOpened}

-- A script ran over a world that told this at first: there are a world at the end, a history, and what was then left of the input, of which all is so that a run of a script promises.
pub record Ran (words : List Text) (left : Option Text) (old : Outside) (ending : RunStatus) : Type 0 where
  -- what is left of the input, and how often reading it failed
  pub after : Option Text
  pub faults : ℕ
  -- what the world tells at the end
  pub new : Outside
  pub history : List Entry
  pub promises : RunsScript words left after 0 faults old new history ending
  pub completes : Completes words left 0 faults old new ending

-- Nothing was read, and no script was run: memory was short, or a store couldn't be opened.
abbrev pub IsUnopened : RunStatus → Type 0
IsUnopened ending = (ending ≡ status.Memory) ⊎ (ending ≡ status.StoreFault)

-- a run over the stores of these locations, in memory or in a folder
abbrev pub RunsOver : List Text → Option Text → List Text → Option Text → RunStatus → Type 0
RunsOver words folder locations left ending = IsUnopened ending ⊎ ((old : Outside) × IsOpened folder locations old × Ran words left old ending)

-- a run of accepted words: over the stores that they name
pub record RunsSaid (words : List Text) (left : Option Text) (ending : RunStatus) : Type 0 where
  pub says : Words
  pub accepted : SaysWords Ctl options_built words says
  pub over : RunsOver words says.folder says.locations left ending

-- a run of bad words: over a world without locations and without cells
pub record RunsNone (words : List Text) (left : Option Text) (ending : RunStatus) : Type 0 where
  pub place : ℕ
  pub bad : IsBadAt (IsAccepted Ctl options_built) words place
  pub over : Ran words left (fresh [] (empty_image [])) ending

-- Memory was short before there was a world, or the words are accepted, or they are bad.
abbrev pub Runs : List Text → Option Text → RunStatus → Type 0
Runs words left ending = (ending ≡ status.Memory) ⊎ (RunsSaid words left ending ⊎ RunsNone words left ending)
