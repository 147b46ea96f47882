-- Which log cells a run has tried, and what is so of the numbers that it gave.
use Rattle.std.specs.Prelude.{◌≡◌, ◌⊎◌, ℕ, ◌≤◌, [], ◌∷◌, None}
use Rattle.std.specs.FinMap as map
use Rattle.cell_world.specs.Lists.{IsOneOf}
use Rattle.cell_world.specs.Images.{Image, Committed, global}
use Rattle.cell_world.specs.Meaning.{next_operation}
use Rattle.cell_world.specs.declared.operations.Op.{Op}
use Rattle.plain_model.specs.Timelines.{Timeline, Happened, Entered}
use Rattle.plain_model.specs.OnTrail.{logs_put}

-- a commit of the timeline, made or not, was to put the log cell of this operation
abbrev pub WasEverTried : Timeline → Op → Type 0
WasEverTried [] op = ⊥
WasEverTried (Happened (Committed place change took) ∷ past) op = IsOneOf (logs_put change) op ⊎ WasEverTried past op
WasEverTried (Happened h ∷ past) op = WasEverTried past op
WasEverTried (Entered e ∷ past) op = WasEverTried past op

-- what is so of the number of an operation of the run that led from the one image to the other
pub record IsOfRun (start now : Image) (number : ℕ) : Type 0 where
  -- numbers begin at 1
  pub some : 1 ≤ number
  -- it is at least the counter's operation number at the start
  pub from_start : next_operation start ≤ number
  -- and at most what that is now
  pub to_now : number ≤ next_operation now
  -- the log of the start has nothing under it
  pub unlogged : map.get (global start).log number ≡ None
