-- The stores over which the program runs a script.
use Rattle.std.specs.Prelude.{◌≡◌, List, Option, Some, None}
use Rattle.cell_world.specs.Texts.{Text}
use Rattle.cell_world.specs.Images.{empty_image}
use Rattle.cell_world.specs.Outside.{Outside, Told, TellsNothing, TellsContents, IsNewWorld}

-- What stores tell when they are opened: without a folder they are empty, and tell their contents; in the files of a folder they tell their counts alone.
abbrev pub first_told : Option Text → List Text → Told
first_told None locations = TellsContents (empty_image locations)
first_told (Some folder) locations = TellsNothing

-- a world over stores that were just opened
pub record IsOpened (folder : Option Text) (locations : List Text) (old : Outside) : Type 0 where
  -- nothing failed in it, and nothing was read
  pub new : IsNewWorld old
  -- it has these locations
  pub over : old.locations ≡ locations
  -- and tells this of its stores
  pub told : old.told ≡ first_told folder locations
