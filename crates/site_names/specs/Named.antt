-- The locations that the cells of the global store name, in cell order, and the first of them that the world doesn't know.
use Rattle.std.specs.Prelude.{List, [], ◌∷◌, ◌++◌, Option, Some, None}
use Rattle.std.specs.Option.{option_or}
use Rattle.cell_world.specs.Texts.{Text}
use Rattle.cell_world.specs.Stores.{Store}
use Rattle.cell_world.specs.declared.cells.Cell.{Cell}
use Rattle.global_tables.specs.Groups.{cells_of}
use Rattle.global_tables.specs.declared.groups.Group.{Group}
use Rattle.global_tables.specs.declared.groups.Group.TheVariants as group
use Rattle.plain_model.specs.Headline.{named_locations, first_unknown, IsFirstUnknown}

-- the first unknown location that one of these cells names
abbrev pub first_named : List Text → List Cell → Option Text
first_named known [] = None
first_named known (c ∷ cs) = option_or (first_unknown known (named_locations c)) (first_named known cs)

-- the cells of these groups, one group after the other
abbrev pub cells_in : Store → List Group → List Cell
cells_in s [] = []
cells_in s (g ∷ gs) = cells_of s g ++ cells_in s gs

-- what is under way or away: the operations, the jobs, and the sites that are not attached
abbrev pub groups_under_way : List Group
groups_under_way = group.Log ∷ group.Jobs ∷ group.Away ∷ []

-- the groups whose cells name locations, in cell order
abbrev pub naming_groups : List Group
naming_groups = group.Shards ∷ group.Pieces ∷ groups_under_way

-- This is the first location that the store names and the world doesn't know; `None`, it knows all.
abbrev pub TellsFirst : Store → List Text → Option Text → Type 0
TellsFirst s known None = (location : Text) → IsFirstUnknown s known location → ⊥
TellsFirst s known (Some location) = IsFirstUnknown s known location
