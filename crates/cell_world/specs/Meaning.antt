-- Which local rows count, and the plain state that an image stands for.
use Rattle.std.specs.Prelude.{ℕ, Bool, true, false, ◌&&◌, not, List, Option, Some, None, option_and_then, if◌then◌else◌, flat_map}
use Rattle.std.specs.FinMap as map
use Rattle.cell_world.specs.Texts.{Text}
use Rattle.cell_world.specs.Keys.{same, is_among}
use Rattle.cell_world.specs.Stores.{Log, AwaySites}
use Rattle.cell_world.specs.Images.{Image, Shard, global}
use Rattle.cell_world.specs.Plain.{PlainState, Held, holds_nothing, Owner, owner_in, is_attached, nobody}
use Rattle.cell_world.specs.declared.operations.Piece.{Piece}
use Rattle.cell_world.specs.declared.cells.Counters.{Counters}
use Rattle.cell_world.specs.declared.cells.LocalRow.{LocalRow}
use Rattle.cell_world.specs.declared.cells.RowName.{RowName}
use Rattle.cell_world.specs.declared.cells.Mark.{Mark}
use Rattle.cell_world.specs.declared.cells.Mark.TheVariants.{Plain, Old, New}

-- ---- counted rows

abbrev pub is_logged : Log → ℕ → Bool
is_logged log number = map.contains_key log number

-- A row counts where it is Plain, where it is Old of a logged operation, or New of one that isn't logged.
abbrev pub counts_with : Log → Mark → ℕ → Bool
counts_with log Plain number = true
counts_with log (Old p) number = is_logged log p
counts_with log New number = not (is_logged log number)

abbrev pub counts : Log → LocalRow → Bool
counts log row = counts_with log row.mark row.number

-- ---- what the global cells say

-- an absent counter cell stands for 1 and 1
abbrev pub counters_of : Option Counters → Counters
counters_of None = record { operation = 1; job = 1 }
counters_of (Some counters) = counters

abbrev pub next_operation : Image → ℕ
next_operation image = (counters_of (global image).counter).operation

abbrev pub next_job : Image → ℕ
next_job image = (counters_of (global image).counter).job

abbrev pub owner_of : Image → Owner
owner_of image = owner_in (global image).maps (global image).mappings

-- a location of the world whose site is attached
abbrev pub is_attached_at : List Text → AwaySites → Text → Bool
is_attached_at locations away location = is_among locations location && is_attached (map.get away location)

-- a location of the world whose site is not attached
abbrev pub is_away_at : List Text → AwaySites → Text → Bool
is_away_at locations away location = is_among locations location && not (is_attached (map.get away location))

-- ---- the meaning

abbrev pub is_at : Text → Option Piece → Bool
is_at location None = false
is_at location (Some piece) = same piece.location location

-- the site is attached, and owns the row's key
abbrev pub owns : Image → Text → RowName → Bool
owns image location row = is_attached (map.get (global image).away location) && is_at location (owner_of image row.map row.key)

-- of each attached site the rows whose keys it owns
abbrev pub owned_rows : Image → List (RowName × Text)
owned_rows image = flat_map (λ location. map.entries (map.retain_keys (image.at (Shard location)).rows (owns image location))) image.locations

-- the row as the owner of its key has it, where that is an attached site of the world
abbrev pub row_at : Image → RowName → Option Text
row_at image row = option_and_then (λ p. if is_attached_at image.locations (global image).away p.location then map.get (image.at (Shard p.location)).rows row else None) (owner_of image row.map row.key)

-- the local rows and row cells of a site that is not attached
abbrev pub held_at : Image → Text → Held
held_at image location =
    if is_away_at image.locations (global image).away location
    then record { locals = (image.at (Shard location)).locals; rows = (image.at (Shard location)).rows }
    else holds_nothing

-- The plain state that the stores stand for. It has no connections.
abbrev pub meaning : Image → PlainState
meaning image = record {
  locations = image.locations;
  maps = (global image).maps;
  shards = (global image).shards;
  tables = (global image).tables;
  mappings = (global image).mappings;
  jobs = (global image).jobs;
  next_job = next_job image;
  away = (global image).away;
  rows = map.from_entries (owned_rows image);
  held = held_at image;
  connections = nobody;
}
