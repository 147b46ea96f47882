-- Groups of cells that are listed and counted, and what a list of cells of a group has come to.
use Rattle.std.specs.Prelude.{ℕ, Bool, true, false, ◌&&◌, ◌==◌, List, [], ◌∷◌, map, length, filter, filter_map, Option, Some, None, if◌then◌else◌}
use Rattle.std.specs.FinMap as fin
use Rattle.cell_world.specs.Texts.{Text}
use Rattle.cell_world.specs.Keys.{same}
use Rattle.cell_world.specs.Members.{members}
use Rattle.cell_world.specs.Stores.{Store, Shards, Tables, Mappings, own_key}
use Rattle.cell_world.specs.Orders.{kind_number, map_of}
use Rattle.cell_world.specs.declared.cells.Cell.{Cell}
use Rattle.cell_world.specs.declared.cells.Cell.TheVariants as cell
use Rattle.cell_world.specs.declared.cells.CellKey.{CellKey}
use Rattle.cell_world.specs.declared.cells.CellKey.TheVariants as at
use Rattle.cell_world.specs.declared.operations.Piece.{Piece}
use Rattle.global_tables.specs.declared.groups.Group.{Group}
use Rattle.global_tables.specs.declared.groups.Group.TheVariants as group

-- ---- the cells of one map

abbrev pub shards_in : Shards → Text → List (Text × Text)
shards_in shards name = filter (λ shard. same name shard.0) (members shards)

-- the locations of its shards, in byte order
abbrev pub locations_in : Shards → Text → List Text
locations_in shards name = filter_map (λ shard. if same name shard.0 then Some shard.1 else None) (members shards)

abbrev pub tables_in : Tables → Text → List (Text × Text)
tables_in tables name = filter (λ table. same name table.0) (members tables)

abbrev pub pieces_in : Mappings → Text → List Piece
pieces_in mappings name = filter (λ p. same name p.map) (fin.values mappings)

-- ---- groups

-- the place of its kind in cell order
abbrev pub kind_of : Group → ℕ
kind_of group.Maps = 1
kind_of group.Shards = 2
kind_of (group.ShardsOf name) = 2
kind_of group.Tables = 3
kind_of (group.TablesOf name) = 3
kind_of group.Pieces = 4
kind_of (group.PiecesOf name) = 4
kind_of group.Log = 5
kind_of group.Jobs = 6
kind_of group.Away = 8

-- the map, of a group that is of one map
abbrev pub name_of : Group → Option Text
name_of (group.ShardsOf name) = Some name
name_of (group.TablesOf name) = Some name
name_of (group.PiecesOf name) = Some name
name_of other = None

-- the least location: 65 bytes before the slash are too many, none is before `-`, and the first none before `0`
abbrev pub least_location : Text
least_location = 48 ∷ 45 ∷ 45 ∷ 45 ∷ 45 ∷ 45 ∷ 45 ∷ 45 ∷ 45 ∷ 45 ∷ 45 ∷ 45 ∷ 45 ∷ 45 ∷ 45 ∷ 45 ∷ 45 ∷ 45 ∷ 45 ∷ 45 ∷ 45 ∷ 45 ∷ 45 ∷ 45 ∷ 45 ∷ 45 ∷ 45 ∷ 45 ∷ 45 ∷ 45 ∷ 45 ∷ 45 ∷ 45 ∷ 45 ∷ 45 ∷ 45 ∷ 45 ∷ 45 ∷ 45 ∷ 45 ∷ 45 ∷ 45 ∷ 45 ∷ 45 ∷ 45 ∷ 45 ∷ 45 ∷ 45 ∷ 45 ∷ 45 ∷ 45 ∷ 45 ∷ 45 ∷ 45 ∷ 45 ∷ 45 ∷ 45 ∷ 45 ∷ 45 ∷ 45 ∷ 45 ∷ 45 ∷ 45 ∷ 45 ∷ 47 ∷ 48 ∷ []

-- the key from which on a scan finds the whole group
abbrev pub least_of : Group → CellKey
least_of group.Maps = at.Map (65 ∷ [])
least_of group.Shards = at.Shard (65 ∷ []) least_location
least_of (group.ShardsOf name) = at.Shard name least_location
least_of group.Tables = at.Table (65 ∷ []) (65 ∷ [])
least_of (group.TablesOf name) = at.Table name (65 ∷ [])
least_of group.Pieces = at.Piece (65 ∷ []) []
least_of (group.PiecesOf name) = at.Piece name []
least_of group.Log = at.Log 0
least_of group.Jobs = at.Job 0
least_of group.Away = at.SiteState least_location

-- the map of a key is the one that is asked for, if one is
abbrev pub is_of : Option Text → Option Text → Bool
is_of None of = true
is_of (Some name) None = false
is_of (Some name) (Some of) = same name of

-- a cell under the key is of the group
abbrev pub is_in : Group → CellKey → Bool
is_in g key = (kind_number key == kind_of g) && is_of (name_of g) (map_of key)

-- the cells of the group, up to the first that isn't
abbrev pub inside : Group → List Cell → List Cell
inside g [] = []
inside g (c ∷ cs) = if is_in g (own_key c) then c ∷ inside g cs else []

-- ---- what stands of a group

-- how many cells of it stand
abbrev pub count_of : Store → Group → ℕ
count_of s group.Maps = fin.len s.maps
count_of s group.Shards = length (members s.shards)
count_of s (group.ShardsOf name) = length (shards_in s.shards name)
count_of s group.Tables = length (members s.tables)
count_of s (group.TablesOf name) = length (tables_in s.tables name)
count_of s group.Pieces = fin.len s.mappings
count_of s (group.PiecesOf name) = length (pieces_in s.mappings name)
count_of s group.Log = fin.len s.log
count_of s group.Jobs = fin.len s.jobs
count_of s group.Away = fin.len s.away

-- all of them, in cell order
abbrev pub cells_of : Store → Group → List Cell
cells_of s group.Maps = map (λ m. cell.Map m.0 m.1.0 m.1.1) (fin.entries s.maps)
cells_of s group.Shards = map (λ shard. cell.Shard shard.0 shard.1) (members s.shards)
cells_of s (group.ShardsOf name) = map (λ shard. cell.Shard shard.0 shard.1) (shards_in s.shards name)
cells_of s group.Tables = map (λ table. cell.Table table.0 table.1) (members s.tables)
cells_of s (group.TablesOf name) = map (λ table. cell.Table table.0 table.1) (tables_in s.tables name)
cells_of s group.Pieces = map cell.Piece (fin.values s.mappings)
cells_of s (group.PiecesOf name) = map cell.Piece (pieces_in s.mappings name)
cells_of s group.Log = map cell.Log (fin.values s.log)
cells_of s group.Jobs = map cell.Job (fin.values s.jobs)
cells_of s group.Away = map (λ site. cell.SiteState site.0 site.1) (fin.entries s.away)
