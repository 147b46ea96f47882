-- What one site holds: for each kind of cell a finite map from its key fields to its other fields.
use Rattle.std.specs.Prelude.{◌≡◌, ℕ, List, [], ◌∷◌, Option, Some, None, IfSome, option_map, if◌then◌else◌}
use Rattle.std.specs.Ordering.{nat_cmp}
use Rattle.std.specs.FinMap as map
use Rattle.std.specs.FinMap.{FinMap}
use Rattle.std.specs.FinSet as set
use Rattle.std.specs.FinSet.{FinSet}
use Rattle.cell_world.specs.Texts.{Text}
use Rattle.cell_world.specs.ByteOrder.{byte_cmp}
use Rattle.cell_world.specs.Keys.{low_of}
use Rattle.cell_world.specs.Orders.{pair_cmp, local_cmp, row_cmp}
use Rattle.cell_world.specs.Spelled.{IsCell}
use Rattle.cell_world.specs.declared.cells.KeyType.{KeyType}
use Rattle.cell_world.specs.declared.cells.MapKind.{MapKind}
use Rattle.cell_world.specs.declared.operations.Piece.{Piece}
use Rattle.cell_world.specs.declared.operations.Op.{Op}
use Rattle.cell_world.specs.declared.operations.JobRow.{JobRow}
use Rattle.cell_world.specs.declared.cells.Counters.{Counters}
use Rattle.cell_world.specs.declared.cells.Away.{Away}
use Rattle.cell_world.specs.declared.cells.LocalRow.{LocalRow}
use Rattle.cell_world.specs.declared.cells.Cell.{Cell}
use Rattle.cell_world.specs.declared.cells.Cell.TheVariants as cell
use Rattle.cell_world.specs.declared.cells.CellKey.{CellKey}
use Rattle.cell_world.specs.declared.cells.CellKey.TheVariants as at
use Rattle.cell_world.specs.declared.changes.Edit.{Edit}
use Rattle.cell_world.specs.declared.changes.Edit.TheVariants.{Put, Delete}

-- ---- the finite maps, which the plain state has too

-- by name: the kind and the key type
abbrev pub Maps : Type 0
Maps = FinMap byte_cmp (MapKind × KeyType)

-- a map and a location
abbrev pub Shards : Type 0
Shards = FinSet pair_cmp

-- a map and a table
abbrev pub Tables : Type 0
Tables = FinSet pair_cmp

-- by map and low key
abbrev pub Mappings : Type 0
Mappings = FinMap pair_cmp Piece

-- by number
abbrev pub Log : Type 0
Log = FinMap nat_cmp Op

-- by number
abbrev pub Jobs : Type 0
Jobs = FinMap nat_cmp JobRow

-- by location: the sites that are not attached
abbrev pub AwaySites : Type 0
AwaySites = FinMap byte_cmp Away

-- by map, low key and number
abbrev pub Locals : Type 0
Locals = FinMap local_cmp LocalRow

-- by map, key, table and number: the bytes
abbrev pub Rows : Type 0
Rows = FinMap row_cmp Text

-- ---- a store

-- Each store has all ten kinds. That the program puts the first eight at the global store alone, and the last two at shards alone, is its own rule: no definition asks it of an image.
pub record Store : Type 0 where
  pub maps : Maps  -- which maps stand
  pub shards : Shards  -- which locations are shards of a map
  pub tables : Tables  -- which tables a map has
  pub mappings : Mappings  -- who owns which keys
  pub log : Log  -- the operations that are not committed
  pub jobs : Jobs  -- the jobs that stand
  pub counter : Option Counters  -- where it is absent the next numbers are 1 and 1
  pub away : AwaySites  -- the sites that are not attached
  pub locals : Locals  -- a shard's own copies of its mappings
  pub rows : Rows  -- a shard's rows of the sharded tables

abbrev pub empty_store : Store
empty_store = record { maps = map.empty; shards = set.empty; tables = set.empty; mappings = map.empty; log = map.empty; jobs = map.empty; counter = None; away = map.empty; locals = map.empty; rows = map.empty }

-- the fields under which a mapping and a local row stand
abbrev pub piece_key : Piece → Text × Text
piece_key piece = (piece.map, low_of piece.span)

abbrev pub local_key : LocalRow → Text × (Text × ℕ)
local_key row = (row.map, (low_of row.span, row.number))

-- ---- changes

abbrev pub put : Store → Cell → Store
put s (cell.Map name kind type) = record s { maps = map.insert s.maps name (kind, type) }
put s (cell.Shard name location) = record s { shards = set.insert s.shards (name, location) }
put s (cell.Table name table) = record s { tables = set.insert s.tables (name, table) }
put s (cell.Piece piece) = record s { mappings = map.insert s.mappings (piece_key piece) piece }
put s (cell.Log op) = record s { log = map.insert s.log op.number op }
put s (cell.Job job) = record s { jobs = map.insert s.jobs job.number job }
put s (cell.Counter counters) = record s { counter = Some counters }
put s (cell.SiteState location state) = record s { away = map.insert s.away location state }
put s (cell.Local row) = record s { locals = map.insert s.locals (local_key row) row }
put s (cell.Row name bytes) = record s { rows = map.insert s.rows name bytes }

abbrev pub delete : Store → CellKey → Store
delete s (at.Map name) = record s { maps = map.remove s.maps name }
delete s (at.Shard name location) = record s { shards = set.remove s.shards (name, location) }
delete s (at.Table name table) = record s { tables = set.remove s.tables (name, table) }
delete s (at.Piece name low) = record s { mappings = map.remove s.mappings (name, low) }
delete s (at.Log number) = record s { log = map.remove s.log number }
delete s (at.Job number) = record s { jobs = map.remove s.jobs number }
delete s at.Counter = record s { counter = None }
delete s (at.SiteState location) = record s { away = map.remove s.away location }
delete s (at.Local name low number) = record s { locals = map.remove s.locals (name, (low, number)) }
delete s (at.Row name) = record s { rows = map.remove s.rows name }

abbrev pub edited : Store → Edit → Store
edited s (Put c) = put s c
edited s (Delete k) = delete s k

-- A change is made in order, so of two edits on one key the later one stands.
abbrev pub changed : Store → List Edit → Store
changed s [] = s
changed s (edit ∷ edits) = changed (edited s edit) edits

-- ---- cells

-- the key under which a cell is put
abbrev pub own_key : Cell → CellKey
own_key (cell.Map name kind type) = at.Map name
own_key (cell.Shard name location) = at.Shard name location
own_key (cell.Table name table) = at.Table name table
own_key (cell.Piece piece) = at.Piece piece.map (low_of piece.span)
own_key (cell.Log op) = at.Log op.number
own_key (cell.Job job) = at.Job job.number
own_key (cell.Counter counters) = at.Counter
own_key (cell.SiteState location state) = at.SiteState location
own_key (cell.Local row) = at.Local row.map (low_of row.span) row.number
own_key (cell.Row row bytes) = at.Row row

-- the cell that stands under a key
abbrev pub cell_at : Store → CellKey → Option Cell
cell_at s (at.Map name) = option_map (λ v. cell.Map name v.0 v.1) (map.get s.maps name)
cell_at s (at.Shard name location) = if set.contains s.shards (name, location) then Some (cell.Shard name location) else None
cell_at s (at.Table name table) = if set.contains s.tables (name, table) then Some (cell.Table name table) else None
cell_at s (at.Piece name low) = option_map cell.Piece (map.get s.mappings (name, low))
cell_at s (at.Log number) = option_map cell.Log (map.get s.log number)
cell_at s (at.Job number) = option_map cell.Job (map.get s.jobs number)
cell_at s at.Counter = option_map cell.Counter s.counter
cell_at s (at.SiteState location) = option_map (cell.SiteState location) (map.get s.away location)
cell_at s (at.Local name low number) = option_map cell.Local (map.get s.locals (name, (low, number)))
cell_at s (at.Row name) = option_map (cell.Row name) (map.get s.rows name)

-- the cell stands in the store, under its own key
abbrev pub Stands : Store → Cell → Type 0
Stands s c = cell_at s (own_key c) ≡ Some c

-- Each cell stands under its own key.
pub record IsKeyed (s : Store) : Type 0 where
  -- a mapping by its map and low key
  pub mappings : (k : Text × Text) → IfSome (map.get s.mappings k) (λ p. piece_key p ≡ k)
  -- an operation and a job by their numbers
  pub log : (k : ℕ) → IfSome (map.get s.log k) (λ op. op.number ≡ k)
  pub jobs : (k : ℕ) → IfSome (map.get s.jobs k) (λ job. job.number ≡ k)
  -- a local row by its map, low key and number; the other kinds have nothing but their key fields in them twice
  pub locals : (k : Text × (Text × ℕ)) → IfSome (map.get s.locals k) (λ row. local_key row ≡ k)

-- Nothing but cells stands in the store, each under its own key.
pub record IsStore (s : Store) : Type 0 where
  pub keyed : IsKeyed s  -- each under its own key
  pub cells : (c : Cell) → Stands s c → IsCell c  -- and nothing but cells

-- ---- mappings that replace others

abbrev pub without : Mappings → List Piece → Mappings
without mappings [] = mappings
without mappings (old ∷ olds) = without (map.remove mappings (piece_key old)) olds

abbrev pub with_all : Mappings → List Piece → Mappings
with_all mappings [] = mappings
with_all mappings (new ∷ news) = with_all (map.insert mappings (piece_key new) new) news

-- the mappings with the news in place of the olds
abbrev pub exchanged : Mappings → List Piece → List Piece → Mappings
exchanged mappings olds news = with_all (without mappings olds) news
