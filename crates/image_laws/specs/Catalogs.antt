-- The catalog of a global store, that is its maps with their shards and their tables: what of it an image uses, and how it may change.
use Rattle.std.specs.Prelude.{◌≡◌, not, List, [], ◌∷◌, IsSome}
use Rattle.std.specs.FinMap as map
use Rattle.std.specs.FinSet as set
use Rattle.cell_world.specs.Texts.{Text}
use Rattle.cell_world.specs.Keys.{same}
use Rattle.cell_world.specs.Lists.{IsOneOf}
use Rattle.cell_world.specs.Spelled.{listed}
use Rattle.cell_world.specs.Stores.{Store, Maps, Shards, Tables}
use Rattle.cell_world.specs.Images.{Image, Global, Shard, global, with_store}
use Rattle.cell_world.specs.Sound.{HasShard, HasTable, HasPiece, HasLog, HasJob, HasLocal, IsSuspectIn}
use Rattle.cell_world.specs.declared.operations.Piece.{Piece}
use Rattle.cell_world.specs.declared.operations.Op.{Op}
use Rattle.cell_world.specs.declared.operations.JobRow.{JobRow}
use Rattle.cell_world.specs.declared.cells.LocalRow.{LocalRow}
use Rattle.cell_world.specs.declared.cells.CellKey.TheVariants as at
use Rattle.cell_world.specs.declared.changes.Edit.{Edit}
use Rattle.cell_world.specs.declared.changes.Edit.TheVariants.{Delete}

-- the image with another catalog
abbrev pub with_catalog : Image → Maps → Shards → Tables → Image
with_catalog image maps shards tables = with_store image Global (record (global image) { maps = maps; shards = shards; tables = tables })

-- The catalog serves an image: it hangs together, and of the one that stands there all that is in use stands in it.
pub record Serves (image : Image) (maps : Maps) (shards : Shards) (tables : Tables) : Type 0 where
  -- each shard cell and each table cell is of a map that stands
  pub shards_of_maps : (name location : Text) → HasShard shards name location → IsSome (map.get maps name)
  pub tables_of_maps : (name table : Text) → HasTable tables name table → IsSome (map.get maps name)
  -- a map that had a shard stands as it did, and so do its tables
  pub maps_stand : (name location : Text) → HasShard (global image).shards name location → map.get maps name ≡ map.get (global image).maps name
  pub tables_stand : (name location table : Text) → HasShard (global image).shards name location → HasTable (global image).tables name table → HasTable tables name table
  -- the site of each mapping is a shard, and so is that of each new mapping of a logged operation
  pub mapped : (p : Piece) → HasPiece (global image).mappings p → HasShard shards p.map p.location
  pub coming : (op : Op) → HasLog (global image).log op → (new : Piece) → IsOneOf (listed op.news) new → HasShard shards op.map new.location
  -- the target of each job is one
  pub targets : (job : JobRow) → HasJob (global image).jobs job → HasShard shards job.map job.target
  -- and a suspect site is one of each map of which it has a local row
  pub suspects : (location : Text) → IsSuspectIn image location → (row : LocalRow) → HasLocal (image.at (Shard location)).locals row → HasShard shards row.map location

-- ---- a catalog that grew

-- The catalog of a global store grew: all that stood stands, and what came is of a map that stands.
pub record HasGrown (g : Store) (maps : Maps) (shards : Shards) (tables : Tables) : Type 0 where
  pub maps_stay : (name : Text) → IsSome (map.get g.maps name) → map.get maps name ≡ map.get g.maps name
  pub shards_stay : (name location : Text) → HasShard g.shards name location → HasShard shards name location
  pub tables_stay : (name table : Text) → HasTable g.tables name table → HasTable tables name table
  pub shards_of_maps : (name location : Text) → HasShard shards name location → IsSome (map.get maps name)
  pub tables_of_maps : (name table : Text) → HasTable tables name table → IsSome (map.get maps name)

-- ---- a map that goes

-- the tables of the other maps
abbrev pub tables_without : Tables → Text → Tables
tables_without tables name = set.retain tables (λ table. not (same name table.0))

-- the store without a map and its tables
abbrev pub without_map : Store → Text → Store
without_map g name = record g { maps = map.remove g.maps name; tables = tables_without g.tables name }

-- the deletes of these tables of a map
abbrev pub table_deletes : Text → List Text → List Edit
table_deletes name [] = []
table_deletes name (table ∷ tables) = Delete (at.Table name table) ∷ table_deletes name tables

-- the edits by which a map goes, with these tables of it
abbrev pub unmap_edits : Text → List Text → List Edit
unmap_edits name tables = Delete (at.Map name) ∷ table_deletes name tables
