-- Small values for the examples: one map with integer keys, two sites, and tables with a few entries.
use Rattle.std.specs.Prelude.{ℕ, ◌+◌, List, [], ◌∷◌, Some, None, map, if◌then◌else◌}
use Rattle.std.specs.FinMap.{from_sorted}
use Rattle.std.specs.FinSet.{from_list}
use Rattle.cell_world.specs.Texts.{Text}
use Rattle.cell_world.specs.Keys.{same}
use Rattle.cell_world.specs.Plain.{Owner, owner_in, PlainState, holds_nothing, nobody}
use Rattle.cell_world.specs.Lawful.{ReadTables}
use Rattle.cell_world.specs.Jobs.{TableRow, table_row}
use Rattle.cell_world.specs.Stores.{Maps, Shards, Tables, Mappings, Log, Jobs, AwaySites, Locals, Rows, piece_key, local_key}
use Rattle.cell_world.specs.declared.spans.High.TheVariants.{At}
use Rattle.cell_world.specs.declared.spans.Span.{Span}
use Rattle.cell_world.specs.declared.spans.Span.TheVariants.{Range, Point}
use Rattle.cell_world.specs.declared.cells.KeyType.{KeyType}
use Rattle.cell_world.specs.declared.cells.KeyType.TheVariants.{Int}
use Rattle.cell_world.specs.declared.cells.MapKind.{MapKind}
use Rattle.cell_world.specs.declared.cells.MapKind.TheVariants as kind
use Rattle.cell_world.specs.declared.cells.Status.{Status}
use Rattle.cell_world.specs.declared.cells.Status.TheVariants.{Online, Offline}
use Rattle.cell_world.specs.declared.cells.Mark.{Mark}
use Rattle.cell_world.specs.declared.cells.Away.{Away}
use Rattle.cell_world.specs.declared.cells.LocalRow.{LocalRow}
use Rattle.cell_world.specs.declared.cells.RowName.{RowName}
use Rattle.cell_world.specs.declared.operations.Piece.{Piece}
use Rattle.cell_world.specs.declared.operations.Pieces.{Pieces}
use Rattle.cell_world.specs.declared.operations.JobRow.{JobRow}
use Rattle.cell_world.specs.declared.operations.Phase.{Phase}
use Rattle.cell_world.specs.declared.operations.Phase.TheVariants.{Idle, Copying}
use Rattle.cell_world.specs.declared.operations.Extra.{Extra}
use Rattle.cell_world.specs.declared.operations.Extra.TheVariants as extra
use Rattle.cell_world.specs.declared.operations.Op.{Op}

-- ---- names and locations

-- the map `m`
abbrev pub map_m : Text
map_m = 109 ∷ []

-- another name, `n`, of which no map stands
abbrev pub map_n : Text
map_n = 110 ∷ []

-- the table `t` of `m`
abbrev pub table_t : Text
table_t = 116 ∷ []

-- the location `s/a`
abbrev pub site_a : Text
site_a = 115 ∷ 47 ∷ 97 ∷ []

-- the location `s/b`
abbrev pub site_b : Text
site_b = 115 ∷ 47 ∷ 98 ∷ []

-- those of the world
abbrev pub sites_ab : List Text
sites_ab = site_a ∷ site_b ∷ []

-- ---- keys and spans

-- the normal form of a small number
abbrev pub int_key : ℕ → Text
int_key n = 128 ∷ 0 ∷ 0 ∷ n ∷ []

abbrev pub range : ℕ → ℕ → Span
range low high = Range (int_key low) (At (int_key high))

-- ---- cells of the map

-- a mapping without a token
abbrev pub free_piece : ℕ → ℕ → Text → Status → Piece
free_piece low high location status = record { map = map_m; span = range low high; location = location; status = status; token = None }

-- a mapping of another map, online at `s/a`
abbrev pub piece_of : Text → ℕ → ℕ → Piece
piece_of name low high = record (free_piece low high site_a Online) { map = name }

-- a mapping of one key, as a list map has it
abbrev pub point_piece : ℕ → Text → Status → Piece
point_piece key location status = record { map = map_m; span = Point (int_key key); location = location; status = status; token = None }

-- a mapping with the token of job 1
abbrev pub job_piece : ℕ → ℕ → Text → Status → Piece
job_piece low high location status = record { map = map_m; span = range low high; location = location; status = status; token = Some (record { 0 = 1 }) }

-- job 1, which moves [0, 10) from `s/a` to `s/b` in batches of two rows; its cursor is at a key
abbrev pub job_at : ℕ → Phase → JobRow
job_at cursor phase = record { number = 1; map = map_m; low = int_key 0; high = At (int_key 10); source = site_a; target = site_b; batch = 2; cursor = At (int_key cursor); phase = phase }

-- the same job over [low, 10), at its beginning
abbrev pub job_from : ℕ → JobRow
job_from low = record (job_at low Idle) { low = int_key low }

abbrev pub local_row : ℕ → ℕ → ℕ → Status → Mark → LocalRow
local_row low high number status mark = record { map = map_m; span = range low high; number = number; status = status; mark = mark }

-- a row of the table `t`
abbrev pub row_of : ℕ → ℕ → RowName
row_of key number = record { map = map_m; key = int_key key; table = table_t; number = number }

-- ---- operations

abbrev pub no_pieces : Pieces
no_pieces = record { one = None; two = None }

abbrev pub one_piece : Piece → Pieces
one_piece p = record { one = Some p; two = None }

abbrev pub two_pieces : Piece → Piece → Pieces
two_pieces p q = record { one = Some p; two = Some q }

-- a second piece without a first, which is no list of pieces
abbrev pub second_alone : Piece → Pieces
second_alone p = record { one = None; two = Some p }

-- an operation on the map
abbrev pub op_on : ℕ → Span → Pieces → Pieces → Extra → Op
op_on number hull olds news extra = record { number = number; map = map_m; hull = hull; olds = olds; news = news; extra = extra }

-- operation 1 adds a mapping
abbrev pub add_of : Piece → Op
add_of new = op_on 1 new.span no_pieces (one_piece new) extra.None

-- it deletes one
abbrev pub delete_of : Piece → Op
delete_of old = op_on 1 old.span (one_piece old) no_pieces extra.None

-- it puts one for another of the same span
abbrev pub change_of : Piece → Piece → Op
change_of old new = op_on 1 old.span (one_piece old) (one_piece new) extra.None

-- it adds [0, 10) at `s/a`
abbrev pub add_at_a : Op
add_at_a = add_of (free_piece 0 10 site_a Online)

-- the offline of a job: its batch is [0, 10) at `s/a`, to be copied to `s/b`
abbrev pub offline_for_b : Op
offline_for_b = op_on 1 (range 0 10) (one_piece (job_piece 0 10 site_a Online)) (one_piece (job_piece 0 10 site_a Offline)) (extra.JobPut (job_at 0 (Copying (At (int_key 10)))))

-- ---- tables: the entries are given in the order of their keys

abbrev pub maps_of : List (Text × (MapKind × KeyType)) → Maps
maps_of entries = from_sorted entries

abbrev pub shards_of : List (Text × Text) → Shards
shards_of shards = from_list shards

abbrev pub tables_of : List (Text × Text) → Tables
tables_of tables = from_list tables

abbrev pub keyed_pieces : List Piece → List ((Text × Text) × Piece)
keyed_pieces pieces = map (λ p. (piece_key p, p)) pieces

abbrev pub mappings_of : List Piece → Mappings
mappings_of pieces = from_sorted (keyed_pieces pieces)

abbrev pub log_of : List Op → Log
log_of ops = from_sorted (map (λ op. (op.number, op)) ops)

abbrev pub keyed_jobs : List JobRow → List (ℕ × JobRow)
keyed_jobs jobs = map (λ job. (job.number, job)) jobs

abbrev pub jobs_of : List JobRow → Jobs
jobs_of jobs = from_sorted (keyed_jobs jobs)

abbrev pub away_of : List (Text × Away) → AwaySites
away_of entries = from_sorted entries

abbrev pub locals_of : List LocalRow → Locals
locals_of rows = from_sorted (map (λ row. (local_key row, row)) rows)

abbrev pub rows_of : List (RowName × Text) → Rows
rows_of entries = from_sorted entries

-- the one map is `m`, a range map with integer keys
abbrev pub entries_m : List (Text × (MapKind × KeyType))
entries_m = (map_m, (kind.Range, Int)) ∷ []

abbrev pub maps_m : Maps
maps_m = maps_of entries_m

-- where `m` is a list map
abbrev pub list_entries_m : List (Text × (MapKind × KeyType))
list_entries_m = (map_m, (kind.List, Int)) ∷ []

abbrev pub list_maps_m : Maps
list_maps_m = maps_of list_entries_m

-- its shards are `s/a` and `s/b`
abbrev pub pairs_ab : List (Text × Text)
pairs_ab = (map_m, site_a) ∷ (map_m, site_b) ∷ []

abbrev pub shards_ab : Shards
shards_ab = shards_of pairs_ab

-- its table is `t`
abbrev pub tables_t : Tables
tables_t = tables_of ((map_m, table_t) ∷ [])

-- rows of `t` with these keys, numbered from a number on, with nothing in them
abbrev pub numbered_rows : ℕ → List ℕ → List (RowName × Text)
numbered_rows number [] = []
numbered_rows number (key ∷ keys) = (row_of key number, []) ∷ numbered_rows (number + 1) keys

-- who owns the keys where these mappings of `m` stand
abbrev pub owner_with : List Piece → Owner
owner_with pieces = owner_in maps_m (mappings_of pieces)

-- rows of `t` with these keys, numbered from 1
abbrev pub rows_under_keys : List ℕ → Rows
rows_under_keys keys = rows_of (numbered_rows 1 keys)

-- the row of the job's table where these mappings of `m` stand
abbrev pub row_with : List Piece → JobRow → TableRow
row_with pieces job = table_row (owner_with pieces) (mappings_of pieces) job

-- a plain state with these mappings of `m`, and rows of `t` with these keys; both sites are attached, and no job stands
abbrev pub state_with : List Piece → List ℕ → PlainState
state_with pieces keys = record {
  locations = sites_ab;
  maps = maps_m;
  shards = shards_ab;
  tables = tables_t;
  mappings = mappings_of pieces;
  jobs = jobs_of [];
  next_job = 2;
  away = away_of [];
  rows = rows_under_keys keys;
  held = λ location. holds_nothing;
  connections = nobody;
}

-- ---- what is read where an operation is judged

-- by location: the first keys are those of the rows at `s/a`, the second those at `s/b`
abbrev pub keys_at : List ℕ → List ℕ → Text → List ℕ
keys_at at_a at_b location = if same location site_a then at_a else if same location site_b then at_b else []

-- both sites are known and attached, `m` has them as shards, and these mappings, jobs and rows stand
abbrev pub reading : List Piece → List JobRow → List ℕ → List ℕ → ReadTables
reading pieces jobs at_a at_b = record {
  locations = sites_ab;
  maps = maps_m;
  shards = shards_ab;
  mappings = mappings_of pieces;
  jobs = jobs_of jobs;
  away = away_of [];
  rows_at = λ location. rows_under_keys (keys_at at_a at_b location);
}
