-- Whole images for the examples of sound ones, and each part of sound over the tables that it reads.
use Rattle.std.specs.Prelude.{ℕ, List, [], ◌∷◌, Option, Some, None, map, if◌then◌else◌}
use Rattle.cell_world.specs.Texts.{Text}
use Rattle.cell_world.specs.Keys.{same}
use Rattle.cell_world.specs.Stores.{Store, Shards, AwaySites, empty_store}
use Rattle.cell_world.specs.Images.{Image, Place, Global, Shard}
use Rattle.cell_world.specs.Marked.{MarkTables}
use Rattle.cell_world.specs.Sound.{LogCells, LocalCells, OnlineRows, RowCells, BatchRows, SuspectSite, JobCells, IsBatch, IsCutOff, JobTokens}
use Rattle.cell_world.specs.declared.cells.Away.TheVariants.{Suspect, Detached}
use Rattle.cell_world.specs.declared.cells.Counters.{Counters}
use Rattle.cell_world.specs.declared.cells.LocalRow.{LocalRow}
use Rattle.cell_world.specs.declared.cells.Mark.TheVariants.{Plain, Old, New}
use Rattle.cell_world.specs.declared.cells.RowName.{RowName}
use Rattle.cell_world.specs.declared.cells.Status.TheVariants.{Online, Offline}
use Rattle.cell_world.specs.declared.operations.JobRow.{JobRow}
use Rattle.cell_world.specs.declared.operations.Op.{Op}
use Rattle.cell_world.specs.declared.operations.Phase.{Phase}
use Rattle.cell_world.specs.declared.operations.Phase.TheVariants.{Copying}
use Rattle.cell_world.specs.declared.operations.Piece.{Piece}
use Rattle.cell_world.specs.declared.spans.High.{High}
use Rattle.cell_world.specs.declared.spans.High.TheVariants.{At}
use Rattle.world_examples.specs.Examples.{int_key, site_a, site_b, free_piece, job_piece, job_at, local_row, row_of, maps_m, shards_ab, tables_t, mappings_of, log_of, jobs_of, away_of, locals_of, rows_of, owner_with, sites_ab, reading, change_of, add_of}

-- ---- stores and images

-- five bytes, which are no number: it is above the number 3, and below 4
abbrev pub long_key : Text
long_key = 128 ∷ 0 ∷ 0 ∷ 3 ∷ 0 ∷ []

-- rows of `t` with these keys, each with its key as its number, and with nothing in them
abbrev pub rows_with : List ℕ → List (RowName × Text)
rows_with keys = map (λ key. (row_of key key, [])) keys

-- the global store where the map `m` stands, with its two shards and its table
abbrev pub global_with : List Piece → List Op → List JobRow → Option Counters → Store
global_with pieces ops jobs counter = record empty_store { maps = maps_m; shards = shards_ab; tables = tables_t; mappings = mappings_of pieces; log = log_of ops; jobs = jobs_of jobs; counter = counter; away = away_of [] }

-- the store of a shard with these local rows, and with rows of `t` with these keys
abbrev pub shard_with : List LocalRow → List ℕ → Store
shard_with locals keys = record empty_store { locals = locals_of locals; rows = rows_of (rows_with keys) }

abbrev pub stores_at : Store → Store → Store → Place → Store
stores_at all a b Global = all
stores_at all a b (Shard location) = if same location site_a then a else if same location site_b then b else empty_store

-- the global store, that of `s/a` and that of `s/b`
abbrev pub image_with : Store → Store → Store → Image
image_with all a b = record { locations = sites_ab; at = stores_at all a b }

-- ---- an image at rest: [0, 5) is online at `s/a`, [5, 10) offline at `s/b`

abbrev pub pieces_at_rest : List Piece
pieces_at_rest = free_piece 0 5 site_a Online ∷ free_piece 5 10 site_b Offline ∷ []

abbrev pub global_at_rest : Store
global_at_rest = global_with pieces_at_rest [] [] None

abbrev pub a_at_rest : Store
a_at_rest = shard_with (local_row 0 5 0 Online Plain ∷ []) (1 ∷ 2 ∷ [])

abbrev pub b_at_rest : Store
b_at_rest = shard_with (local_row 5 10 0 Offline Plain ∷ []) (7 ∷ [])

abbrev pub image_at_rest : Image
image_at_rest = image_with global_at_rest a_at_rest b_at_rest

-- the same with `s/b` suspect, which lost its mapping's local row and has others
abbrev pub image_to_compare : Image
image_to_compare = image_with (record global_at_rest { away = away_of ((site_b, Suspect) ∷ []) }) a_at_rest (shard_with (local_row 20 30 0 Online Plain ∷ local_row 30 40 0 Offline Plain ∷ []) (7 ∷ []))

-- the same with `s/b` detached, which has a row that no operation can have made
abbrev pub image_detached : Image
image_detached = image_with (record global_at_rest { away = away_of ((site_b, Detached) ∷ []) }) a_at_rest (shard_with (local_row 5 5 9 Online (Old 8) ∷ []) (3 ∷ []))

-- ---- an image with a job: [0, 3) has moved to `s/b`, the batch [3, 6) is copied, and its first row is there already

abbrev pub pieces_moving : List Piece
pieces_moving = job_piece 0 3 site_b Online ∷ job_piece 3 6 site_a Offline ∷ job_piece 6 10 site_a Online ∷ []

abbrev pub job_moving : JobRow
job_moving = job_at 3 (Copying (At (int_key 6)))

abbrev pub global_moving : Store
global_moving = global_with pieces_moving [] (job_moving ∷ []) (Some (record { operation = 1; job = 2 }))

abbrev pub a_moving : Store
a_moving = shard_with (local_row 3 6 0 Offline Plain ∷ local_row 6 10 0 Online Plain ∷ []) (4 ∷ 5 ∷ 7 ∷ [])

abbrev pub b_moving : Store
b_moving = shard_with (local_row 0 3 0 Online Plain ∷ []) (1 ∷ 2 ∷ 4 ∷ [])

abbrev pub image_moving : Image
image_moving = image_with global_moving a_moving b_moving

-- ---- an image with two logged operations and their marks: [0, 5) goes offline at `s/a`, and [5, 10) is added at `s/b`

abbrev pub pieces_logged : List Piece
pieces_logged = free_piece 0 5 site_a Online ∷ []

abbrev pub offline_logged : Op
offline_logged = change_of (free_piece 0 5 site_a Online) (free_piece 0 5 site_a Offline)

abbrev pub add_logged : Op
add_logged = record (add_of (free_piece 5 10 site_b Online)) { number = 2 }

abbrev pub global_logged : Store
global_logged = global_with pieces_logged (offline_logged ∷ add_logged ∷ []) [] (Some (record { operation = 3; job = 1 }))

abbrev pub a_logged : Store
a_logged = shard_with (local_row 0 5 0 Online (Old 1) ∷ local_row 0 5 1 Offline New ∷ []) (1 ∷ 2 ∷ [])

abbrev pub b_logged : Store
b_logged = shard_with (local_row 5 10 2 Online New ∷ []) []

abbrev pub image_logged : Image
image_logged = image_with global_logged a_logged b_logged

-- ---- an image with a leftover: nothing is mapped, [0, 10) is added at `s/a` by a logged operation, and a row there is online over it that operation 2 was to replace, which is gone

abbrev pub add_anew : Op
add_anew = record (add_of (free_piece 0 10 site_a Online)) { number = 3 }

abbrev pub left_row : LocalRow
left_row = local_row 0 10 1 Online (Old 2)

abbrev pub global_anew : Store
global_anew = global_with [] (add_anew ∷ []) [] (Some (record { operation = 4; job = 1 }))

abbrev pub a_left : Store
a_left = shard_with (left_row ∷ []) []

abbrev pub image_left : Image
image_left = image_with global_anew a_left (shard_with [] [])

-- ---- the parts of sound, over short lists

-- the log cells, where these mappings stand and the next operation has this number
abbrev pub LogCellsWith : List Piece → List Op → ℕ → Type 0
LogCellsWith pieces ops next = LogCells (reading pieces [] [] []) (log_of ops) next

-- the local cells of `s/a`
abbrev pub LocalCellsWith : List Piece → List Op → ℕ → List LocalRow → Type 0
LocalCellsWith pieces ops next locals = LocalCells (mappings_of pieces) (log_of ops) next site_a (locals_of locals)

-- the online rows of `s/a`
abbrev pub OnlineRowsWith : List Piece → List Op → List LocalRow → Type 0
OnlineRowsWith pieces ops locals = OnlineRows maps_m (owner_with pieces) (log_of ops) site_a (locals_of locals)

-- the row cells of `s/a`
abbrev pub RowCellsWith : List Piece → List JobRow → List (RowName × Text) → Type 0
RowCellsWith pieces jobs rows = RowCells maps_m tables_t (owner_with pieces) (jobs_of jobs) site_a (rows_of rows)

-- the rows of the batch [3, 6) of job 1 at its source and at its target
abbrev pub BatchRowsWith : (High → Phase) → List (RowName × Text) → List (RowName × Text) → Type 0
BatchRowsWith phase source target = BatchRows (job_at 3 (phase (At (int_key 6)))) (phase (At (int_key 6))) (rows_of source) (rows_of target)

-- the local cells of `s/b`, which is suspect
abbrev pub SuspectSiteWith : Shards → List LocalRow → Type 0
SuspectSiteWith shards locals = SuspectSite maps_m shards site_b (locals_of locals)

-- a job, where the next one has number 2
abbrev pub JobCellsWith : List Piece → JobRow → Type 0
JobCellsWith pieces job = JobCells maps_m shards_ab (mappings_of pieces) 2 job

-- the batch of a job
abbrev pub IsBatchWith : AwaySites → List Piece → JobRow → Type 0
IsBatchWith away pieces job = IsBatch sites_ab away (mappings_of pieces) job job.phase

abbrev pub IsCutOffWith : List Piece → JobRow → Type 0
IsCutOffWith pieces job = IsCutOff (mappings_of pieces) job

abbrev pub JobTokensWith : List Piece → List JobRow → Type 0
JobTokensWith pieces jobs = JobTokens (mappings_of pieces) (jobs_of jobs)

-- ---- stages: [0, 5) moves from `s/a` to `s/b`

abbrev pub move_logged : Op
move_logged = change_of (free_piece 0 5 site_a Offline) (free_piece 0 5 site_b Offline)

-- the logged operations, the next number, and the local rows of `s/a` and of `s/b`
abbrev pub marks_with : List Op → ℕ → List LocalRow → List LocalRow → MarkTables
marks_with ops next a b = record {
  locations = sites_ab;
  away = away_of [];
  log = log_of ops;
  next = next;
  locals_at = λ location. if same location site_a then locals_of a else if same location site_b then locals_of b else locals_of [];
}

-- the global store before that operation commits, with these log rows: beside [0, 5) stands [5, 9)
abbrev pub global_moves : List Op → Store
global_moves ops = global_with (free_piece 0 5 site_a Offline ∷ free_piece 5 9 site_a Online ∷ []) ops [] (Some (record { operation = 3; job = 1 }))

-- and after it
abbrev pub global_moved : List Op → Store
global_moved ops = global_with (free_piece 0 5 site_b Offline ∷ free_piece 5 9 site_a Online ∷ []) ops [] (Some (record { operation = 3; job = 1 }))
