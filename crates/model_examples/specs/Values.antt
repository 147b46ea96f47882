-- Small values for the examples: two sites, the map m of small numbers, and a job that moves a range of it.
use Rattle.std.specs.Prelude.{ℕ, ◌+◌, Bool, true, List, [], ◌∷◌, Some, Option, None, codes, map}
use Rattle.std.specs.FinMap as fin
use Rattle.std.specs.FinSet as set
use Rattle.cell_world.specs.Texts.{Text}
use Rattle.cell_world.specs.Stores.{Store, empty_store, put, local_key}
use Rattle.cell_world.specs.Images.{Image, Trail, Global, Shard, Happening, Committed, Wrote, empty_image, with_store}
use Rattle.cell_world.specs.Plain.{PlainState, Held, Connections, holds_nothing, nobody}
use Rattle.cell_world.specs.declared.cells.Away.{Away}
use Rattle.cell_world.specs.declared.cells.Away.TheVariants.{Detached, Suspect}
use Rattle.cell_world.specs.declared.cells.Cell.TheVariants as cell
use Rattle.cell_world.specs.declared.cells.CellKey.TheVariants as at
use Rattle.cell_world.specs.declared.cells.LocalRow.{LocalRow}
use Rattle.cell_world.specs.declared.cells.RowName.{RowName}
use Rattle.cell_world.specs.declared.cells.Token.{Token}
use Rattle.cell_world.specs.declared.cells.KeyType.TheVariants.{Int}
use Rattle.cell_world.specs.declared.cells.MapKind.TheVariants as kind
use Rattle.cell_world.specs.declared.cells.Status.TheVariants.{Online, Offline}
use Rattle.cell_world.specs.declared.operations.Piece.{Piece}
use Rattle.cell_world.specs.declared.operations.JobRow.{JobRow}
use Rattle.cell_world.specs.declared.operations.Op.{Op}
use Rattle.cell_world.specs.declared.operations.Extra.TheVariants as extra
use Rattle.cell_world.specs.declared.operations.Phase.TheVariants.{Idle, Copying, Moved}
use Rattle.cell_world.specs.declared.spans.High.TheVariants.{At}
use Rattle.cell_world.specs.declared.changes.Edit.{Edit}
use Rattle.cell_world.specs.declared.changes.Edit.TheVariants.{Put, Delete}
use Rattle.plain_model.specs.declared.commands.Command.{Command}
use Rattle.plain_model.specs.declared.commands.Command.TheVariants as command
use Rattle.plain_model.specs.declared.commands.HighText.{HighText}
use Rattle.plain_model.specs.declared.commands.HighText.TheVariants as word
use Rattle.plain_model.specs.declared.replies.Reply.{Reply}
use Rattle.plain_model.specs.declared.replies.Reply.TheVariants as reply
use Rattle.plain_model.specs.declared.replies.Refusal.{Refusal}
use Rattle.plain_model.specs.declared.replies.Refusal.TheVariants as refused
use Rattle.plain_model.specs.declared.history.Entry.{Entry}
use Rattle.plain_model.specs.Timelines.{Made, Past}
use Rattle.plain_model.specs.JobSteps.{with_extra}
use Rattle.plain_model.specs.Caches.{Learnt}
use Rattle.plain_model.specs.Legal.{AllGoing}
use Rattle.plain_model.specs.Refusing.{refusal}
use Rattle.plain_model.specs.Steps.{exchanging, with_held, with_connection}
use Rattle.plain_model.specs.Worked.{small_key, small_range, mapping_over, local_row_over}
use Rattle.world_examples.specs.Examples.{map_m, map_n, site_a, site_b, maps_m, mappings_of, jobs_of, away_of, locals_of, job_at, job_piece, free_piece, row_of, rows_of, state_with, no_pieces, one_piece, two_pieces}

-- ---- commands and entries

-- the command `map m range int`, and that of another name
abbrev pub make_map : Text → Command
make_map name = command.Map name kind.Range Int

abbrev pub answered : ℕ → Command → Reply → Entry
answered session c r = record { session = session; command = c; reply = Some r; moment = 1; operation = 0 }

-- an entry of a job's step, which has no reply
abbrev pub silent : ℕ → Command → Entry
silent session c = record { session = session; command = c; reply = None; moment = 1; operation = 0 }

-- the entry was made at a moment
abbrev pub at_moment : Entry → ℕ → Entry
at_moment e moment = record e { moment = moment }

-- the entry names an operation
abbrev pub naming : Entry → ℕ → Entry
naming e number = record e { operation = number }

-- an entry with the state before it
abbrev pub made : Entry → PlainState → Made
made e before = record { entry = e; before = before }

-- ---- tables: the entries are given in the order of their keys

abbrev pub numbered_jobs : List JobRow → List (ℕ × JobRow)
numbered_jobs jobs = map (λ (job : JobRow). (job.number, job)) jobs

-- ---- states

-- two attached sites, and nothing else
abbrev pub empty_state : PlainState
empty_state = record {
  locations = site_a ∷ site_b ∷ [];
  maps = fin.empty;
  shards = set.empty;
  tables = set.empty;
  mappings = fin.empty;
  jobs = fin.empty;
  next_job = 1;
  away = fin.empty;
  rows = fin.empty;
  held = λ location. holds_nothing;
  connections = nobody;
}

-- the state with one map more
abbrev pub with_map : PlainState → Text → PlainState
with_map s name = record s { maps = fin.insert s.maps name (kind.Range, Int) }

-- the map m with these mappings and jobs
abbrev pub state_with_jobs : List Piece → List JobRow → PlainState
state_with_jobs pieces jobs = record empty_state { maps = maps_m; mappings = mappings_of pieces; jobs = jobs_of jobs }

-- ---- sites that are away

-- the site `s/a` is in this state, and the other one is attached
abbrev pub away_state : Away → PlainState
away_state state = record empty_state { away = away_of ((site_a, state) ∷ []) }

-- `s/a` holds this
abbrev pub holding : PlainState → Held → PlainState
holding s h = record s { held = with_held s.held site_a h }

abbrev pub keyed_locals : List LocalRow → List ((Text × (Text × ℕ)) × LocalRow)
keyed_locals rows = map (λ row. (local_key row, row)) rows

-- these local rows, and no row
abbrev pub local_rows : List LocalRow → Held
local_rows rows = record { locals = locals_of rows; rows = fin.empty }

-- a row of the table t of m
abbrev pub row_m : ℕ → RowName
row_m key = record { map = map_m; key = small_key key; table = codes "t"; number = 1 }

-- one row with one byte, and no local row
abbrev pub one_row : Held
one_row = record { locals = fin.empty; rows = fin.from_sorted ((row_m 5, 1 ∷ []) ∷ []) }

-- ---- connections

-- session 1 has connection 1, to the key 5 of m at `s/a`, live or ended
abbrev pub one_connection : Bool → Connections
one_connection live = with_connection nobody 1 1 (Some (record { map = map_m; key = small_key 5; location = site_a; live = live }))

-- the mapping [0, 10) is online at `s/a`, and a connection to one of its keys is live or ended
abbrev pub connected_state : Bool → PlainState
connected_state live = record (state_with_jobs (mapping_over (small_range 0 10) Online ∷ []) []) { connections = one_connection live }

-- ---- a job

-- nothing is moved yet
abbrev pub fresh_state : PlainState
fresh_state = state_with_jobs (job_piece 0 10 site_a Online ∷ []) (job_at 0 Idle ∷ [])

-- so it is while a connection to one of its keys is live or ended
abbrev pub fresh_connected : Bool → PlainState
fresh_connected live = record fresh_state { connections = one_connection live }

-- the batch [0, 5) is copied
abbrev pub copying_state : PlainState
copying_state = state_with_jobs (job_piece 0 5 site_a Offline ∷ job_piece 5 10 site_a Online ∷ []) (job_at 0 (Copying (At (small_key 5))) ∷ [])

-- the copied batch is moved by the next step
abbrev pub after_move : PlainState
after_move = with_extra (exchanging copying_state (job_piece 0 5 site_a Offline ∷ [], job_piece 0 5 site_b Offline ∷ [])) (extra.JobPut (job_at 0 (Moved (At (small_key 5)))))

-- the batch is at the target, not online yet: the next step is its online
abbrev pub moved_state : PlainState
moved_state = state_with_jobs (job_piece 0 5 site_b Offline ∷ job_piece 5 10 site_a Online ∷ []) (job_at 0 (Moved (At (small_key 5))) ∷ [])

-- the batch is done
abbrev pub between_state : PlainState
between_state = state_with_jobs (job_piece 0 5 site_b Online ∷ job_piece 5 10 site_a Online ∷ []) (job_at 5 Idle ∷ [])

-- the batch [3, 5) is done, and a merge is due
abbrev pub merging_state : PlainState
merging_state = state_with_jobs (job_piece 0 3 site_b Online ∷ job_piece 3 5 site_b Online ∷ job_piece 5 10 site_a Online ∷ []) (job_at 5 Idle ∷ [])

-- all is moved: the next step is the finish
abbrev pub all_moved_state : PlainState
all_moved_state = state_with_jobs (job_piece 0 10 site_b Online ∷ []) (job_at 10 Idle ∷ [])

-- the job is gone
abbrev pub finished_state : PlainState
finished_state = state_with_jobs (record (mapping_over (small_range 0 10) Online) { location = site_b } ∷ []) []

-- ---- images

-- the two sites, without a cell
abbrev pub two_sites : Image
two_sites = empty_image (site_a ∷ site_b ∷ [])

-- the two sites, with these cells in the global store
abbrev pub with_global : Store → Image
with_global store = with_store two_sites Global store

-- `s/a` has these cells
abbrev pub with_cells : Image → Store → Image
with_cells image store = with_store image (Shard site_a) store

-- a site's cells: no local row, and one row
abbrev pub row_cells : Store
row_cells = record empty_store { locals = locals_of []; rows = one_row.rows }

-- a site's cells: these local rows
abbrev pub local_cells : List LocalRow → Store
local_cells rows = record empty_store { locals = locals_of rows }

-- in the global store: the site `s/a` is detached
abbrev pub detached_store : Store
detached_store = record empty_store { away = away_of ((site_a, Detached) ∷ []) }

-- ---- operations

-- an add of a range of m at `s/a`
abbrev pub add_op : ℕ → ℕ → ℕ → Op
add_op number low high = record { number = number; map = map_m; hull = small_range low high; olds = no_pieces; news = one_piece (mapping_over (small_range low high) Online); extra = extra.None }

-- [0, 10) of m is taken offline at `s/a`
abbrev pub offline_op : ℕ → Op
offline_op number = record { number = number; map = map_m; hull = small_range 0 10; olds = one_piece (mapping_over (small_range 0 10) Online); news = one_piece (mapping_over (small_range 0 10) Offline); extra = extra.None }

-- the log cell of an operation is put, with the counter at the number after it
abbrev pub logging : Op → List Edit
logging op = Put (cell.Log op) ∷ Put (cell.Counter (record { operation = op.number + 1; job = 1 })) ∷ []

-- that was tried, and it took or it didn't
abbrev pub tried : Op → Bool → Happening
tried op took = Committed Global (logging op) took

-- the command `add m 0 10 s/a`
abbrev pub add_0_10 : Command
add_0_10 = command.Add map_m (codes "0") (word.At (codes "10")) site_a

-- the command `offline m 5`
abbrev pub offline_5 : Command
offline_5 = command.Offline map_m (codes "5") None

-- the move of the copied batch, and what split another batch off the range would do
abbrev pub move_op : Op
move_op = record { number = 1; map = map_m; hull = small_range 0 5; olds = one_piece (job_piece 0 5 site_a Offline); news = one_piece (job_piece 0 5 site_b Offline); extra = extra.JobPut (job_at 0 (Moved (At (small_key 5)))) }

abbrev pub split_op : Op
split_op = record { number = 1; map = map_m; hull = small_range 0 10; olds = one_piece (job_piece 0 10 site_a Online); news = two_pieces (job_piece 0 3 site_a Online) (job_piece 3 10 site_a Online); extra = extra.None }

-- the whole range of the job is taken offline as one batch
abbrev pub job_offline_op : Op
job_offline_op = record { number = 1; map = map_m; hull = small_range 0 10; olds = one_piece (job_piece 0 10 site_a Online); news = one_piece (job_piece 0 10 site_a Offline); extra = extra.JobPut (job_at 0 (Copying (At (small_key 10)))) }

-- the state after that split
abbrev pub after_split : PlainState
after_split = exchanging fresh_state (job_piece 0 10 site_a Online ∷ [], job_piece 0 3 site_a Online ∷ job_piece 3 10 site_a Online ∷ [])

-- the stores that stand for such a state, without local rows
abbrev pub job_image : List Piece → JobRow → Image
job_image pieces job = with_global (record empty_store { maps = maps_m; mappings = mappings_of pieces; jobs = jobs_of (job ∷ []) })

abbrev pub copying_image : Image
copying_image = job_image (job_piece 0 5 site_a Offline ∷ job_piece 5 10 site_a Online ∷ []) (job_at 0 (Copying (At (small_key 5))))

abbrev pub fresh_image : Image
fresh_image = job_image (job_piece 0 10 site_a Online ∷ []) (job_at 0 Idle)

-- ---- trails and histories

-- what happened to two empty sites
abbrev pub trail_of : List Happening → Trail
trail_of happened = record { start = two_sites; happened = happened }

-- the copied batch is moved: its mapping has the other site, the job is in phase Moved, and the log cell goes
abbrev pub move_commit : Happening
move_commit = Committed Global (Delete (at.Piece map_m (small_key 0)) ∷ Put (cell.Piece (job_piece 0 5 site_b Offline)) ∷ Put (cell.Job (job_at 0 (Moved (At (small_key 5))))) ∷ Delete (at.Log 1) ∷ []) true

-- what happened to the stores with the copied batch
abbrev pub copying_trail : List Happening → Trail
copying_trail happened = record { start = copying_image; happened = happened }

abbrev pub nothing_going : AllGoing
nothing_going session = None

-- the map m is put
abbrev pub map_commit : Happening
map_commit = Committed Global (Put (cell.Map map_m kind.Range Int) ∷ []) true

-- the two sites after it
abbrev pub image_m : Image
image_m = with_store two_sites Global (put empty_store (cell.Map map_m kind.Range Int))

-- the commit, and the line of its reply
abbrev pub map_trail : Trail
map_trail = trail_of (map_commit ∷ Wrote (codes "ok\n") ∷ [])

-- the entry of that `map`, which comes right after its commit
abbrev pub map_entry : Entry
map_entry = answered 1 (make_map map_m) reply.Ok

-- a `close` that is refused, at a moment
abbrev pub closing : ℕ → Entry
closing moment = at_moment (answered 1 (command.Close 1) (reply.Refused refused.NoConnection)) moment

-- a second `map`, at the moment 2
abbrev pub second_entry : Entry
second_entry = at_moment (answered 1 (make_map map_n) reply.Ok) 2

-- ---- what a run has learnt

-- the mapping [0, 10) of m is online at `s/a`
abbrev pub owned_state : PlainState
owned_state = state_with_jobs (mapping_over (small_range 0 10) Online ∷ []) []

-- a span of m at `s/a`, learnt at a place
abbrev pub learnt : ℕ → ℕ → ℕ → Learnt
learnt low high place = record { map = map_m; type = Int; span = small_range low high; location = site_a; place = place }

-- the command `open 1 m 5`, and its answer
abbrev pub open_5 : Command
open_5 = command.Open 1 map_m (codes "5")

abbrev pub opened : Entry
opened = answered 1 open_5 (reply.At site_a)

-- it was the first entry
abbrev pub opened_past : Past
opened_past = made opened owned_state ∷ []

-- ---- states in which a refusal is tried

-- the map m with its shards `s/a` and `s/b`, these mappings and these jobs
abbrev pub holding_jobs : List Piece → List JobRow → PlainState
holding_jobs pieces jobs = record (state_with pieces []) { jobs = jobs_of jobs }

-- the site `s/a` is suspect and holds a local row over [0, 10), online; these mappings stand
abbrev pub suspect_state : List Piece → PlainState
suspect_state pieces = holding (record (state_with pieces []) { away = away_of ((site_a, Suspect) ∷ []) }) (local_rows (local_row_over (small_range 0 10) Online ∷ []))

-- one row, of the map n under the key 5, beside these mappings of m
abbrev pub row_elsewhere : List Piece → PlainState
row_elsewhere pieces = record (state_with pieces []) { rows = rows_of ((record (row_of 5 1) { map = map_n }, []) ∷ []) }

-- what refuses `merge m 5` with this token where these mappings stand
abbrev pub merge_5 : Option Token → List Piece → Option Refusal
merge_5 token pieces = refusal (state_with pieces []) 1 (command.Merge map_m (codes "5") token)

-- what refuses `job m LOW HIGH s/b 1` where [0, 10) and [10, 20) are online at `s/a`
abbrev pub job_on : Text → HighText → Option Refusal
job_on low high = refusal (state_with (free_piece 0 10 site_a Online ∷ free_piece 10 20 site_a Online ∷ []) []) 1 (command.Job map_m low high site_b 1)
