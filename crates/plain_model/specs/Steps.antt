-- The plain step: what a command does to the plain shard map, and what it answers.
use Rattle.std.specs.Prelude.{ℕ, ◌+◌, Bool, true, false, ◌&&◌, not, ◌==◌, List, [], ◌∷◌, ◌++◌, length, take, Option, Some, None, option_map, option_and_then, option_to_list, unwrap_or, if◌then◌else◌, find, filter, filter_map}
use Rattle.std.specs.FinMap as map
use Rattle.std.specs.FinSet as set
use Rattle.cell_world.specs.Texts.{Text}
use Rattle.cell_world.specs.Members.{members}
use Rattle.cell_world.specs.Keys.{same, below, contains, low_of, end_of, end_below}
use Rattle.cell_world.specs.Stores.{Mappings, Jobs, Locals, Rows, local_key, exchanged}
use Rattle.cell_world.specs.Jobs.{part_of}
use Rattle.cell_world.specs.Meaning.{is_at}
use Rattle.cell_world.specs.Plain.{PlainState, Connection, Connections, Held, holds_nothing, owner, with_connections}
use Rattle.cell_world.specs.declared.operations.Piece.{Piece}
use Rattle.cell_world.specs.declared.operations.JobRow.{JobRow}
use Rattle.cell_world.specs.declared.operations.Phase.TheVariants.{Idle}
use Rattle.cell_world.specs.declared.cells.Token.{Token}
use Rattle.cell_world.specs.declared.cells.LocalRow.{LocalRow}
use Rattle.cell_world.specs.declared.cells.RowName.{RowName}
use Rattle.cell_world.specs.declared.cells.KeyType.{KeyType}
use Rattle.cell_world.specs.declared.cells.KeyType.TheVariants.{Int}
use Rattle.cell_world.specs.declared.cells.Away.TheVariants.{Detached, Suspect}
use Rattle.cell_world.specs.declared.cells.Mark.TheVariants.{Plain}
use Rattle.cell_world.specs.declared.cells.Status.{Status}
use Rattle.cell_world.specs.declared.cells.Status.TheVariants.{Online, Offline}
use Rattle.cell_world.specs.declared.spans.High.{High}
use Rattle.cell_world.specs.declared.spans.High.TheVariants.{At, Max}
use Rattle.cell_world.specs.declared.spans.Span.{Span}
use Rattle.cell_world.specs.declared.spans.Span.TheVariants.{Range, Point}
use Rattle.plain_model.specs.declared.commands.Command.{Command}
use Rattle.plain_model.specs.declared.commands.Command.TheVariants as command
use Rattle.plain_model.specs.declared.commands.Side.{Side}
use Rattle.plain_model.specs.declared.commands.Side.TheVariants as side
use Rattle.plain_model.specs.declared.replies.Reply.{Reply}
use Rattle.plain_model.specs.declared.replies.Reply.TheVariants as reply
use Rattle.plain_model.specs.declared.replies.Refusal.{Refusal}
use Rattle.plain_model.specs.declared.replies.Difference.{Difference}
use Rattle.plain_model.specs.Differing.{differences, stray_rows, local_rows_of}
use Rattle.plain_model.specs.Refusing.{refusal, type_of_map, key_in, range_in, mapping_of, next_mapping, nth_difference, differing_mapping, connection_of, row_of}

-- ---- mappings that replace others

-- the old mappings and the new ones
abbrev pub Exchange : Type 0
Exchange = List Piece × List Piece

abbrev pub no_exchange : Exchange
no_exchange = ([], [])

-- an exchange that depends on what may be missing
abbrev pub exchange_by : {A : Type 0} → (A → Exchange) → Option A → Exchange
exchange_by f None = no_exchange
exchange_by f (Some a) = f a

-- the mapping becomes another one
abbrev pub becomes : (Piece → Piece) → Option Piece → Exchange
becomes f = exchange_by (λ p. (p ∷ [], f p ∷ []))

abbrev pub with_span : Piece → Span → Piece
with_span piece span = record piece { span = span }

abbrev pub with_status : Status → Piece → Piece
with_status status piece = record piece { status = status }

abbrev pub with_location : Text → Piece → Piece
with_location location piece = record piece { location = location }

abbrev pub with_token : Option Token → Piece → Piece
with_token token piece = record piece { token = token }

-- a new mapping is online and has no token
abbrev pub added : Text → Text → Option Span → Exchange
added name location = exchange_by (λ span. ([], record { map = name; span = span; location = location; status = Online; token = None } ∷ []))

-- a mapping cut at a key: both parts keep status, location and token
abbrev pub cut_at : Option Text → Option Piece → Exchange
cut_at key piece = exchange_by (λ p. exchange_by (λ k. exchange_by (λ end. (p ∷ [], part_of p (low_of p.span) (At k) ∷ part_of p k end ∷ [])) (end_of p.span)) key) piece

-- a mapping and the one that begins at its high end, as one
abbrev pub merged_with_next : PlainState → Option Piece → Exchange
merged_with_next s = exchange_by (λ p. exchange_by (λ next. exchange_by (λ end. (p ∷ next ∷ [], part_of p (low_of p.span) end ∷ [])) (end_of next.span)) (next_mapping s p))

-- What a mapping command replaces, and by what.
abbrev pub exchange_of : PlainState → Command → Exchange
exchange_of s (command.Add name low high location) = added name location (range_in s name low high)
exchange_of s (command.Addpoint name key location) = added name location (option_map Point (key_in s name key))
exchange_of s (command.Delete name key token) = exchange_by (λ p. (p ∷ [], [])) (mapping_of s name key)
exchange_of s (command.Offline name key token) = becomes (with_status Offline) (mapping_of s name key)
exchange_of s (command.Online name key token) = becomes (with_status Online) (mapping_of s name key)
exchange_of s (command.Move name key location token) = becomes (with_location location) (mapping_of s name key)
exchange_of s (command.Split name key token) = cut_at (key_in s name key) (mapping_of s name key)
exchange_of s (command.Merge name key token) = merged_with_next s (mapping_of s name key)
exchange_of s other = no_exchange

-- the state with the new mappings of an exchange in place of the old ones
abbrev pub exchanging : PlainState → Exchange → PlainState
exchanging s e = record s { mappings = exchanged s.mappings e.0 e.1 }

-- the state with the mapping changed
abbrev pub with_mapping : PlainState → (Piece → Piece) → Option Piece → PlainState
with_mapping s f piece = exchanging s (becomes f piece)

-- ---- connections

-- the connections that the test finds are ended
abbrev pub ended_where : (Connection → Bool) → Connections → Connections
ended_where test connections session number = option_map (λ c. if test c then record c { live = false } else c) (connections session number)

-- every connection to a key of the mapping is ended
abbrev pub ended_under : Option Piece → Connections → Connections
ended_under None connections = connections
ended_under (Some piece) connections = ended_where (λ c. same piece.map c.map && contains piece.span c.key) connections

-- every connection to the location is ended
abbrev pub ended_at : Text → Connections → Connections
ended_at location = ended_where (λ c. same c.location location)

-- the session's connection of this number is this one, or none
abbrev pub with_connection : Connections → ℕ → ℕ → Option Connection → Connections
with_connection connections session number c i n = if (i == session) && (n == number) then c else connections i n

-- a live connection to a key at its owner's location
abbrev pub connection_to : Text → Option Text → Option Piece → Option Connection
connection_to name key piece = option_and_then (λ k. option_map (λ p. record { map = name; key = k; location = p.location; live = true }) piece) key

-- ---- rows

abbrev pub with_row : Rows → Option Connection → Text → ℕ → Text → Rows
with_row rows None table id bytes = rows
with_row rows (Some c) table id bytes = map.insert rows (row_of c table id) bytes

abbrev pub without_row : Rows → Option Connection → Text → ℕ → Rows
without_row rows None table id = rows
without_row rows (Some c) table id = map.remove rows (row_of c table id)

abbrev pub with_rows : Rows → List (RowName × Text) → Rows
with_rows rows [] = rows
with_rows rows (row ∷ more) = with_rows (map.insert rows row.0 row.1) more

abbrev pub without_rows : Rows → List RowName → Rows
without_rows rows [] = rows
without_rows rows (row ∷ more) = without_rows (map.remove rows row) more

-- ---- recovery

abbrev pub with_held : (Text → Held) → Text → Held → Text → Held
with_held held location new other = if same location other then new else held other

-- The site is Detached, every connection to it is ended, and its rows are out of reach.
abbrev pub detach : PlainState → Text → Held → PlainState
detach s location held_then = record s {
  away = map.insert s.away location Detached;
  rows = map.retain_keys s.rows (λ row. not (is_at location (owner s row.map row.key)));
  held = with_held s.held location held_then;
  connections = ended_at location s.connections;
}

-- The site is Suspect, and holds what `attach` kept.
abbrev pub attach : PlainState → Text → Held → PlainState
attach s location held_then = record s { away = map.insert s.away location Suspect; held = with_held s.held location held_then }

-- The site is Attached, and its rows are within reach again.
abbrev pub clear : PlainState → Text → PlainState
clear s location = record s {
  away = map.remove s.away location;
  rows = with_rows s.rows (map.entries (s.held location).rows);
  held = with_held s.held location holds_nothing;
}

-- the strays are removed
abbrev pub discard : PlainState → Text → List RowName → PlainState
discard s location strays = record s { held = with_held s.held location (record (s.held location) { rows = without_rows (s.held location).rows strays }) }

-- what of a span lies above a key
abbrev pub above : High → High → List Span
above (At key) end = if end_below (At key) end then Range key end ∷ [] else []
above Max end = []

-- what of a span lies outside a part of it
abbrev pub rest_of : Span → Span → List Span
rest_of (Range low end) (Range from to) = (if below low from then Range low (At from) ∷ [] else []) ++ above to end
rest_of (Range low end) (Point at) = []
rest_of (Point at) part = []

-- local rows of these spans, Plain and with the number 0
abbrev pub local_rows_with : Text → Status → List Span → List LocalRow
local_rows_with name status [] = []
local_rows_with name status (span ∷ spans) = record { map = name; span = span; number = 0; status = status; mark = Plain } ∷ local_rows_with name status spans

abbrev pub with_locals : Locals → List LocalRow → Locals
with_locals locals [] = locals
with_locals locals (row ∷ rows) = with_locals (map.insert locals (local_key row) row) rows

-- the local row, if any, is cut round a part
abbrev pub cut_local : Locals → Span → Option LocalRow → Locals
cut_local locals part None = locals
cut_local locals part (Some row) = with_locals (map.remove locals (local_key row)) (local_rows_with row.map row.status (rest_of row.span part))

-- a local row over the part with this status, or none
abbrev pub local_part : Text → Span → Option Status → List LocalRow
local_part name part None = []
local_part name part (Some status) = local_rows_with name status (part ∷ [])

-- the first local row of the map that contains the key
abbrev pub local_row_at : Locals → Text → Text → Option LocalRow
local_row_at locals name key = find (λ row. contains row.span key) (local_rows_of locals name)

-- The local row over the part is cut round it, and the part gets the global status or none.
abbrev pub resolved_locals : Locals → Text → Difference → Locals
resolved_locals locals name d = with_locals (cut_local locals d.span (local_row_at locals name (low_of d.span))) (local_part name d.span d.global)

abbrev pub pieces_with : Piece → List Span → List Piece
pieces_with piece [] = []
pieces_with piece (span ∷ spans) = with_span piece span ∷ pieces_with piece spans

-- what of a mapping lies outside a part of it
abbrev pub cut_mapping : Span → Option Piece → List Piece
cut_mapping part None = []
cut_mapping part (Some piece) = pieces_with piece (rest_of piece.span part)

-- a mapping over the part with this status and without a token, or none
abbrev pub mapping_part : Text → Text → Span → Option Status → List Piece
mapping_part name location part None = []
mapping_part name location part (Some status) = record { map = name; span = part; location = location; status = status; token = None } ∷ []

-- The mapping over the part is cut round it, and the part gets the local status or none.
abbrev pub resolved_mappings : Mappings → Text → Text → Option Piece → Difference → Mappings
resolved_mappings mappings location name over d = exchanged mappings (option_to_list over) (cut_mapping d.span over ++ mapping_part name location d.span d.shard)

-- A difference is resolved by the word of the global store, or of the shard.
abbrev pub resolve : PlainState → Text → Text → Side → Option Difference → PlainState
resolve s location name side None = s
resolve s location name side.Global (Some d) = record s { held = with_held s.held location (record (s.held location) { locals = resolved_locals (s.held location).locals name d }) }
resolve s location name side.Shard (Some d) = record s { mappings = resolved_mappings s.mappings location name (differing_mapping s location name (Some d)) d }

-- ---- jobs

-- the token of a job is its number
abbrev pub job_token : ℕ → Option Token
job_token number = Some (record { 0 = number })

-- the new job of a range that a mapping holds: nothing is moved yet
abbrev pub new_job : ℕ → Text → Span → Text → ℕ → Piece → Option JobRow
new_job number name (Point at) target batch piece = None
new_job number name (Range low end) target batch piece = Some (record { number = number; map = name; low = low; high = end; source = piece.location; target = target; batch = batch; cursor = At low; phase = Idle })

abbrev pub with_job : Jobs → ℕ → Option JobRow → Jobs
with_job jobs number None = jobs
with_job jobs number (Some job) = map.insert jobs number job

-- The job stands under the next number, the mapping has its token, and the next number is one more.
abbrev pub start_job : PlainState → Text → Option Span → Text → ℕ → Option Piece → PlainState
start_job s name range target batch piece = record (with_mapping s (with_token (job_token s.next_job)) piece) {
  jobs = with_job s.jobs s.next_job (option_and_then (λ r. option_and_then (new_job s.next_job name r target batch) piece) range);
  next_job = s.next_job + 1;
}

-- ---- answers

-- the type with which keys of a map are shown; of a map that doesn't stand none is shown
abbrev pub shown_type : PlainState → Text → KeyType
shown_type s name = unwrap_or (type_of_map s name) Int

abbrev pub shown_mapping : KeyType → Option Piece → Reply
shown_mapping type None = reply.Ok
shown_mapping type (Some piece) = reply.Mapping type piece

-- the mappings of a map, in key order
abbrev pub mappings_of_map : PlainState → Text → List Piece
mappings_of_map s name = filter (λ p. same name p.map) (map.values s.mappings)

-- the shards of a map, in byte order
abbrev pub shards_of_map : PlainState → Text → List Text
shards_of_map s name = filter_map (λ shard. if same name shard.0 then Some shard.1 else None) (members s.shards)

abbrev pub shown_location : Option Piece → Reply
shown_location None = reply.Ok
shown_location (Some piece) = reply.At piece.location

abbrev pub shown_row : Option Text → Reply
shown_row None = reply.Ok
shown_row (Some bytes) = reply.Row bytes

-- the bytes of the row that a connection, a table and a number name
abbrev pub row_bytes : Rows → Option Connection → Text → ℕ → Option Text
row_bytes rows connection table id = option_and_then (λ c. map.get rows (row_of c table id)) connection

-- the first stray rows, at most 256
abbrev pub first_strays : PlainState → Text → List RowName
first_strays s location = take 256 (stray_rows s location)

-- ---- the command table: what an accepted command does, and what it answers

-- `unmap` leaves the mappings: a map without a shard has none in a sound image.
-- The site that `detach` or `attach` names holds `held_then` from then on, which the state before doesn't tell.
-- Of `peek`, `step` and `run` the refusals alone stand here: what they answer, and what an accepted step changes, is said
-- where it is said which entries follow a state. The lines for them are not used.
abbrev pub accepted : Held → PlainState → ℕ → Command → PlainState × Reply
accepted held_then s i (command.Map name kind type) = (record s { maps = map.insert s.maps name (kind, type) }, reply.Ok)
accepted held_then s i (command.Unmap name) = (record s { maps = map.remove s.maps name; tables = set.retain s.tables (λ table. not (same name table.0)) }, reply.Ok)
accepted held_then s i (command.Shard name location) = (record s { shards = set.insert s.shards (name, location) }, reply.Ok)
accepted held_then s i (command.Unshard name location) = (record s { shards = set.remove s.shards (name, location) }, reply.Ok)
accepted held_then s i (command.Table name table) = (record s { tables = set.insert s.tables (name, table) }, reply.Ok)
accepted held_then s i (command.Add name low high location) = (exchanging s (exchange_of s (command.Add name low high location)), reply.Ok)
accepted held_then s i (command.Addpoint name key location) = (exchanging s (exchange_of s (command.Addpoint name key location)), reply.Ok)
accepted held_then s i (command.Delete name key token) = (exchanging s (exchange_of s (command.Delete name key token)), reply.Ok)
accepted held_then s i (command.Offline name key token) = (with_connections (exchanging s (exchange_of s (command.Offline name key token))) (ended_under (mapping_of s name key) s.connections), reply.Ok)
accepted held_then s i (command.Online name key token) = (exchanging s (exchange_of s (command.Online name key token)), reply.Ok)
accepted held_then s i (command.Move name key location token) = (exchanging s (exchange_of s (command.Move name key location token)), reply.Ok)
accepted held_then s i (command.Split name key token) = (exchanging s (exchange_of s (command.Split name key token)), reply.Ok)
accepted held_then s i (command.Merge name key token) = (exchanging s (exchange_of s (command.Merge name key token)), reply.Ok)
accepted held_then s i (command.Lock name key token) = (with_mapping s (with_token (Some token)) (mapping_of s name key), reply.Ok)
accepted held_then s i (command.Unlock name key token) = (with_mapping s (with_token None) (mapping_of s name key), reply.Ok)
accepted held_then s i (command.Find name key) = (s, shown_mapping (shown_type s name) (mapping_of s name key))
accepted held_then s i (command.List name) = (s, reply.Mappings (shown_type s name) (mappings_of_map s name))
accepted held_then s i (command.Shards name) = (s, reply.Shards (shards_of_map s name))
accepted held_then s i (command.Open number name key) = (with_connections s (with_connection s.connections i number (connection_to name (key_in s name key) (mapping_of s name key))), shown_location (mapping_of s name key))
accepted held_then s i (command.Close number) = (with_connections s (with_connection s.connections i number None), reply.Ok)
accepted held_then s i (command.Put number table id bytes) = (record s { rows = with_row s.rows (connection_of s i number) table id bytes }, reply.Ok)
accepted held_then s i (command.Get number table id) = (s, shown_row (row_bytes s.rows (connection_of s i number) table id))
accepted held_then s i (command.Del number table id) = (record s { rows = without_row s.rows (connection_of s i number) table id }, reply.Ok)
accepted held_then s i (command.Peek name key) = (s, reply.Unknown)
accepted held_then s i (command.Detach location) = (detach s location held_then, reply.Ok)
accepted held_then s i (command.Attach location) = (attach s location held_then, reply.Ok)
accepted held_then s i (command.Differences location name) = (s, reply.Differences (shown_type s name) (differences s location name))
accepted held_then s i (command.Resolve location name number side) = (resolve s location name side (nth_difference s location name number), reply.Ok)
accepted held_then s i (command.Discard location) = (discard s location (first_strays s location), reply.Discarded (length (first_strays s location)))
accepted held_then s i (command.Clear location) = (clear s location, reply.Ok)
accepted held_then s i (command.Job name low high location batch) = (start_job s name (range_in s name low high) location batch (mapping_of s name low), reply.Job s.next_job)
accepted held_then s i (command.Step number) = (s, reply.Done number)
accepted held_then s i (command.Run number) = (s, reply.Done number)

-- ---- the step

-- A refused command changes nothing.
abbrev pub refused_or_done : Held → PlainState → ℕ → Command → Option Refusal → PlainState × Reply
refused_or_done held_then s i c (Some r) = (s, reply.Refused r)
refused_or_done held_then s i c None = accepted held_then s i c

-- what the command of a session does to the state, and its reply
abbrev pub plain_step : Held → PlainState → ℕ → Command → PlainState × Reply
plain_step held_then s i c = refused_or_done held_then s i c (refusal s i c)
