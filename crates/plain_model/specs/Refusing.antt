-- Which refusal a command gets: of its row in the command table the first that holds.
use Rattle.std.specs.Prelude.{◌≡◌, ℕ, ◌-◌, Bool, true, false, ◌&&◌, ◌||◌, not, nat_le, nat_lt, ◌==◌, List, [], ◌∷◌, length, Option, Some, None, option_map, option_and_then, is_some, is_none, if◌then◌else◌, find, filter, slice_get, sum_by}
use Rattle.std.specs.List.{list_any}
use Rattle.std.specs.FinMap as map
use Rattle.std.specs.FinSet as set
use Rattle.cell_world.specs.Texts.{Text}
use Rattle.cell_world.specs.Members.{members}
use Rattle.cell_world.specs.Keys.{same, before, contains, overlaps, low_of, end_of, same_end, end_below}
use Rattle.cell_world.specs.KeyForms.{normal_of}
use Rattle.cell_world.specs.Plain.{PlainState, Connection, owner, is_location_of}
use Rattle.cell_world.specs.declared.operations.Piece.{Piece}
use Rattle.cell_world.specs.declared.operations.JobRow.{JobRow}
use Rattle.cell_world.specs.declared.operations.Phase.{Phase}
use Rattle.cell_world.specs.declared.operations.Phase.TheVariants as phase
use Rattle.cell_world.specs.declared.cells.Token.{Token}
use Rattle.cell_world.specs.declared.cells.RowName.{RowName}
use Rattle.cell_world.specs.declared.cells.MapKind.{MapKind}
use Rattle.cell_world.specs.declared.cells.MapKind.TheVariants as kind
use Rattle.cell_world.specs.declared.cells.KeyType.{KeyType}
use Rattle.cell_world.specs.declared.cells.Away.{Away}
use Rattle.cell_world.specs.declared.cells.Away.TheVariants as away
use Rattle.cell_world.specs.declared.cells.Status.{Status}
use Rattle.cell_world.specs.declared.cells.Status.TheVariants as status
use Rattle.cell_world.specs.declared.limits.TheConstants.{MOST_MAPS, MOST_TABLES, MOST_JOBS, LAST_JOB}
use Rattle.cell_world.specs.declared.spans.High.{High}
use Rattle.cell_world.specs.declared.spans.High.TheVariants as high
use Rattle.cell_world.specs.declared.spans.Span.{Span}
use Rattle.cell_world.specs.declared.spans.Span.TheVariants.{Range, Point}
use Rattle.plain_model.specs.declared.commands.Command.{Command}
use Rattle.plain_model.specs.declared.commands.Command.TheVariants as command
use Rattle.plain_model.specs.declared.commands.HighText.{HighText}
use Rattle.plain_model.specs.declared.commands.HighText.TheVariants as word
use Rattle.plain_model.specs.declared.commands.Side.{Side}
use Rattle.plain_model.specs.declared.commands.Side.TheVariants as side
use Rattle.plain_model.specs.declared.replies.Difference.{Difference}
use Rattle.plain_model.specs.declared.replies.Refusal.{Refusal}
use Rattle.plain_model.specs.declared.replies.Refusal.TheVariants.{NoMap, MapExists, MapInUse, NoLocation, NotAShard, ShardExists, ShardInUse, WrongKind, BadRange, Overlap, NoMapping, NotOffline, SameStatus, Locked, BadSplit, NotMergeable, RowsPresent, Offline, Ended, NoTable, TableExists, Detached, Unresolved, Attached, DifferencesLeft, StrayRows, NoJob, Absent, SameShard, NumberInUse, Full, NoConnection, JobInProgress, BadKey}
use Rattle.plain_model.specs.Differing.{differences, stray_rows}

-- ---- what a command's words name

abbrev pub kind_of_map : PlainState → Text → Option MapKind
kind_of_map s name = option_map (λ m. m.0) (map.get s.maps name)

abbrev pub type_of_map : PlainState → Text → Option KeyType
type_of_map s name = option_map (λ m. m.1) (map.get s.maps name)

-- the token that a command on a mapping gives to open it, if it gives one
abbrev pub given_token : Command → Option Token
given_token (command.Delete name key token) = token
given_token (command.Offline name key token) = token
given_token (command.Online name key token) = token
given_token (command.Move name key location token) = token
given_token (command.Split name key token) = token
given_token (command.Merge name key token) = token
given_token other = None

-- the key of the map's type that a word is
abbrev pub key_in : PlainState → Text → Text → Option Text
key_in s name text = option_and_then (λ type. normal_of type text) (type_of_map s name)

-- the end that a word is
abbrev pub high_in : PlainState → Text → HighText → Option High
high_in s name (word.At text) = option_map high.At (key_in s name text)
high_in s name word.Max = Some high.Max

abbrev pub range_between : Option Text → Option High → Option Span
range_between low high = option_and_then (λ l. option_map (Range l) high) low

-- the range from one word up to another
abbrev pub range_in : PlainState → Text → Text → HighText → Option Span
range_in s name low high = range_between (key_in s name low) (high_in s name high)

-- the mapping that contains the key that the word is
abbrev pub mapping_of : PlainState → Text → Text → Option Piece
mapping_of s name text = option_and_then (owner s name) (key_in s name text)

-- where a mapping is
abbrev pub location_of_mapping : Option Piece → Option Text
location_of_mapping piece = option_map (λ p. p.location) piece

abbrev pub connection_of : PlainState → ℕ → ℕ → Option Connection
connection_of s session number = s.connections session number

abbrev pub job_of_number : PlainState → ℕ → Option JobRow
job_of_number s number = map.get s.jobs number

abbrev pub source_of_job : Option JobRow → Option Text
source_of_job job = option_map (λ j. j.source) job

abbrev pub target_of_job : Option JobRow → Option Text
target_of_job job = option_map (λ j. j.target) job

-- the row that a connection, a table and a number name
abbrev pub row_of : Connection → Text → ℕ → RowName
row_of c table id = record { map = c.map; key = c.key; table = table; number = id }

-- ---- small tests

-- a test of what may be missing, in which case it fails
abbrev pub if_there : {A : Type 0} → (A → Bool) → Option A → Bool
if_there test None = false
if_there test (Some a) = test a

abbrev pub is_detached : Option Away → Bool
is_detached None = false
is_detached (Some away.Detached) = true
is_detached (Some away.Suspect) = false

abbrev pub is_suspect : Option Away → Bool
is_suspect None = false
is_suspect (Some away.Detached) = false
is_suspect (Some away.Suspect) = true

abbrev pub same_kind : MapKind → MapKind → Bool
same_kind kind.Range kind.Range = true
same_kind kind.List kind.List = true
same_kind kind.Range kind.List = false
same_kind kind.List kind.Range = false

abbrev pub same_status : Status → Status → Bool
same_status status.Online status.Online = true
same_status status.Offline status.Offline = true
same_status status.Online status.Offline = false
same_status status.Offline status.Online = false

abbrev pub same_token : Option Token → Option Token → Bool
same_token None None = true
same_token (Some a) (Some b) = a.0 == b.0
same_token (Some a) None = false
same_token None (Some b) = false

abbrev pub is_idle : Phase → Bool
is_idle phase.Idle = true
is_idle (phase.Copying end) = false
is_idle (phase.Moved end) = false

-- the mapping is of the map and shares a key with the span
abbrev pub overlaps_in : Text → Span → Piece → Bool
overlaps_in name span p = same name p.map && overlaps p.span span

-- the mapping at this site that contains the key
abbrev pub mapping_here : PlainState → Text → Text → Text → Option Piece
mapping_here s location name key = option_and_then (λ p. if same p.location location then Some p else None) (owner s name key)

-- the mapping begins at this end
abbrev pub begins_at : Option High → Piece → Bool
begins_at end p = if_there (λ e. same_end e (high.At (low_of p.span))) end

-- the mapping that begins at the high end of this one and agrees with it in location, status and token
abbrev pub next_mapping : PlainState → Piece → Option Piece
next_mapping s piece = find (λ p. same piece.map p.map && (begins_at (end_of piece.span) p && (same piece.location p.location && (same_status piece.status p.status && same_token piece.token p.token)))) (map.values s.mappings)

-- the mapping holds the whole range
abbrev pub holds_range : Span → Piece → Bool
holds_range range p = contains p.span (low_of range) && if_there (λ e. if_there (λ end. not (end_below end e)) (end_of p.span)) (end_of range)

-- the number of differences of a site over all maps
abbrev pub difference_count : PlainState → Text → ℕ
difference_count s location = sum_by (λ name. length (differences s location name)) (map.keys s.maps)

abbrev pub stray_count : PlainState → Text → ℕ
stray_count s location = length (stray_rows s location)

-- the difference of this number, from 1
abbrev pub nth_difference : PlainState → Text → Text → ℕ → Option Difference
nth_difference s location name n = if nat_le 1 n then slice_get (differences s location name) (n - 1) else None

-- the mapping at this site over the part of a difference
abbrev pub differing_mapping : PlainState → Text → Text → Option Difference → Option Piece
differing_mapping s location name difference = option_and_then (λ d. mapping_here s location name (low_of d.span)) difference

-- ---- checks: a test, and the refusal where it holds

abbrev pub Check : Type 0
Check = Bool × Refusal

-- no map has this name
abbrev pub no_map : PlainState → Text → Check
no_map s name = (not (map.contains_key s.maps name), NoMap)

-- a map has this name
abbrev pub map_exists : PlainState → Text → Check
map_exists s name = (map.contains_key s.maps name, MapExists)

-- the map has a shard
abbrev pub map_in_use : PlainState → Text → Check
map_in_use s name = (list_any (λ shard. same name shard.0) (members s.shards), MapInUse)

-- the world knows no such location
abbrev pub no_location : PlainState → Text → Check
no_location s location = (not (is_location_of s location), NoLocation)

-- the location is no shard of the map
abbrev pub not_a_shard : PlainState → Text → Text → Check
not_a_shard s name location = (not (set.contains s.shards (name, location)), NotAShard)

-- the location is a shard of the map
abbrev pub shard_exists : PlainState → Text → Text → Check
shard_exists s name location = (set.contains s.shards (name, location), ShardExists)

-- a mapping of the map is on it, or a standing job of the map has it as target
abbrev pub shard_in_use : PlainState → Text → Text → Check
shard_in_use s name location = (list_any (λ p. same name p.map && same p.location location) (map.values s.mappings) || list_any (λ j. same name j.map && same j.target location) (map.values s.jobs), ShardInUse)

-- the command isn't for this kind of map
abbrev pub wrong_kind : PlainState → Text → MapKind → Check
wrong_kind s name wanted = (if_there (λ k. not (same_kind wanted k)) (kind_of_map s name), WrongKind)

-- a key word isn't a key of the map's type
abbrev pub bad_key : {A : Type 0} → Option A → Check
bad_key key = (is_none key, BadKey)

-- the low key isn't less than the high end
abbrev pub bad_range : Option Text → Option High → Check
bad_range low high = (if_there (λ l. if_there (λ h. not (before l h)) high) low, BadRange)

-- a mapping of the map shares a key with the new span
abbrev pub overlap : PlainState → Text → Option Span → Check
overlap s name span = (if_there (λ new. list_any (overlaps_in name new) (map.values s.mappings)) span, Overlap)

-- a mapping of the map at another site shares a key with the part
abbrev pub overlap_elsewhere : PlainState → Text → Text → Option Difference → Check
overlap_elsewhere s location name difference = (if_there (λ d. list_any (λ p. not (same p.location location) && overlaps_in name d.span p) (map.values s.mappings)) difference, Overlap)

-- the key has no owner
abbrev pub no_mapping : Option Piece → Check
no_mapping piece = (is_none piece, NoMapping)

-- no one mapping holds the whole range
abbrev pub no_whole_mapping : Option Span → Option Piece → Check
no_whole_mapping range piece = (not (if_there (λ r. if_there (holds_range r) piece) range), NoMapping)

-- the mapping is online
abbrev pub not_offline : Option Piece → Check
not_offline piece = (if_there (λ p. same_status status.Online p.status) piece, NotOffline)

-- the mapping has that status
abbrev pub same_status_already : Status → Option Piece → Check
same_status_already wanted piece = (if_there (λ p. same_status wanted p.status) piece, SameStatus)

-- the mapping has no token
abbrev pub not_locked : Option Piece → Check
not_locked piece = (if_there (λ p. is_none p.token) piece, SameStatus)

-- the mapping has a token, and the command gives none or another
abbrev pub locked : Option Token → Option Piece → Check
locked given piece = (if_there (λ p. is_some p.token && not (same_token given p.token)) piece, Locked)

-- the mapping has a token
abbrev pub has_token : Option Piece → Check
has_token piece = (if_there (λ p. is_some p.token) piece, Locked)

-- the key is the low key of its mapping
abbrev pub bad_split : Option Text → Option Piece → Check
bad_split key piece = (if_there (λ p. if_there (λ k. same k (low_of p.span)) key) piece, BadSplit)

-- no mapping begins at the high end, or it has another location, status or token
abbrev pub not_mergeable : PlainState → Option Piece → Check
not_mergeable s piece = (if_there (λ p. is_none (next_mapping s p)) piece, NotMergeable)

-- a row stands under a key of the mapping
abbrev pub rows_present : PlainState → Option Piece → Check
rows_present s piece = (if_there (λ p. list_any (λ row. same p.map row.map && contains p.span row.key) (map.keys s.rows)) piece, RowsPresent)

-- the owner is offline
abbrev pub owner_offline : Option Piece → Check
owner_offline piece = (if_there (λ p. same_status status.Offline p.status) piece, Offline)

-- the connection was ended
abbrev pub ended : Option Connection → Check
ended connection = (if_there (λ c. not c.live) connection, Ended)

-- the connection's map has no such table
abbrev pub no_table : PlainState → Option Connection → Text → Check
no_table s connection table = (if_there (λ c. not (set.contains s.tables (c.map, table))) connection, NoTable)

-- the map has this table
abbrev pub table_exists : PlainState → Text → Text → Check
table_exists s name table = (set.contains s.tables (name, table), TableExists)

-- the site is Detached
abbrev pub detached : PlainState → Option Text → Check
detached s location = (if_there (λ l. is_detached (map.get s.away l)) location, Detached)

-- the site is Suspect
abbrev pub unresolved : PlainState → Option Text → Check
unresolved s location = (if_there (λ l. is_suspect (map.get s.away l)) location, Unresolved)

-- the site is Attached, and the command needs one that isn't
abbrev pub attached : PlainState → Text → Check
attached s location = (is_none (map.get s.away location), Attached)

-- the site isn't Detached, and the command needs one that is
abbrev pub not_detached : PlainState → Text → Check
not_detached s location = (not (is_detached (map.get s.away location)), Attached)

-- the site has differences, so many over all maps
abbrev pub differences_left : PlainState → Text → Check
differences_left s location = (nat_le 1 (difference_count s location), DifferencesLeft (difference_count s location))

-- the site has so many stray rows
abbrev pub strays_left : PlainState → Text → Check
strays_left s location = (nat_le 1 (stray_count s location), StrayRows (stray_count s location))

-- no job has this number
abbrev pub no_job : Option JobRow → Check
no_job job = (is_none job, NoJob)

-- the row isn't there
abbrev pub no_row : PlainState → Option Connection → Text → ℕ → Check
no_row s connection table id = (if_there (λ c. not (map.contains_key s.rows (row_of c table id))) connection, Absent)

-- no difference has this number
abbrev pub no_difference : Option Difference → Check
no_difference difference = (is_none difference, Absent)

-- source and target are one location
abbrev pub same_shard : Text → Option Piece → Check
same_shard location piece = (if_there (λ p. same p.location location) piece, SameShard)

-- the session has a connection of this number, live or ended
abbrev pub number_in_use : Option Connection → Check
number_in_use connection = (is_some connection, NumberInUse)

-- the session has no connection of this number
abbrev pub no_connection : Option Connection → Check
no_connection connection = (is_none connection, NoConnection)

-- as many maps stand as may
abbrev pub full_of_maps : PlainState → Check
full_of_maps s = (nat_le MOST_MAPS (map.len s.maps), Full)

-- the map has as many tables as it may
abbrev pub full_of_tables : PlainState → Text → Check
full_of_tables s name = (nat_le MOST_TABLES (length (filter (λ table. same name table.0) (members s.tables))), Full)

-- as many jobs stand as may, or the last job number was given
abbrev pub full_of_jobs : PlainState → Check
full_of_jobs s = (nat_le MOST_JOBS (map.len s.jobs) || nat_lt LAST_JOB s.next_job, Full)

-- the site is source or target of a job that has a batch under way
abbrev pub job_in_progress : PlainState → Text → Check
job_in_progress s location = (list_any (λ j. not (is_idle j.phase) && (same j.source location || same j.target location)) (map.values s.jobs), JobInProgress)

-- ---- the command table: of each command the refusals in order

-- with the word of the shard the mapping over the part must be free of a token, and no mapping of another site may be in the way
abbrev pub side_checks : PlainState → Text → Text → Side → Option Difference → List Check
side_checks s location name side.Global difference = []
side_checks s location name side.Shard difference = has_token (differing_mapping s location name difference) ∷ overlap_elsewhere s location name difference ∷ []

-- of a step of a job: it stands, and its source and its target are attached
abbrev pub checks_of_job : PlainState → ℕ → List Check
checks_of_job s number =
    let job = job_of_number s number in
    no_job job ∷ detached s (source_of_job job) ∷ unresolved s (source_of_job job) ∷ detached s (target_of_job job) ∷ unresolved s (target_of_job job) ∷ []

-- The checks of a command. A session's `peek` is never refused; `step` and `run` are refused too while another session's
-- `step` or `run` of the job hasn't ended, and mapping commands and job steps while no operation number is left, of which the plain state knows nothing.
abbrev pub checks : PlainState → ℕ → Command → List Check
checks s session (command.Map name kind type) =
    map_exists s name ∷ full_of_maps s ∷ []
checks s session (command.Unmap name) =
    no_map s name ∷ map_in_use s name ∷ []
checks s session (command.Shard name location) =
    no_map s name ∷ no_location s location ∷ detached s (Some location) ∷ unresolved s (Some location) ∷ shard_exists s name location ∷ []
checks s session (command.Unshard name location) =
    no_map s name ∷ no_location s location ∷ not_a_shard s name location ∷ detached s (Some location) ∷ unresolved s (Some location) ∷ shard_in_use s name location ∷ []
checks s session (command.Table name table) =
    no_map s name ∷ table_exists s name table ∷ full_of_tables s name ∷ []
checks s session (command.Add name low high location) =
    no_map s name ∷ wrong_kind s name kind.Range ∷ bad_key (range_in s name low high) ∷ bad_range (key_in s name low) (high_in s name high)
    ∷ no_location s location ∷ not_a_shard s name location ∷ detached s (Some location) ∷ unresolved s (Some location)
    ∷ overlap s name (range_in s name low high) ∷ []
checks s session (command.Addpoint name key location) =
    no_map s name ∷ wrong_kind s name kind.List ∷ bad_key (key_in s name key)
    ∷ no_location s location ∷ not_a_shard s name location ∷ detached s (Some location) ∷ unresolved s (Some location)
    ∷ overlap s name (option_map Point (key_in s name key)) ∷ []
checks s session (command.Delete name key token) =
    let piece = mapping_of s name key in
    no_map s name ∷ bad_key (key_in s name key) ∷ no_mapping piece ∷ detached s (location_of_mapping piece) ∷ unresolved s (location_of_mapping piece)
    ∷ locked token piece ∷ not_offline piece ∷ rows_present s piece ∷ []
checks s session (command.Offline name key token) =
    let piece = mapping_of s name key in
    no_map s name ∷ bad_key (key_in s name key) ∷ no_mapping piece ∷ detached s (location_of_mapping piece) ∷ unresolved s (location_of_mapping piece)
    ∷ locked token piece ∷ same_status_already status.Offline piece ∷ []
checks s session (command.Online name key token) =
    let piece = mapping_of s name key in
    no_map s name ∷ bad_key (key_in s name key) ∷ no_mapping piece ∷ detached s (location_of_mapping piece) ∷ unresolved s (location_of_mapping piece)
    ∷ locked token piece ∷ same_status_already status.Online piece ∷ []
checks s session (command.Move name key location token) =
    let piece = mapping_of s name key in
    no_map s name ∷ bad_key (key_in s name key) ∷ no_mapping piece ∷ detached s (location_of_mapping piece) ∷ unresolved s (location_of_mapping piece)
    ∷ locked token piece ∷ no_location s location ∷ not_a_shard s name location ∷ detached s (Some location) ∷ unresolved s (Some location)
    ∷ same_shard location piece ∷ not_offline piece ∷ rows_present s piece ∷ []
checks s session (command.Split name key token) =
    let piece = mapping_of s name key in
    no_map s name ∷ wrong_kind s name kind.Range ∷ bad_key (key_in s name key) ∷ no_mapping piece ∷ detached s (location_of_mapping piece) ∷ unresolved s (location_of_mapping piece)
    ∷ locked token piece ∷ bad_split (key_in s name key) piece ∷ []
checks s session (command.Merge name key token) =
    let piece = mapping_of s name key in
    no_map s name ∷ wrong_kind s name kind.Range ∷ bad_key (key_in s name key) ∷ no_mapping piece ∷ detached s (location_of_mapping piece) ∷ unresolved s (location_of_mapping piece)
    ∷ locked token piece ∷ not_mergeable s piece ∷ []
checks s session (command.Lock name key token) =
    let piece = mapping_of s name key in
    no_map s name ∷ bad_key (key_in s name key) ∷ no_mapping piece ∷ detached s (location_of_mapping piece) ∷ unresolved s (location_of_mapping piece) ∷ has_token piece ∷ []
checks s session (command.Unlock name key token) =
    let piece = mapping_of s name key in
    no_map s name ∷ bad_key (key_in s name key) ∷ no_mapping piece ∷ detached s (location_of_mapping piece) ∷ unresolved s (location_of_mapping piece)
    ∷ not_locked piece ∷ locked (Some token) piece ∷ []
checks s session (command.Find name key) =
    no_map s name ∷ bad_key (key_in s name key) ∷ no_mapping (mapping_of s name key) ∷ []
checks s session (command.List name) =
    no_map s name ∷ []
checks s session (command.Shards name) =
    no_map s name ∷ []
checks s session (command.Open number name key) =
    let piece = mapping_of s name key in
    number_in_use (connection_of s session number) ∷ no_map s name ∷ bad_key (key_in s name key) ∷ no_mapping piece
    ∷ detached s (location_of_mapping piece) ∷ unresolved s (location_of_mapping piece) ∷ owner_offline piece ∷ []
checks s session (command.Close number) =
    no_connection (connection_of s session number) ∷ []
checks s session (command.Put number table id bytes) =
    let c = connection_of s session number in
    no_connection c ∷ ended c ∷ no_table s c table ∷ []
checks s session (command.Get number table id) =
    let c = connection_of s session number in
    no_connection c ∷ ended c ∷ no_table s c table ∷ no_row s c table id ∷ []
checks s session (command.Del number table id) =
    let c = connection_of s session number in
    no_connection c ∷ ended c ∷ no_table s c table ∷ no_row s c table id ∷ []
checks s session (command.Peek name key) =
    []
checks s session (command.Detach location) =
    no_location s location ∷ detached s (Some location) ∷ job_in_progress s location ∷ []
checks s session (command.Attach location) =
    no_location s location ∷ not_detached s location ∷ []
checks s session (command.Differences location name) =
    no_location s location ∷ no_map s name ∷ not_a_shard s name location ∷ detached s (Some location) ∷ []
checks s session (command.Resolve location name number side) =
    let difference = nth_difference s location name number in
    no_location s location ∷ no_map s name ∷ not_a_shard s name location ∷ detached s (Some location) ∷ attached s location
    ∷ no_difference difference ∷ side_checks s location name side difference
checks s session (command.Discard location) =
    no_location s location ∷ detached s (Some location) ∷ attached s location ∷ []
checks s session (command.Clear location) =
    no_location s location ∷ detached s (Some location) ∷ attached s location ∷ differences_left s location ∷ strays_left s location ∷ []
checks s session (command.Job name low high location batch) =
    let piece = mapping_of s name low in
    no_map s name ∷ wrong_kind s name kind.Range ∷ bad_key (range_in s name low high) ∷ bad_range (key_in s name low) (high_in s name high)
    ∷ no_whole_mapping (range_in s name low high) piece ∷ detached s (location_of_mapping piece) ∷ unresolved s (location_of_mapping piece)
    ∷ has_token piece ∷ owner_offline piece
    ∷ no_location s location ∷ not_a_shard s name location ∷ detached s (Some location) ∷ unresolved s (Some location)
    ∷ same_shard location piece ∷ full_of_jobs s ∷ []
checks s session (command.Step number) = checks_of_job s number
checks s session (command.Run number) = checks_of_job s number

-- ---- the first that holds

abbrev pub first_refusal : List Check → Option Refusal
first_refusal [] = None
first_refusal (check ∷ more) = if check.0 then Some check.1 else first_refusal more

-- the refusal that the command gets, if it is refused
unfoldable pub refusal : PlainState → ℕ → Command → Option Refusal
refusal s session command = first_refusal (checks s session command)

-- the state accepts a step of the job
abbrev pub AcceptsJob : PlainState → ℕ → Type 0
AcceptsJob s number = first_refusal (checks_of_job s number) ≡ None

-- the refusals of a list of checks, in order
abbrev pub refusals_of : List Check → List Refusal
refusals_of [] = []
refusals_of (check ∷ more) = check.1 ∷ refusals_of more
