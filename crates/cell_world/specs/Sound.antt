-- Which images a run may leave: the sound ones. Of the cells of a detached site nothing is said but that each stands under its own key.
-- Nor is it said that numbers are in their widths: a job's number may be 2^64 in a sound image. A law that needs numbers in their widths takes `IsImage` beside `Sound`; every world gives it.
-- Nor which kinds of cell stand at which place: that is the program's own rule.
use Rattle.std.specs.Prelude.{◌≡◌, ◌≢◌, ◌⊎◌, ℕ, ◌<◌, ◌≤◌, ◌^◌, Bool, true, not, List, Option, Some, None, IfSome, IsTrue, IsSome, nat_lt}
use Rattle.std.specs.FinMap as map
use Rattle.std.specs.FinSet as set
use Rattle.cell_world.specs.Texts.{Text}
use Rattle.cell_world.specs.Lists.{SomeOf}
use Rattle.cell_world.specs.Keys.{contains, overlaps, low_of, before, end_below, is_among}
use Rattle.cell_world.specs.KeyForms.{is_normal, is_normal_end, is_span_of}
use Rattle.cell_world.specs.Spelled.{listed}
use Rattle.cell_world.specs.Stores.{Store, Maps, Shards, Tables, Mappings, Log, Jobs, AwaySites, Locals, Rows, IsKeyed, piece_key, local_key}
use Rattle.cell_world.specs.Images.{Image, Place, Shard, global}
use Rattle.cell_world.specs.Plain.{Owner, owner_in}
use Rattle.cell_world.specs.Meaning.{counts, counters_of, next_operation, next_job, owner_of}
use Rattle.cell_world.specs.Jobs.{ends_at}
use Rattle.cell_world.specs.Lawful.{ReadTables, read_tables, rows_at, LawfulOn, IsAttached}
use Rattle.cell_world.specs.declared.operations.Piece.{Piece}
use Rattle.cell_world.specs.declared.operations.Op.{Op}
use Rattle.cell_world.specs.declared.operations.JobRow.{JobRow}
use Rattle.cell_world.specs.declared.operations.Phase.{Phase}
use Rattle.cell_world.specs.declared.operations.Phase.TheVariants.{Idle, Copying, Moved}
use Rattle.cell_world.specs.declared.cells.LocalRow.{LocalRow}
use Rattle.cell_world.specs.declared.cells.RowName.{RowName}
use Rattle.cell_world.specs.declared.cells.MapKind.{MapKind}
use Rattle.cell_world.specs.declared.cells.MapKind.TheVariants as kind
use Rattle.cell_world.specs.declared.cells.KeyType.{KeyType}
use Rattle.cell_world.specs.declared.cells.Away.TheVariants as away
use Rattle.cell_world.specs.declared.cells.Mark.{Mark}
use Rattle.cell_world.specs.declared.cells.Mark.TheVariants.{Plain, Old, New}
use Rattle.cell_world.specs.declared.cells.Status.{Status}
use Rattle.cell_world.specs.declared.cells.Status.TheVariants.{Online, Offline}
use Rattle.cell_world.specs.declared.spans.High.{High}
use Rattle.cell_world.specs.declared.spans.High.TheVariants.{At}
use Rattle.cell_world.specs.declared.spans.Span.{Span}
use Rattle.cell_world.specs.declared.spans.Span.TheVariants.{Range}

-- ---- what stands, each under its own key

abbrev pub HasMap : Maps → Text → MapKind → KeyType → Type 0
HasMap maps name kind type = map.get maps name ≡ Some (kind, type)

abbrev pub HasShard : Shards → Text → Text → Type 0
HasShard shards name location = IsTrue (set.contains shards (name, location))

abbrev pub HasTable : Tables → Text → Text → Type 0
HasTable tables name table = IsTrue (set.contains tables (name, table))

abbrev pub HasPiece : Mappings → Piece → Type 0
HasPiece mappings p = map.get mappings (piece_key p) ≡ Some p

abbrev pub HasLog : Log → Op → Type 0
HasLog log op = map.get log op.number ≡ Some op

abbrev pub HasJob : Jobs → JobRow → Type 0
HasJob jobs job = map.get jobs job.number ≡ Some job

abbrev pub HasLocal : Locals → LocalRow → Type 0
HasLocal locals row = map.get locals (local_key row) ≡ Some row

abbrev pub HasRow : Rows → RowName → Type 0
HasRow rows row = IsSome (map.get rows row)

-- the map stands, and the span is of its kind and key type
abbrev pub IsSpanOf : Maps → Text → Span → Type 0
IsSpanOf maps name span = (kind : MapKind) × (type : KeyType) × HasMap maps name kind type × IsTrue (is_span_of kind type span)

-- the map stands, and the key is a normal form of its key type
abbrev pub IsKeyOf : Maps → Text → Text → Type 0
IsKeyOf maps name key = (kind : MapKind) × (type : KeyType) × HasMap maps name kind type × IsTrue (is_normal type key)

-- the owner of the key is at the location
abbrev pub IsOwnedBy : Owner → Text → Text → Text → Type 0
IsOwnedBy own name key location = (p : Piece) × (own name key ≡ Some p) × (p.location ≡ location)

-- ---- (a) global cells

pub record GlobalCells (g : Store) : Type 0 where
  -- each shard cell and each table cell is of a map that stands
  pub shards : (name location : Text) → HasShard g.shards name location → IsSome (map.get g.maps name)
  pub tables : (name table : Text) → HasTable g.tables name table → IsSome (map.get g.maps name)
  -- the counter's operation number is from 1 to 2^63, and its job number is at least 1
  pub operations : (1 ≤ (counters_of g.counter).operation) × ((counters_of g.counter).operation ≤ 2 ^ 63)
  pub jobs : 1 ≤ (counters_of g.counter).job
  -- each mapping is of its map's kind and key type
  pub spans : (p : Piece) → HasPiece g.mappings p → IsSpanOf g.maps p.map p.span
  -- and on a shard of its map
  pub on_shards : (p : Piece) → HasPiece g.mappings p → HasShard g.shards p.map p.location
  -- mappings of one map are disjoint
  pub disjoint : (p q : Piece) → HasPiece g.mappings p → HasPiece g.mappings q → p.map ≡ q.map → IsTrue (overlaps p.span q.span) → p ≡ q

pub record LogCells (t : ReadTables) (log : Log) (next : ℕ) : Type 0 where
  -- each log cell is lawful
  pub lawful : (op : Op) → HasLog log op → LawfulOn t op
  -- and numbered below the counter
  pub numbered : (op : Op) → HasLog log op → op.number < next
  -- two log cells of one map have hulls that don't overlap
  pub hulls : (a b : Op) → HasLog log a → HasLog log b → a.map ≡ b.map → IsTrue (overlaps a.hull b.hull) → a ≡ b

-- What is used of mappings where owners are spoken of; on a sound image it holds of those that stand.
pub record AreMappings (maps : Maps) (mappings : Mappings) : Type 0 where
  -- each is placed under its own key
  pub placed : (k : Text × Text) → IfSome (map.get mappings k) (λ p. piece_key p ≡ k)
  -- each is of its map's kind and key type
  pub spans : (p : Piece) → HasPiece mappings p → IsSpanOf maps p.map p.span
  -- those of one map are disjoint
  pub disjoint : (p q : Piece) → HasPiece mappings p → HasPiece mappings q → p.map ≡ q.map → IsTrue (overlaps p.span q.span) → p ≡ q

-- ---- (b) local cells of an attached site

-- the row says of the mapping what a shard keeps of it
pub record Matches (row : LocalRow) (p : Piece) : Type 0 where
  pub map : row.map ≡ p.map  -- the same map
  pub span : row.span ≡ p.span  -- the same keys
  pub status : row.status ≡ p.status  -- the same status

-- a mark of a logged operation is on the row of one of its olds at the site, or on a row made as one of its news there
abbrev pub IsMarked : Log → Text → LocalRow → Mark → Type 0
IsMarked log location row Plain = Unit {0}
IsMarked log location row (Old p) = (op : Op) → map.get log p ≡ Some op → SomeOf (λ old. Matches row old × (old.location ≡ location)) (listed op.olds)
IsMarked log location row New = (op : Op) → map.get log row.number ≡ Some op → SomeOf (λ new. Matches row new × (new.location ≡ location)) (listed op.news)

abbrev pub mark_below : ℕ → Mark → Bool
mark_below next (Old p) = nat_lt p next
mark_below next Plain = true
mark_below next New = true

pub record LocalCells (mappings : Mappings) (log : Log) (next : ℕ) (location : Text) (locals : Locals) : Type 0 where
  -- the counted ones are, in map, span and status, exactly the mappings at the site
  pub counted : (row : LocalRow) → HasLocal locals row → counts log row ≡ true → (p : Piece) × HasPiece mappings p × (p.location ≡ location) × Matches row p
  -- and each of these has one
  pub each : (p : Piece) → HasPiece mappings p → p.location ≡ location → (row : LocalRow) × HasLocal locals row × (counts log row ≡ true) × Matches row p
  -- and no more than one
  pub once : (a b : LocalRow) → HasLocal locals a → HasLocal locals b → counts log a ≡ true → counts log b ≡ true → a.map ≡ b.map → low_of a.span ≡ low_of b.span → a ≡ b
  -- each mark of a logged operation is on the row of an old, or on a row made as a new, of it at the site
  pub marks : (row : LocalRow) → HasLocal locals row → IsMarked log location row row.mark
  -- each number in a name or a mark is below the counter
  pub numbers : (row : LocalRow) → HasLocal locals row → (row.number < next) × IsTrue (mark_below next row.mark)

-- ---- (c) online rows

-- a logged operation has a new mapping there over the key
abbrev pub IsComing : Log → Text → Text → Text → Type 0
IsComing log name key location = (op : Op) × HasLog log op × (op.map ≡ name) × SomeOf (λ new. (new.location ≡ location) × IsTrue (contains new.span key)) (listed op.news)

pub record OnlineRows (maps : Maps) (own : Owner) (log : Log) (location : Text) (locals : Locals) : Type 0 where
  -- a local cell that is online, counted or not, is of a map that stands and of its kind and key type
  pub spans : (row : LocalRow) → HasLocal locals row → row.status ≡ Online → IsSpanOf maps row.map row.span
  -- where it is online over a key, the owner of the key is at the site, or the key has no owner and a logged operation has a new mapping over it there
  pub owned : (row : LocalRow) (key : Text) → HasLocal locals row → row.status ≡ Online → IsTrue (contains row.span key) → IsKeyOf maps row.map key
      → IsOwnedBy own row.map key location ⊎ ((own row.map key ≡ None) × IsComing log row.map key location)

-- ---- (d) row cells

-- where the batch in progress ends
abbrev pub batch_high : Phase → Option High
batch_high Idle = None
batch_high (Copying end) = Some end
batch_high (Moved end) = Some end

-- the key is in the job's batch in progress: from the cursor up to its end
abbrev pub InBatch : JobRow → Text → Type 0
InBatch job key = (low : Text) × (end : High) × (job.cursor ≡ At low) × (batch_high job.phase ≡ Some end) × IsTrue (contains (Range low end) key)

abbrev pub IsSiteOfJob : Text → JobRow → Type 0
IsSiteOfJob location job = (location ≡ job.source) ⊎ (location ≡ job.target)

-- a job of the map is in progress that has the location as source or target, and the key is in its batch
pub record IsBeingMoved (maps : Maps) (jobs : Jobs) (name key location : Text) : Type 0 where
  -- a job stands
  pub job : JobRow
  pub stands : HasJob jobs job
  -- of this map
  pub of_map : job.map ≡ name
  -- that has this site as source or target
  pub at_site : IsSiteOfJob location job
  -- the key is from its cursor up to the end of its batch
  pub in_batch : InBatch job key
  -- and a normal form of the map's key type
  pub of_type : IsKeyOf maps name key

pub record RowCells (maps : Maps) (tables : Tables) (own : Owner) (jobs : Jobs) (location : Text) (rows : Rows) : Type 0 where
  -- a row cell has a table of its map
  pub in_table : (row : RowName) → HasRow rows row → HasTable tables row.map row.table
  -- and a key that the site owns, or it is in a batch in progress
  pub placed : (row : RowName) → HasRow rows row → IsOwnedBy own row.map row.key location ⊎ IsBeingMoved maps jobs row.map row.key location

-- the rows of the job's batch in the one are among those in the other, with equal bytes
abbrev pub BatchAmong : JobRow → Rows → Rows → Type 0
BatchAmong job few many = (row : RowName) → row.map ≡ job.map → InBatch job row.key → (bytes : Text) → map.get few row ≡ Some bytes → map.get many row ≡ Some bytes

-- while the batch is copied its rows at the target are among those at the source, and once it moved those at the source are among those at the target
abbrev pub BatchRows : JobRow → Phase → Rows → Rows → Type 0
BatchRows job Idle source target = Unit {0}
BatchRows job (Copying end) source target = BatchAmong job target source
BatchRows job (Moved end) source target = BatchAmong job source target

-- ---- (e) suspect sites

pub record SuspectSite (maps : Maps) (shards : Shards) (location : Text) (locals : Locals) : Type 0 where
  -- the local cells are Plain and have number 0
  pub plain : (row : LocalRow) → HasLocal locals row → (row.mark ≡ Plain) × (row.number ≡ 0)
  -- they belong to maps that have this site as shard
  pub on_shards : (row : LocalRow) → HasLocal locals row → HasShard shards row.map location
  -- they are of the map's kind and key type
  pub spans : (row : LocalRow) → HasLocal locals row → IsSpanOf maps row.map row.span
  -- and disjoint per map
  pub disjoint : (a b : LocalRow) → HasLocal locals a → HasLocal locals b → a.map ≡ b.map → IsTrue (overlaps a.span b.span) → a ≡ b

-- ---- (f) jobs

-- the owner of the key is there, and has this status
abbrev pub IsOwnedAs : Owner → Text → Text → Text → Status → Type 0
IsOwnedAs own name key location status = (p : Piece) × (own name key ≡ Some p) × (p.location ≡ location) × (p.status ≡ status)

-- from where on the job has moved nothing: the batch's end, or the cursor
abbrev pub front_in : High → Phase → High
front_in cursor Idle = cursor
front_in cursor (Copying end) = end
front_in cursor (Moved end) = end

abbrev pub front_of : JobRow → High
front_of job = front_in job.cursor job.phase

-- a batch in progress, whose mapping is at this location
pub record BatchAt (mappings : Mappings) (job : JobRow) (end : High) (location : Text) : Type 0 where
  -- its end is above the cursor and at most hi
  pub above : IsTrue (end_below job.cursor end)
  pub within : IsTrue (not (end_below job.high end))
  -- [cursor, end) is one offline mapping, there
  pub low : Text
  pub at_cursor : job.cursor ≡ At low
  pub piece : Piece
  pub stands : HasPiece mappings piece
  pub of_map : piece.map ≡ job.map
  pub span : piece.span ≡ Range low end
  pub offline : piece.status ≡ Offline
  pub at_site : piece.location ≡ location

-- in Copying it is at the source and in Moved at the target, and both sites are attached
abbrev pub IsBatch : List Text → AwaySites → Mappings → JobRow → Phase → Type 0
IsBatch locations away mappings job Idle = Unit {0}
IsBatch locations away mappings job (Copying end) = BatchAt mappings job end job.source × IsAttached locations away job.source × IsAttached locations away job.target
IsBatch locations away mappings job (Moved end) = BatchAt mappings job end job.target × IsAttached locations away job.source × IsAttached locations away job.target

-- where the cursor is above lo, mappings begin at lo and end at the cursor
pub record IsCutOff (mappings : Mappings) (job : JobRow) : Type 0 where
  pub begins : (p : Piece) × HasPiece mappings p × (p.map ≡ job.map) × (low_of p.span ≡ job.low)
  pub ends : (p : Piece) × HasPiece mappings p × (p.map ≡ job.map) × IsTrue (ends_at job.cursor p.span)

pub record JobCells (maps : Maps) (shards : Shards) (mappings : Mappings) (next : ℕ) (job : JobRow) : Type 0 where
  -- the job's map is a range map, [lo, hi) is a span of its kind and key type, the cursor is a normal form of that type or Max
  pub type : KeyType
  pub range_map : HasMap maps job.map kind.Range type
  pub range : IsTrue (is_span_of kind.Range type (Range job.low job.high))
  pub cursor_form : IsTrue (is_normal_end type job.cursor)
  -- the target is one of its shards, the source is another location
  pub target : HasShard shards job.map job.target
  pub source : job.source ≢ job.target
  -- lo is at most the cursor, which is at most hi
  pub from_low : IsTrue (not (end_below job.cursor (At job.low)))
  pub to_high : IsTrue (not (end_below job.high job.cursor))
  -- every key of [lo, hi) has an owner with the job's token
  pub tokens : (key : Text) → IsTrue (is_normal type key) → IsTrue (contains (Range job.low job.high) key)
      → (p : Piece) × (owner_in maps mappings job.map key ≡ Some p) × (p.token ≡ Some (record { 0 = job.number }))
  -- below the cursor the owners are at the target and online
  pub done : (key : Text) → IsTrue (is_normal type key) → IsTrue (contains (Range job.low job.cursor) key) → IsOwnedAs (owner_in maps mappings) job.map key job.target Online
  -- where the cursor is above lo, mappings begin at lo and end at the cursor
  pub cut_off : IsTrue (end_below (At job.low) job.cursor) → IsCutOff mappings job
  -- from the cursor on they are at the source and online; with a batch in progress, from its end on
  pub left : (key : Text) → IsTrue (is_normal type key) → IsTrue (contains (Range job.low job.high) key) → IsTrue (not (before key (front_of job)))
      → IsOwnedAs (owner_in maps mappings) job.map key job.source Online
  -- job numbers are below the next one
  pub numbered : job.number < next

-- a token below 2^64 is the number of a standing job of the same map
abbrev pub JobTokens : Mappings → Jobs → Type 0
JobTokens mappings jobs = (p : Piece) → HasPiece mappings p → IfSome p.token (λ token. token.0 < 2 ^ 64 → (job : JobRow) × HasJob jobs job × (job.number ≡ token.0) × (job.map ≡ p.map))

-- ---- the parts, of an image

abbrev pub IsAttachedIn : Image → Text → Type 0
IsAttachedIn image location = IsAttached image.locations (global image).away location

abbrev pub IsSuspectIn : Image → Text → Type 0
IsSuspectIn image location = IsTrue (is_among image.locations location) × (map.get (global image).away location ≡ Some away.Suspect)

-- the local rows of the shard at a location
abbrev pub locals_at : Image → Text → Locals
locals_at image location = (image.at (Shard location)).locals

abbrev pub LogCellsIn : Image → Type 0
LogCellsIn image = LogCells (read_tables image) (global image).log (next_operation image)

abbrev pub LocalCellsIn : Image → Text → Type 0
LocalCellsIn image location = LocalCells (global image).mappings (global image).log (next_operation image) location (locals_at image location)

abbrev pub OnlineRowsIn : Image → Text → Type 0
OnlineRowsIn image location = OnlineRows (global image).maps (owner_of image) (global image).log location (locals_at image location)

abbrev pub RowCellsIn : Image → Text → Type 0
RowCellsIn image location = RowCells (global image).maps (global image).tables (owner_of image) (global image).jobs location (rows_at image location)

abbrev pub BatchRowsIn : Image → JobRow → Type 0
BatchRowsIn image job = BatchRows job job.phase (rows_at image job.source) (rows_at image job.target)

abbrev pub SuspectSiteIn : Image → Text → Type 0
SuspectSiteIn image location = SuspectSite (global image).maps (global image).shards location (locals_at image location)

abbrev pub JobCellsIn : Image → JobRow → Type 0
JobCellsIn image job = JobCells (global image).maps (global image).shards (global image).mappings (next_job image) job

abbrev pub IsBatchIn : Image → JobRow → Type 0
IsBatchIn image job = IsBatch image.locations (global image).away (global image).mappings job job.phase

-- ---- sound

pub record Sound (image : Image) : Type 0 where
  -- each cell stands under its own key
  pub keyed : (place : Place) → IsKeyed (image.at place)
  -- (a) global cells, and of these the log cells
  pub globals : GlobalCells (global image)
  pub logged : LogCellsIn image
  -- (b) local cells of an attached site
  pub locals : (location : Text) → IsAttachedIn image location → LocalCellsIn image location
  -- (c) online rows of an attached site
  pub online : (location : Text) → IsAttachedIn image location → OnlineRowsIn image location
  -- (d) row cells of an attached site
  pub rows : (location : Text) → IsAttachedIn image location → RowCellsIn image location
  -- and the rows of each job's batch at its two sites
  pub batches : (job : JobRow) → HasJob (global image).jobs job → BatchRowsIn image job
  -- (e) suspect sites
  pub suspect : (location : Text) → IsSuspectIn image location → SuspectSiteIn image location
  -- (f) each job: its range and cursor, and who owns its keys
  pub jobs : (job : JobRow) → HasJob (global image).jobs job → JobCellsIn image job
  -- its batch in progress
  pub progress : (job : JobRow) → HasJob (global image).jobs job → IsBatchIn image job
  -- and each token that is a job's
  pub tokens : JobTokens (global image).mappings (global image).jobs
