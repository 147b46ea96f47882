-- Which operations an image admits.
use Rattle.std.specs.Prelude.{◌≡◌, ◌≢◌, ◌⊎◌, ℕ, false, ◌&&◌, List, [], ◌∷◌, ◌++◌, Option, Some, None, IfSome, IsTrue, IsSome, option_and_then}
use Rattle.std.specs.List.{list_any, AllByRecursion}
use Rattle.std.specs.FinMap as map
use Rattle.std.specs.FinSet as set
use Rattle.cell_world.specs.Texts.{Text}
use Rattle.cell_world.specs.Lists.{IsOneOf}
use Rattle.cell_world.specs.Keys.{same, contains, overlaps, is_among}
use Rattle.cell_world.specs.KeyForms.{is_span_of}
use Rattle.cell_world.specs.Spelled.{listed, has_first}
use Rattle.cell_world.specs.Stores.{Maps, Shards, Mappings, Jobs, AwaySites, Rows, piece_key}
use Rattle.cell_world.specs.Images.{Image, Shard, global}
use Rattle.cell_world.specs.Plain.{owner_in, is_attached}
use Rattle.cell_world.specs.Operations.{hull_of, sites_of}
use Rattle.cell_world.specs.Jobs.{Replace, table_row, Gives, IsBatchEnd}
use Rattle.cell_world.specs.declared.operations.Piece.{Piece}
use Rattle.cell_world.specs.declared.operations.Op.{Op}
use Rattle.cell_world.specs.declared.operations.JobRow.{JobRow}
use Rattle.cell_world.specs.declared.operations.Phase.{Phase}
use Rattle.cell_world.specs.declared.operations.Phase.TheVariants.{Moved}
use Rattle.cell_world.specs.declared.operations.Extra.TheVariants as extra
use Rattle.cell_world.specs.declared.cells.Status.TheVariants.{Online, Offline}
use Rattle.cell_world.specs.declared.spans.High.{High}
use Rattle.cell_world.specs.declared.spans.High.TheVariants.{At}
use Rattle.cell_world.specs.declared.spans.Span.{Span}
use Rattle.cell_world.specs.declared.spans.Span.TheVariants.{Range}

-- ---- what is read

-- the parts of an image on which it depends whether an operation is lawful
pub record ReadTables : Type 0 where
  pub locations : List Text  -- those of the world
  pub maps : Maps  -- the global store's
  pub shards : Shards  -- its
  pub mappings : Mappings  -- its
  pub jobs : Jobs  -- its
  pub away : AwaySites  -- its: the sites that are not attached
  pub rows_at : Text → Rows  -- by location: the shard's row cells

abbrev pub rows_at : Image → Text → Rows
rows_at image location = (image.at (Shard location)).rows

abbrev pub read_tables : Image → ReadTables
read_tables image = record {
  locations = image.locations;
  maps = (global image).maps;
  shards = (global image).shards;
  mappings = (global image).mappings;
  jobs = (global image).jobs;
  away = (global image).away;
  rows_at = rows_at image;
}

-- the world knows the location, and its site is attached
pub record IsAttached (locations : List Text) (away : AwaySites) (location : Text) : Type 0 where
  pub known : IsTrue (is_among locations location)  -- one of the world's locations
  pub attached : IsTrue (is_attached (map.get away location))  -- without a site state cell

-- ---- shapes

-- of two mappings no key is in both
abbrev pub AreDisjoint : List Piece → Type 0
AreDisjoint (a ∷ b ∷ []) = overlaps a.span b.span ≡ false
AreDisjoint pieces = Unit {0}

-- the rows of a map under a span
abbrev pub rows_under : Rows → Text → Span → Rows
rows_under rows name span = map.retain_keys rows (λ row. same name row.map && contains span row.key)

-- low and high are what the whole becomes where it is cut at a key, and agree with it in all else
pub record Cuts (whole low high : Piece) : Type 0 where
  -- the key at which it is cut
  pub key : Text
  -- the whole is a range
  pub from : Text
  pub to : High
  pub range : whole.span ≡ Range from to
  -- the low part goes up to the key, and differs from the whole in nothing else
  pub lower : low ≡ record whole { span = Range from (At key) }
  -- the high part goes from the key on, and differs in nothing else either
  pub upper : high ≡ record whole { span = Range key to }

-- the new mapping differs from the old one in status alone
pub record TurnsStatus (old new : Piece) : Type 0 where
  pub other : new.status ≢ old.status  -- online becomes offline, or the other way
  pub rest : new ≡ record old { status = new.status }

-- the old mapping is offline, the new one differs from it in location alone, and under the span the new site has just the rows that the old one has
pub record Moves (rows : Text → Rows) (old new : Piece) : Type 0 where
  -- the mapping is offline
  pub offline : old.status ≡ Offline
  -- it goes to another location, and keeps all else
  pub elsewhere : new.location ≢ old.location
  pub rest : new ≡ record old { location = new.location }
  -- where its rows are already
  pub same_rows : rows_under (rows new.location) old.map old.span ≡ rows_under (rows old.location) old.map old.span

-- What the olds and the news are to each other.
abbrev pub HasShape : (Text → Rows) → List Piece → List Piece → Type 0
-- add: a new mapping, online and without a token
HasShape rows [] (new ∷ []) = (new.status ≡ Online) × (new.token ≡ None)
-- delete: an old mapping, offline and without a row under it
HasShape rows (old ∷ []) [] = (old.status ≡ Offline) × (rows_under (rows old.location) old.map old.span ≡ map.empty)
-- status, or move
HasShape rows (old ∷ []) (new ∷ []) = TurnsStatus old new ⊎ Moves rows old new
-- split, the lower part first
HasShape rows (old ∷ []) (low ∷ high ∷ []) = Cuts old low high
-- merge, the lower one first
HasShape rows (low ∷ high ∷ []) (new ∷ []) = Cuts new low high
-- there is no other shape
HasShape rows olds news = ⊥

-- ---- steps of jobs

-- the standing job whose token the mapping has
abbrev pub job_with_token : Jobs → Piece → Option JobRow
job_with_token jobs piece = option_and_then (λ token. map.get jobs token.0) piece.token

abbrev pub or_else : {A : Type 0} → Option A → Option A → Option A
or_else None other = other
or_else (Some a) other = Some a

-- the job of the first of the mappings that has a standing job's token
abbrev pub job_of_pieces : Jobs → List Piece → Option JobRow
job_of_pieces jobs [] = None
job_of_pieces jobs (piece ∷ pieces) = or_else (job_with_token jobs piece) (job_of_pieces jobs pieces)

-- before a job's online the source has no row of the map under the span
abbrev pub IsEmptied : (Text → Rows) → JobRow → Phase → List Piece → Type 0
IsEmptied rows job (Moved end) olds = AllByRecursion (λ old. rows_under (rows job.source) job.map old.span ≡ map.empty) olds
IsEmptied rows job other olds = Unit {0}

-- The operation is the next row of the job's table, for some end of the batch where the row depends on it.
pub record IsStepOf (t : ReadTables) (job : JobRow) (op : Op) : Type 0 where
  -- it is what the row of the table gives
  pub row : Gives (IsBatchEnd (owner_in t.maps t.mappings) job) (table_row (owner_in t.maps t.mappings) t.mappings job) (Replace (listed op.olds) (listed op.news) op.extra)
  -- and before an online the source is emptied
  pub emptied : IsEmptied t.rows_at job job.phase (listed op.olds)

-- Where no old mapping has a standing job's token the operation puts no job.
abbrev pub IsOfJob : ReadTables → Op → Option JobRow → Type 0
IsOfJob t op None = op.extra ≡ extra.None
IsOfJob t op (Some job) = IsStepOf t job op

-- ---- lawful

pub record LawfulOn (t : ReadTables) (op : Op) : Type 0 where
  -- the map stands
  pub map_stands : IsSome (map.get t.maps op.map)
  -- each old is one of its mappings, in all fields
  pub olds_stand : AllByRecursion (λ old. map.get t.mappings (piece_key old) ≡ Some old) (listed op.olds)
  -- olds and news are of its map
  pub of_map : AllByRecursion (λ p. p.map ≡ op.map) (listed op.olds ++ listed op.news)
  -- a second old, and a second new, stands only beside a first
  pub olds_in_order : IsTrue (has_first op.olds)
  pub news_in_order : IsTrue (has_first op.news)
  -- every site of the operation is attached
  pub attached : AllByRecursion (IsAttached t.locations t.away) (sites_of op)
  -- each new location is a shard of the map
  pub on_shards : AllByRecursion (λ new. IsTrue (set.contains t.shards (op.map, new.location))) (listed op.news)
  -- the new spans are of the map's kind and key type
  pub spans : IfSome (map.get t.maps op.map) (λ m. AllByRecursion (λ new. IsTrue (is_span_of m.0 m.1 new.span)) (listed op.news))
  -- they are disjoint
  pub disjoint : AreDisjoint (listed op.news)
  -- they overlap no mapping that isn't an old
  pub free : (other : Piece) → map.get t.mappings (piece_key other) ≡ Some other → other.map ≡ op.map
      → IsTrue (list_any (λ new. overlaps new.span other.span) (listed op.news)) → IsOneOf (listed op.olds) other
  -- the hull is the least span over olds and news
  pub hull : hull_of (listed op.olds ++ listed op.news) ≡ Some op.hull
  -- it is an add, a delete, a change of status, a move, a split or a merge
  pub shape : HasShape t.rows_at (listed op.olds) (listed op.news)
  -- where an old has a standing job's token it is a step of that job, and else it puts no job
  pub job : IsOfJob t op (job_of_pieces t.jobs (listed op.olds))
  -- no operation drops a job
  pub no_drop : (number : ℕ) → op.extra ≢ extra.JobDrop number

-- The image admits the operation.
abbrev pub Lawful : Image → Op → Type 0
Lawful image op = LawfulOn (read_tables image) op
