-- The short changes that begin and that finish a job.
use Rattle.std.specs.Prelude.{◌≡◌, ◌≢◌, ℕ, ◌+◌, ◌<◌, ◌^◌, not, List, [], ◌∷◌, Some, None, option_map, IsTrue}
use Rattle.std.specs.FinMap as map
use Rattle.cell_world.specs.Texts.{Text}
use Rattle.cell_world.specs.Keys.{contains, end_below}
use Rattle.cell_world.specs.KeyForms.{is_span_of}
use Rattle.cell_world.specs.Stores.{Mappings, changed}
use Rattle.cell_world.specs.Images.{Image, Global, global, with_store}
use Rattle.cell_world.specs.Meaning.{next_operation, next_job, owner_of}
use Rattle.cell_world.specs.Jobs.{Always, Finish, table_row}
use Rattle.cell_world.specs.Sound.{HasPiece, HasMap, HasShard}
use Rattle.cell_world.specs.declared.operations.Piece.{Piece}
use Rattle.cell_world.specs.declared.operations.JobRow.{JobRow}
use Rattle.cell_world.specs.declared.operations.Phase.TheVariants.{Idle}
use Rattle.cell_world.specs.declared.cells.KeyType.{KeyType}
use Rattle.cell_world.specs.declared.cells.MapKind.TheVariants as kind
use Rattle.cell_world.specs.declared.cells.Status.TheVariants.{Online}
use Rattle.cell_world.specs.declared.cells.Cell.TheVariants as cell
use Rattle.cell_world.specs.declared.changes.Edit.{Edit}
use Rattle.cell_world.specs.declared.changes.Edit.TheVariants.{Put}
use Rattle.cell_world.specs.declared.spans.High.{High}
use Rattle.cell_world.specs.declared.spans.High.TheVariants.{At}
use Rattle.cell_world.specs.declared.spans.Span.TheVariants.{Range}
use Rattle.plain_model.specs.JobSteps.{without_token}

-- ---- the beginning

-- A job may begin that moves the range from `low` up to `high` out of the mapping to the target.
pub record MayBegin (image : Image) (p : Piece) (low : Text) (high : High) (target : Text) : Type 0 where
  -- the mapping stands
  pub stands : HasPiece (global image).mappings p
  -- it is a range
  pub from : Text
  pub to : High
  pub span : p.span ≡ Range from to
  -- of a range map, of whose key type the range to be moved is too
  pub type : KeyType
  pub range_map : HasMap (global image).maps p.map kind.Range type
  pub range : IsTrue (is_span_of kind.Range type (Range low high))
  -- which lies within the mapping
  pub holds_low : IsTrue (contains p.span low)
  pub holds_high : IsTrue (not (end_below to high))
  -- the mapping is online, and has no lock
  pub online : p.status ≡ Online
  pub free : p.token ≡ None
  -- the target is another shard of the map
  pub on_shard : HasShard (global image).shards p.map target
  pub elsewhere : p.location ≢ target
  -- and the job's number is one of 64 bits
  pub number : next_job image < 2 ^ 64

-- the job, with the next job number: its cursor is at the low key, and no batch is under way
abbrev pub begun_job : Image → Piece → Text → High → Text → ℕ → JobRow
begun_job image p low high target batch = record { number = next_job image; map = p.map; low = low; high = high; source = p.location; target = target; batch = batch; cursor = At low; phase = Idle }

-- the mapping, with the job's number as its lock
abbrev pub of_job : Image → Piece → Piece
of_job image p = record p { token = Some (record { 0 = next_job image }) }

-- the mapping is put with its lock, the job is put, and the counter of jobs raised
abbrev pub begin_edits : Image → Piece → Text → High → Text → ℕ → List Edit
begin_edits image p low high target batch = Put (cell.Piece (of_job image p)) ∷ Put (cell.Job (begun_job image p low high target batch)) ∷ Put (cell.Counter (record { operation = next_operation image; job = next_job image + 1 })) ∷ []

abbrev pub begun_image : Image → Piece → Text → High → Text → ℕ → Image
begun_image image p low high target batch = with_store image Global (changed (global image) (begin_edits image p low high target batch))

-- ---- the finish

-- the job's next step is its finish
abbrev pub IsAtFinish : Image → JobRow → Type 0
IsAtFinish image job = table_row (owner_of image) (global image).mappings job ≡ Always Finish

-- the mappings with the job's number as their lock lose it
abbrev pub IsFreed : ℕ → Mappings → Mappings → Type 0
IsFreed number before after = (k : Text × Text) → map.get after k ≡ option_map (without_token number) (map.get before k)

-- these are the mappings, and the job is gone
abbrev pub finished_image : Image → JobRow → Mappings → Image
finished_image image job after = with_store image Global (record (global image) { mappings = after; jobs = map.remove (global image).jobs job.number })
