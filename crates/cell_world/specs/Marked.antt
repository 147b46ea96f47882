-- How far an operation has come, as the cells say it.
use Rattle.std.specs.Prelude.{◌≡◌, ◌≢◌, ℕ, ◌<◌, Bool, true, false, List, ◌++◌, None, IsTrue}
use Rattle.std.specs.List.{AllByRecursion}
use Rattle.std.specs.FinMap as map
use Rattle.cell_world.specs.Texts.{Text}
use Rattle.cell_world.specs.Keys.{overlaps, is_among}
use Rattle.cell_world.specs.Spelled.{listed}
use Rattle.cell_world.specs.Stores.{Store, Log, Locals, Jobs, AwaySites, exchanged}
use Rattle.cell_world.specs.Images.{Image, Global, Shard, global, with_store}
use Rattle.cell_world.specs.Meaning.{is_logged, next_operation}
use Rattle.cell_world.specs.Operations.{locations_of, sites_of}
use Rattle.cell_world.specs.Lawful.{IsAttached}
use Rattle.cell_world.specs.Sound.{HasLog, HasLocal, Matches}
use Rattle.cell_world.specs.declared.operations.Op.{Op}
use Rattle.cell_world.specs.declared.operations.Piece.{Piece}
use Rattle.cell_world.specs.declared.operations.Extra.{Extra}
use Rattle.cell_world.specs.declared.operations.Extra.TheVariants as extra
use Rattle.cell_world.specs.declared.operations.StageName.{StageName}
use Rattle.cell_world.specs.declared.operations.StageName.TheVariants.{Logged, SourceDone, TargetDone, Committed, Settled}
use Rattle.cell_world.specs.declared.cells.LocalRow.{LocalRow}
use Rattle.cell_world.specs.declared.cells.Mark.{Mark}
use Rattle.cell_world.specs.declared.cells.Mark.TheVariants.{Plain, Old, New}

-- ---- marks

abbrev pub IsOld : ℕ → LocalRow → Type 0
IsOld number row = row.mark ≡ Old number

abbrev pub IsNew : ℕ → LocalRow → Type 0
IsNew number row = (row.mark ≡ New) × (row.number ≡ number)

-- the site has a row of the mapping that is marked so
abbrev pub HasMarked : Locals → (LocalRow → Type 0) → Piece → Type 0
HasMarked locals Is p = (row : LocalRow) × HasLocal locals row × Matches row p × Is row

-- the mark is of an operation that is in the log, or there is none
abbrev pub is_mark_of : Log → LocalRow → Mark → Bool
is_mark_of log row Plain = true
is_mark_of log row (Old p) = is_logged log p
is_mark_of log row New = is_logged log row.number

-- the marks of an operation at one of its sites
pub record MarkedAt (log : Log) (op : Op) (location : Text) (locals : Locals) : Type 0 where
  -- each old's row there is Old of it
  pub olds : AllByRecursion (λ old. old.location ≡ location → HasMarked locals (IsOld op.number) old) (listed op.olds)
  -- each new there has its New row of it
  pub news : AllByRecursion (λ new. new.location ≡ location → HasMarked locals (IsNew op.number) new) (listed op.news)
  -- no other mark there that overlaps the hull is of an operation out of the log
  pub others : (row : LocalRow) → HasLocal locals row → row.map ≡ op.map → IsTrue (overlaps row.span op.hull) → IsTrue (is_mark_of log row row.mark)

-- the parts of an image on which it depends how far an operation has come
pub record MarkTables : Type 0 where
  pub locations : List Text  -- those of the world
  pub away : AwaySites  -- the sites that are not attached
  pub log : Log  -- the operations that are not committed
  pub next : ℕ  -- the next operation number
  pub locals_at : Text → Locals  -- by location: the shard's local rows

abbrev pub mark_tables : Image → MarkTables
mark_tables image = record {
  locations = image.locations;
  away = (global image).away;
  log = (global image).log;
  next = next_operation image;
  locals_at = λ location. (image.at (Shard location)).locals;
}

-- so at the sites of these mappings
abbrev pub MarkedAtAll : MarkTables → Op → List Piece → Type 0
MarkedAtAll t op pieces = AllByRecursion (λ p. MarkedAt t.log op p.location (t.locals_at p.location)) pieces

-- ---- stages

-- no row there is Old or New of the operation
abbrev pub HasNoMark : Op → Locals → Type 0
HasNoMark op locals = (row : LocalRow) → HasLocal locals row → (row.mark ≢ Old op.number) × (IsNew op.number row → ⊥)

-- no log row of the operation stands, and its number was given
abbrev pub IsOutOfLog : MarkTables → Op → Type 0
IsOutOfLog t op = (map.get t.log op.number ≡ None) × (op.number < t.next)

abbrev pub MarkedOn : MarkTables → Op → StageName → Type 0
-- its log row is the operation
MarkedOn t op Logged = HasLog t.log op
-- besides, the site of the olds is marked
MarkedOn t op SourceDone = HasLog t.log op × MarkedAtAll t op (listed op.olds)
-- so is the other site of the news
MarkedOn t op TargetDone = HasLog t.log op × MarkedAtAll t op (listed op.olds) × MarkedAtAll t op (listed op.news)
-- it is out of the log
MarkedOn t op Committed = IsOutOfLog t op
-- besides, at each attached site of the operation no row has its mark
MarkedOn t op Settled = IsOutOfLog t op × AllByRecursion (λ location. IsAttached t.locations t.away location → HasNoMark op (t.locals_at location)) (sites_of op)

-- The operation has come to the stage.
abbrev pub Marked : Image → Op → StageName → Type 0
Marked image op stage = MarkedOn (mark_tables image) op stage

-- ---- no marks elsewhere

-- where the operation has an old or a new mapping, so where it has marks; the other site of its job is none of these
abbrev pub marked_sites : Op → List Text
marked_sites op = locations_of (listed op.olds ++ listed op.news)

-- at each attached site but those no row is Old or New of the operation
abbrev pub NoMarksElsewhereOn : MarkTables → Op → Type 0
NoMarksElsewhereOn t op = (location : Text) → IsAttached t.locations t.away location → is_among (marked_sites op) location ≡ false → HasNoMark op (t.locals_at location)

-- It stands beside Committed and Settled, and says of all other sites what these don't: where Settled and this hold, no mark of the operation stands at any attached site.
abbrev pub NoMarksElsewhere : Image → Op → Type 0
NoMarksElsewhere image op = NoMarksElsewhereOn (mark_tables image) op

-- ---- the step to Committed

-- the jobs after an operation: the job that it puts is put (no lawful operation drops one)
abbrev pub jobs_after : Jobs → Extra → Jobs
jobs_after jobs extra.None = jobs
jobs_after jobs (extra.JobPut job) = map.insert jobs job.number job
jobs_after jobs (extra.JobDrop number) = map.remove jobs number

-- The global store as the step to Committed leaves it: the news stand for the olds, the job is put, the log row is gone, and nothing else is changed.
abbrev pub committed : Store → Op → Store
committed before op = record before {
  mappings = exchanged before.mappings (listed op.olds) (listed op.news);
  jobs = jobs_after before.jobs op.extra;
  log = map.remove before.log op.number;
}

-- one global store is the other after that step
abbrev pub IsCommitted : Store → Op → Store → Type 0
IsCommitted before op after = after ≡ committed before op

-- the image after that step: the shards are as they were
abbrev pub committed_image : Image → Op → Image
committed_image image op = with_store image Global (committed (global image) op)
