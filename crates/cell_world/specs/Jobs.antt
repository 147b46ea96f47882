-- The table of a job: its next step, and where its next batch ends.
use Rattle.std.specs.Prelude.{◌≡◌, ℕ, Bool, false, ◌&&◌, not, List, [], ◌∷◌, Option, Some, None, option_and_then, option_map, if◌then◌else◌, find, slice_get, IsTrue}
use Rattle.std.specs.FinMap as map
use Rattle.cell_world.specs.Texts.{Text}
use Rattle.cell_world.specs.Keys.{same, below, before, same_end, end_below, lesser_end, low_of, end_of, contains}
use Rattle.cell_world.specs.Stores.{Mappings, Rows}
use Rattle.cell_world.specs.Plain.{Owner, PlainState, owner}
use Rattle.cell_world.specs.declared.operations.Piece.{Piece}
use Rattle.cell_world.specs.declared.operations.JobRow.{JobRow}
use Rattle.cell_world.specs.declared.operations.Extra.{Extra}
use Rattle.cell_world.specs.declared.operations.Extra.TheVariants as extra
use Rattle.cell_world.specs.declared.operations.Phase.{Phase}
use Rattle.cell_world.specs.declared.operations.Phase.TheVariants.{Idle, Copying, Moved}
use Rattle.cell_world.specs.declared.cells.Status.TheVariants.{Online, Offline}
use Rattle.cell_world.specs.declared.spans.High.{High}
use Rattle.cell_world.specs.declared.spans.High.TheVariants.{At, Max}
use Rattle.cell_world.specs.declared.spans.Span.{Span}
use Rattle.cell_world.specs.declared.spans.Span.TheVariants.{Range, Point}
use Rattle.cell_world.specs.declared.cells.RowName.{RowName}

-- ---- steps

pub data Step : Type 0 where
  -- The news replace the olds, and this is done to the job.
  Replace : (olds news : List Piece) (put : Extra) → Step
  -- The job's mappings lose its token, and its cell is deleted.
  Finish : Step
  -- The stores aren't sound: a mapping that must be there isn't.
  Stuck : Step

-- what a row of the table gives
pub data TableRow : Type 0 where
  Always : (step : Step) → TableRow
  -- The step depends on where the batch ends.
  UpTo : (step : High → Step) → TableRow

abbrev pub with_end : TableRow → High → Step
with_end (Always step) end = step
with_end (UpTo step) end = step end

abbrev pub or_stuck : Option TableRow → TableRow
or_stuck None = Always Stuck
or_stuck (Some row) = row

-- ---- the steps that a row can be

abbrev pub part_of : Piece → Text → High → Piece
part_of piece low high = record piece { span = Range low high }

abbrev pub split_in : Piece → Text → Span → Step
split_in piece key (Range low high) = Replace (piece ∷ []) (part_of piece low (At key) ∷ part_of piece key high ∷ []) extra.None
split_in piece key (Point at) = Stuck

abbrev pub split_at : Piece → Text → Step
split_at piece key = split_in piece key piece.span

abbrev pub merge_in : Piece → Piece → Span → Span → Step
merge_in low high (Range from middle) (Range key to) = Replace (low ∷ high ∷ []) (part_of low from to ∷ []) extra.None
merge_in low high (Range from middle) (Point at) = Stuck
merge_in low high (Point at) other = Stuck

abbrev pub merge_of : Piece → Piece → Step
merge_of low high = merge_in low high low.span high.span

abbrev pub offline_of : JobRow → Piece → High → Step
offline_of job piece end = Replace (piece ∷ []) (record piece { status = Offline } ∷ []) (extra.JobPut (record job { phase = Copying end }))

abbrev pub move_of : JobRow → Piece → High → Step
move_of job piece end = Replace (piece ∷ []) (record piece { location = job.target } ∷ []) (extra.JobPut (record job { phase = Moved end }))

abbrev pub online_of : JobRow → Piece → High → Step
online_of job piece end = Replace (piece ∷ []) (record piece { status = Online } ∷ []) (extra.JobPut (record job { phase = Idle; cursor = end }))

-- ---- the table
--
-- The nine rows, of which the first that holds is taken. lo and hi are the ends of the job's range, e is the end of the batch.
--
--   phase       case                                                          step                                                           given as
--   Idle        a mapping ends at the cursor, and its low key is above lo     merge it with the mapping before it                            Always (merge_of earlier piece)
--   Idle        the cursor is hi                                              finish                                                         Always Finish
--   Idle        the mapping that contains the cursor begins below it          split it at the cursor                                         Always (split_at piece cursor)
--   Idle        e is below that mapping's high end                            split it at e                                                  UpTo: split_at piece e
--   Idle        else                                                          offline of [cursor, e); puts phase Copying(e)                  UpTo: offline_of job piece e
--   Copying(e)  a row of [cursor, e) at the source isn't at the target        copy the first 64 such rows in cell order, or all if fewer     not here: no operation
--   Copying(e)  else                                                          move of [cursor, e) to the target; puts phase Moved(e)         Always (move_of job piece e)
--   Moved(e)    a row of [cursor, e) is at the source                         delete the first 64 such rows in cell order, or all if fewer   not here: no operation
--   Moved(e)    else                                                          online of [cursor, e); puts phase Idle and the cursor e        Always (online_of job piece e)
--
-- Copies and deletions of rows are one transaction each at one shard, without a log row, and leave the phase. So the rows of the table here are the other seven:
-- that an online comes only after the deletions is asked of a lawful step, and that a move comes only after the copies follows from the shape of a move.

abbrev pub ends_at : High → Span → Bool
ends_at end (Range low high) = same_end end high
ends_at end (Point at) = false

-- the mapping of the map that ends there
abbrev pub ending_at : Mappings → Text → High → Option Piece
ending_at mappings name end = find (λ p. same name p.map && ends_at end p.span) (map.values mappings)

-- A mapping ends at the cursor, and its low key is greater than the job's: it is merged with the mapping before it.
abbrev pub merge_due : Mappings → JobRow → Option TableRow
merge_due mappings job = option_and_then (λ piece. if below job.low (low_of piece.span) then Some (or_stuck (with_earlier piece)) else None) (ending_at mappings job.map job.cursor)
  where
    with_earlier : Piece → Option TableRow
    with_earlier piece = option_map (λ earlier. Always (merge_of earlier piece)) (ending_at mappings job.map (At (low_of piece.span)))

-- The batch ends below the mapping's high end: split there. Else the mapping is the batch: take it offline.
abbrev pub batch_in : JobRow → Piece → High → Span → High → Step
batch_in job piece end (Range low high) (At key) = if before key high then split_at piece key else offline_of job piece end
batch_in job piece end (Range low high) Max = offline_of job piece end
batch_in job piece end (Point at) other = Stuck

abbrev pub batch_row : JobRow → Piece → High → Step
batch_row job piece end = batch_in job piece end piece.span end

-- at the mapping that contains the cursor: it begins below it, so it is split there, or the batch begins with it
abbrev pub at_cursor : JobRow → Text → Piece → TableRow
at_cursor job key piece = if below (low_of piece.span) key then Always (split_at piece key) else UpTo (batch_row job piece)

-- the mapping that contains the cursor, which is a key in every phase but at the unbounded end
abbrev pub piece_at_end : Owner → Text → High → Option Piece
piece_at_end own name (At key) = own name key
piece_at_end own name Max = None

abbrev pub cursor_piece : Owner → JobRow → Option Piece
cursor_piece own job = piece_at_end own job.map job.cursor

abbrev pub row_at_end : Owner → JobRow → High → Option TableRow
row_at_end own job (At key) = option_map (at_cursor job key) (own job.map key)
row_at_end own job Max = None

abbrev pub cursor_row : Owner → JobRow → TableRow
cursor_row own job = or_stuck (row_at_end own job job.cursor)

abbrev pub idle_row : Owner → JobRow → Option TableRow → TableRow
idle_row own job (Some merge) = merge
idle_row own job None = if same_end job.cursor job.high then Always Finish else cursor_row own job

-- The table, by the phase.
abbrev pub phase_row : Owner → Mappings → JobRow → Phase → TableRow
phase_row own mappings job Idle = idle_row own job (merge_due mappings job)
phase_row own mappings job (Copying end) = or_stuck (option_map (λ piece. Always (move_of job piece end)) (cursor_piece own job))
phase_row own mappings job (Moved end) = or_stuck (option_map (λ piece. Always (online_of job piece end)) (cursor_piece own job))

abbrev pub table_row : Owner → Mappings → JobRow → TableRow
table_row own mappings job = phase_row own mappings job job.phase

-- ---- the batch end

-- the keys of the map's rows from the cursor up to an end, in row order, a key once for each of its rows
abbrev pub keys_between : Rows → Text → Text → High → List Text
keys_between rows name low high = keys_of (map.keys rows)
  where
    keys_of : List RowName → List Text
    keys_of [] = []
    keys_of (row ∷ more) = if same name row.map && contains (Range low high) row.key then row.key ∷ keys_of more else keys_of more

-- the first key that is greater than this one, or the end
abbrev pub next_above : Text → List Text → High → High
next_above key [] end = end
next_above key (k ∷ ks) end = if below key k then At k else next_above key ks end

-- Where a batch ends whose rows have these keys: at the end where there are at most `batch` of them. Else at the key of row number batch + 1,
-- where that is greater than the first key; else at the next key that is.
abbrev pub end_of_batch : ℕ → List Text → High → High
end_of_batch batch [] high = high
end_of_batch batch (first ∷ keys) high = at_row (slice_get (first ∷ keys) batch)
  where
    at_row : Option Text → High
    at_row None = high
    at_row (Some key) = if below first key then At key else next_above first keys high

-- the lesser of the job's end and the high end of the mapping that contains the cursor
abbrev pub limited_by : High → Option High → High
limited_by end None = end
limited_by end (Some high) = lesser_end end high

abbrev pub batch_limit : JobRow → Piece → High
batch_limit job piece = limited_by job.high (end_of piece.span)

-- Where the batch from the cursor on ends. At the end of the range, or where nobody owns the cursor, it is the job's end, which no row of the table reads then.
abbrev pub batch_end : Owner → Rows → JobRow → High
batch_end own rows job = at job.cursor
  where
    from : Text → Option Piece → High
    from key None = job.high
    from key (Some piece) = end_of_batch job.batch (keys_between rows job.map key (batch_limit job piece)) (batch_limit job piece)

    at : High → High
    at (At key) = from key (own job.map key)
    at Max = job.high

-- The next step of a job, read on the plain state.
abbrev pub job_step : PlainState → JobRow → Step
job_step s job = with_end (table_row (owner s) s.mappings job) (batch_end (owner s) s.rows job)

-- ---- steps to another end

-- An end that a batch may have.
pub record IsBatchEnd (own : Owner) (job : JobRow) (end : High) : Type 0 where
  -- it is above the cursor
  pub above : IsTrue (end_below job.cursor end)
  -- and at most the lesser of the job's end and the high end of the mapping that contains the cursor
  pub piece : Piece
  pub owned : cursor_piece own job ≡ Some piece
  pub within : IsTrue (not (end_below (batch_limit job piece) end))

-- The row gives the step, for some end of the batch where it depends on one.
abbrev pub Gives : (High → Type 0) → TableRow → Step → Type 0
Gives MayEnd (Always step) wanted = step ≡ wanted
Gives MayEnd (UpTo step) wanted = (end : High) × MayEnd end × (step end ≡ wanted)
