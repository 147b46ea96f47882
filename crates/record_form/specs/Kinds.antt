-- How mappings, operations, jobs, rows and cells are read.
use Rattle.std.specs.Prelude.{ℕ, List, Option, Some, None, ◌==◌, if◌then◌else◌}
use Rattle.std.specs.Int.{w32, w64}
use Rattle.cell_world.specs.Texts.{Text}
use Rattle.cell_world.specs.declared.spans.High.{High}
use Rattle.cell_world.specs.declared.spans.Span.{Span}
use Rattle.cell_world.specs.declared.cells.KeyType.{KeyType}
use Rattle.cell_world.specs.declared.cells.MapKind.{MapKind}
use Rattle.cell_world.specs.declared.cells.Status.{Status}
use Rattle.cell_world.specs.declared.cells.Token.{Token}
use Rattle.cell_world.specs.declared.cells.Away.{Away}
use Rattle.cell_world.specs.declared.cells.Mark.{Mark}
use Rattle.cell_world.specs.declared.cells.LocalRow.{LocalRow}
use Rattle.cell_world.specs.declared.cells.RowName.{RowName}
use Rattle.cell_world.specs.declared.operations.Piece.{Piece}
use Rattle.cell_world.specs.declared.operations.Pieces.{Pieces}
use Rattle.cell_world.specs.declared.operations.Phase.{Phase}
use Rattle.cell_world.specs.declared.operations.Phase.TheVariants as phase
use Rattle.cell_world.specs.declared.operations.JobRow.{JobRow}
use Rattle.cell_world.specs.declared.operations.Extra.{Extra}
use Rattle.cell_world.specs.declared.operations.Extra.TheVariants as extra
use Rattle.cell_world.specs.declared.operations.Op.{Op}
use Rattle.cell_world.specs.declared.cells.Cell.{Cell}
use Rattle.cell_world.specs.declared.cells.Cell.TheVariants as cell
use Rattle.record_form.specs.Reading.{Read, nothing_at, is_from, byte_at, number_at, both, pair, made, tagged}
use Rattle.record_form.specs.Fields.{name_at, location_at, key_at, row_value_at, end_at, span_at, status_at, map_kind_at, key_type_at, away_at, token_at, mark_at}
use Rattle.record_form.specs.declared.jobs.JobCourse.{JobCourse}
use Rattle.record_form.specs.declared.pieces.Exchange.{Exchange}

-- ---- mappings of one map

abbrev pub piece_of : Text → Span × (Status × (Text × Option Token)) → Piece
piece_of map p = record { map = map; span = p.0; location = p.1.1.0; status = p.1.0; token = p.1.1.1 }

unfoldable pub piece_at : Text → List ℕ → Read Piece
piece_at map = made (piece_of map) (pair span_at (pair status_at (pair location_at token_at)))

abbrev pub no_piece : Pieces
no_piece = record { one = None; two = None }

abbrev pub one_piece : Piece → Pieces
one_piece p = record { one = Some p; two = None }

abbrev pub two_pieces : Piece × Piece → Pieces
two_pieces p = record { one = Some p.0; two = Some p.1 }

abbrev pub pieces_body_at : Text → ℕ → List ℕ → Read Pieces
pieces_body_at map tag = if tag == 0 then made (λ _. no_piece) nothing_at else if tag == 1 then made one_piece (piece_at map) else made two_pieces (pair (piece_at map) (piece_at map))

unfoldable pub pieces_at : Text → List ℕ → Read Pieces
pieces_at map = tagged (is_from 0 2) (pieces_body_at map)

-- ---- jobs

abbrev pub phase_body_at : ℕ → List ℕ → Read Phase
phase_body_at tag = if tag == 0 then made (λ _. phase.Idle) nothing_at else if tag == 1 then made phase.Copying end_at else made phase.Moved end_at

unfoldable pub phase_at : List ℕ → Read Phase
phase_at = tagged (is_from 0 2) phase_body_at

abbrev pub course_of : Text × (Text × (ℕ × (High × Phase))) → JobCourse
course_of p = record { source = p.0; target = p.1.0; batch = p.1.1.0; cursor = p.1.1.1.0; phase = p.1.1.1.1 }

unfoldable pub course_at : List ℕ → Read JobCourse
course_at = made course_of (pair location_at (pair location_at (pair (number_at w32) (pair end_at phase_at))))

abbrev pub job_of : ℕ × (Text × (Text × (High × JobCourse))) → JobRow
job_of p = record { number = p.0; map = p.1.0; low = p.1.1.0; high = p.1.1.1.0; source = p.1.1.1.1.source; target = p.1.1.1.1.target; batch = p.1.1.1.1.batch; cursor = p.1.1.1.1.cursor; phase = p.1.1.1.1.phase }

unfoldable pub job_at : List ℕ → Read JobRow
job_at = made job_of (pair (number_at w32) (pair name_at (pair key_at (pair end_at course_at))))

abbrev pub extra_body_at : ℕ → List ℕ → Read Extra
extra_body_at tag = if tag == 0 then made (λ _. extra.None) nothing_at else if tag == 1 then made extra.JobPut job_at else made extra.JobDrop (number_at w32)

unfoldable pub extra_at : List ℕ → Read Extra
extra_at = tagged (is_from 0 2) extra_body_at

-- ---- operations

abbrev pub exchange_of : Pieces × (Pieces × Extra) → Exchange
exchange_of p = record { olds = p.0; news = p.1.0; extra = p.1.1 }

unfoldable pub exchange_at : Text → List ℕ → Read Exchange
exchange_at map = made exchange_of (pair (pieces_at map) (pair (pieces_at map) extra_at))

abbrev pub op_of : ℕ × (Text × (Span × Exchange)) → Op
op_of p = record { number = p.0; map = p.1.0; hull = p.1.1.0; olds = p.1.1.1.olds; news = p.1.1.1.news; extra = p.1.1.1.extra }

unfoldable pub op_at : List ℕ → Read Op
op_at = made op_of (pair (number_at w64) (both name_at (λ map. pair span_at (exchange_at map))))

-- ---- rows

abbrev pub local_of : Text × (Span × (ℕ × (Status × Mark))) → LocalRow
local_of p = record { map = p.0; span = p.1.0; number = p.1.1.0; status = p.1.1.1.0; mark = p.1.1.1.1 }

unfoldable pub local_at : List ℕ → Read LocalRow
local_at = made local_of (pair name_at (pair span_at (pair (number_at w64) (pair status_at mark_at))))

abbrev pub row_name_of : Text × (Text × (Text × ℕ)) → RowName
row_name_of p = record { map = p.0; key = p.1.0; table = p.1.1.0; number = p.1.1.1 }

unfoldable pub row_name_at : List ℕ → Read RowName
row_name_at = made row_name_of (pair name_at (pair key_at (pair name_at (number_at w64))))

-- ---- cells

abbrev pub map_cell_of : Text × (MapKind × KeyType) → Cell
map_cell_of p = cell.Map p.0 p.1.0 p.1.1

unfoldable pub map_cell_at : List ℕ → Read Cell
map_cell_at = made map_cell_of (pair name_at (pair map_kind_at key_type_at))

abbrev pub shard_cell_of : Text × Text → Cell
shard_cell_of p = cell.Shard p.0 p.1

unfoldable pub shard_cell_at : List ℕ → Read Cell
shard_cell_at = made shard_cell_of (pair name_at location_at)

abbrev pub table_cell_of : Text × Text → Cell
table_cell_of p = cell.Table p.0 p.1

unfoldable pub table_cell_at : List ℕ → Read Cell
table_cell_at = made table_cell_of (pair name_at name_at)

abbrev pub piece_cell_of : Text × Piece → Cell
piece_cell_of p = cell.Piece p.1

unfoldable pub piece_cell_at : List ℕ → Read Cell
piece_cell_at = made piece_cell_of (both name_at piece_at)

abbrev pub counter_cell_of : ℕ × ℕ → Cell
counter_cell_of p = cell.Counter (record { operation = p.0; job = p.1 })

unfoldable pub counter_cell_at : List ℕ → Read Cell
counter_cell_at = made counter_cell_of (pair (number_at w64) (number_at w32))

abbrev pub site_state_cell_of : Text × Away → Cell
site_state_cell_of p = cell.SiteState p.0 p.1

unfoldable pub site_state_cell_at : List ℕ → Read Cell
site_state_cell_at = made site_state_cell_of (pair location_at away_at)

abbrev pub row_cell_of : RowName × Text → Cell
row_cell_of p = cell.Row p.0 p.1

unfoldable pub row_cell_at : List ℕ → Read Cell
row_cell_at = made row_cell_of (pair row_name_at row_value_at)

-- the fields of a cell of this kind
abbrev pub fields_at : ℕ → List ℕ → Read Cell
fields_at kind =
    if kind == 1 then map_cell_at
    else if kind == 2 then shard_cell_at
    else if kind == 3 then table_cell_at
    else if kind == 4 then piece_cell_at
    else if kind == 5 then made cell.Log op_at
    else if kind == 6 then made cell.Job job_at
    else if kind == 7 then counter_cell_at
    else if kind == 8 then site_state_cell_at
    else if kind == 10 then row_cell_at
    else made cell.Local local_at

-- the version byte, the kind byte and the fields
abbrev pub cell_of : ℕ × Cell → Cell
cell_of p = p.1

unfoldable pub cell_at : List ℕ → Read Cell
cell_at = made cell_of (pair (byte_at (is_from 1 1)) (tagged (is_from 1 10) fields_at))
