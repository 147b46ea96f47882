-- The one spelling of each cell: its version byte, its kind byte, and its fields. Numbers are big-endian.
use Rattle.std.specs.Prelude.{◌≡◌, ℕ, List, [], ◌∷◌, ◌++◌, length, Option, Some, None}
use Rattle.std.specs.List.{flat_map}
use Rattle.std.specs.Int.{w16, w32, w64, w128, to_be_bytes}
use Rattle.cell_world.specs.Texts.{Text}
use Rattle.cell_world.specs.Orders.{kind_number}
use Rattle.cell_world.specs.Stores.{own_key}
use Rattle.cell_world.specs.Spelled.{IsCell, listed}
use Rattle.cell_world.specs.declared.spans.High.{High}
use Rattle.cell_world.specs.declared.spans.High.TheVariants.{At, Max}
use Rattle.cell_world.specs.declared.spans.Span.{Span}
use Rattle.cell_world.specs.declared.spans.Span.TheVariants.{Range, Point}
use Rattle.cell_world.specs.declared.cells.KeyType.{KeyType}
use Rattle.cell_world.specs.declared.cells.KeyType.TheVariants as type
use Rattle.cell_world.specs.declared.cells.MapKind.{MapKind}
use Rattle.cell_world.specs.declared.cells.MapKind.TheVariants as kind
use Rattle.cell_world.specs.declared.cells.Status.{Status}
use Rattle.cell_world.specs.declared.cells.Status.TheVariants.{Offline, Online}
use Rattle.cell_world.specs.declared.cells.Token.{Token}
use Rattle.cell_world.specs.declared.cells.Away.{Away}
use Rattle.cell_world.specs.declared.cells.Away.TheVariants as away
use Rattle.cell_world.specs.declared.cells.Mark.{Mark}
use Rattle.cell_world.specs.declared.cells.Mark.TheVariants as mark
use Rattle.cell_world.specs.declared.cells.RowName.{RowName}
use Rattle.cell_world.specs.declared.cells.LocalRow.{LocalRow}
use Rattle.cell_world.specs.declared.cells.Counters.{Counters}
use Rattle.cell_world.specs.declared.operations.Piece.{Piece}
use Rattle.cell_world.specs.declared.operations.Pieces.{Pieces}
use Rattle.cell_world.specs.declared.operations.Phase.{Phase}
use Rattle.cell_world.specs.declared.operations.Phase.TheVariants as phase
use Rattle.cell_world.specs.declared.operations.JobRow.{JobRow}
use Rattle.cell_world.specs.declared.operations.Extra.{Extra}
use Rattle.cell_world.specs.declared.operations.Extra.TheVariants as extra
use Rattle.cell_world.specs.declared.operations.Op.{Op}
use Rattle.cell_world.specs.declared.cells.Cell.{Cell}
use Rattle.cell_world.specs.declared.cells.Cell.TheVariants as cell

-- ---- parts

-- a name, a table, a location or a key: one length byte, and then the bytes
abbrev pub text_bytes : Text → List ℕ
text_bytes text = length text ∷ text

-- a high end: 00 and a key, or 01 where the range is unbounded
abbrev pub end_bytes : High → List ℕ
end_bytes (At key) = 0 ∷ text_bytes key
end_bytes Max = 1 ∷ []

-- a span: 00, the low key and the high end of a range, or 01 and the key of a point
abbrev pub span_bytes : Span → List ℕ
span_bytes (Range low high) = 0 ∷ (text_bytes low ++ end_bytes high)
span_bytes (Point at) = 1 ∷ text_bytes at

abbrev pub status_byte : Status → ℕ
status_byte Offline = 0
status_byte Online = 1

-- a token: 00 where there is none, or 01 and 16 bytes
abbrev pub token_bytes : Option Token → List ℕ
token_bytes None = 0 ∷ []
token_bytes (Some token) = 1 ∷ to_be_bytes w128 token.0

abbrev pub map_kind_byte : MapKind → ℕ
map_kind_byte kind.Range = 1
map_kind_byte kind.List = 2

abbrev pub key_type_byte : KeyType → ℕ
key_type_byte type.Int = 1
key_type_byte type.Long = 2
key_type_byte type.Guid = 3
key_type_byte type.Bytes = 4
key_type_byte type.Datetime = 5
key_type_byte type.Timespan = 6

abbrev pub away_byte : Away → ℕ
away_byte away.Detached = 1
away_byte away.Suspect = 2

-- a mark: 00 Plain, 01 and the operation's number for Old, 02 New
abbrev pub mark_bytes : Mark → List ℕ
mark_bytes mark.Plain = 0 ∷ []
mark_bytes (mark.Old number) = 1 ∷ to_be_bytes w64 number
mark_bytes mark.New = 2 ∷ []

-- a phase: 00 Idle, 01 and the batch's end for Copying, 02 and it for Moved
abbrev pub phase_bytes : Phase → List ℕ
phase_bytes phase.Idle = 0 ∷ []
phase_bytes (phase.Copying end) = 1 ∷ end_bytes end
phase_bytes (phase.Moved end) = 2 ∷ end_bytes end

-- a mapping; its map stands before it in the cell
abbrev pub piece_bytes : Piece → List ℕ
piece_bytes piece = span_bytes piece.span ++ (status_byte piece.status ∷ (text_bytes piece.location ++ token_bytes piece.token))

-- at most two mappings: their number in one byte, and then they
abbrev pub pieces_bytes : Pieces → List ℕ
pieces_bytes pieces = length (listed pieces) ∷ flat_map piece_bytes (listed pieces)

-- a job
abbrev pub job_bytes : JobRow → List ℕ
job_bytes job =
    to_be_bytes w32 job.number
    ++ (text_bytes job.map
    ++ (text_bytes job.low
    ++ (end_bytes job.high
    ++ (text_bytes job.source
    ++ (text_bytes job.target
    ++ (to_be_bytes w32 job.batch
    ++ (end_bytes job.cursor ++ phase_bytes job.phase)))))))

-- what an operation does to a job: 00 nothing, 01 and the job that it puts, 02 and the number of the job that it drops
abbrev pub extra_bytes : Extra → List ℕ
extra_bytes extra.None = 0 ∷ []
extra_bytes (extra.JobPut job) = 1 ∷ job_bytes job
extra_bytes (extra.JobDrop number) = 2 ∷ to_be_bytes w32 number

-- an operation; the map of its mappings is its own
abbrev pub op_bytes : Op → List ℕ
op_bytes op = to_be_bytes w64 op.number ++ (text_bytes op.map ++ (span_bytes op.hull ++ (pieces_bytes op.olds ++ (pieces_bytes op.news ++ extra_bytes op.extra))))

abbrev pub counters_bytes : Counters → List ℕ
counters_bytes counters = to_be_bytes w64 counters.operation ++ to_be_bytes w32 counters.job

abbrev pub local_bytes : LocalRow → List ℕ
local_bytes row = text_bytes row.map ++ (span_bytes row.span ++ (to_be_bytes w64 row.number ++ (status_byte row.status ∷ mark_bytes row.mark)))

abbrev pub row_name_bytes : RowName → List ℕ
row_name_bytes row = text_bytes row.map ++ (text_bytes row.key ++ (text_bytes row.table ++ to_be_bytes w64 row.number))

-- the value of a row: its length in two bytes, and then its bytes
abbrev pub row_value_bytes : Text → List ℕ
row_value_bytes bytes = to_be_bytes w16 (length bytes) ++ bytes

-- ---- cells

-- the fields of each kind, in their order
abbrev pub fields : Cell → List ℕ
fields (cell.Map name kind type) = text_bytes name ++ (map_kind_byte kind ∷ key_type_byte type ∷ [])
fields (cell.Shard name location) = text_bytes name ++ text_bytes location
fields (cell.Table name table) = text_bytes name ++ text_bytes table
fields (cell.Piece piece) = text_bytes piece.map ++ piece_bytes piece
fields (cell.Log op) = op_bytes op
fields (cell.Job job) = job_bytes job
fields (cell.Counter counters) = counters_bytes counters
fields (cell.SiteState location state) = text_bytes location ++ (away_byte state ∷ [])
fields (cell.Local row) = local_bytes row
fields (cell.Row name bytes) = row_name_bytes name ++ row_value_bytes bytes

-- the kind byte is the kind's number, and the version byte is 01
abbrev pub spelling : Cell → List ℕ
spelling c = 1 ∷ kind_number (own_key c) ∷ fields c

-- The bytes spell a cell.
abbrev pub IsSpelling : List ℕ → Type 0
IsSpelling bytes = (c : Cell) × IsCell c × (bytes ≡ spelling c)
