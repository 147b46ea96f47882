-- Which values are cells.
use Rattle.std.specs.Prelude.{◌<◌, ◌^◌, Bool, true, ◌&&◌, ◌||◌, List, [], ◌∷◌, ◌++◌, IfSome, IsTrue, is_some, is_none, option_to_list}
use Rattle.std.specs.List.{list_all}
use Rattle.cell_world.specs.Texts.{is_name, is_location, is_key_form, is_row_value}
use Rattle.cell_world.specs.Keys.{same}
use Rattle.cell_world.specs.declared.spans.High.{High}
use Rattle.cell_world.specs.declared.spans.High.TheVariants.{At, Max}
use Rattle.cell_world.specs.declared.spans.Span.{Span}
use Rattle.cell_world.specs.declared.spans.Span.TheVariants.{Range, Point}
use Rattle.cell_world.specs.declared.cells.Token.{Token}
use Rattle.cell_world.specs.declared.cells.Mark.{Mark}
use Rattle.cell_world.specs.declared.cells.Mark.TheVariants as mark
use Rattle.cell_world.specs.declared.cells.LocalRow.{LocalRow}
use Rattle.cell_world.specs.declared.cells.RowName.{RowName}
use Rattle.cell_world.specs.declared.cells.Counters.{Counters}
use Rattle.cell_world.specs.declared.operations.Piece.{Piece}
use Rattle.cell_world.specs.declared.operations.Pieces.{Pieces}
use Rattle.cell_world.specs.declared.operations.Phase.{Phase}
use Rattle.cell_world.specs.declared.operations.Phase.TheVariants as phase
use Rattle.cell_world.specs.declared.operations.JobRow.{JobRow}
use Rattle.cell_world.specs.declared.operations.Extra.{Extra}
use Rattle.cell_world.specs.declared.operations.Extra.TheVariants as extra
use Rattle.cell_world.specs.declared.operations.Op.{Op}
use Rattle.cell_world.specs.declared.cells.Cell.{Cell}
use Rattle.cell_world.specs.declared.cells.Cell.TheVariants as cell
use Rattle.cell_world.specs.declared.cells.CellKey.{CellKey}
use Rattle.cell_world.specs.declared.cells.CellKey.TheVariants as at
use Rattle.cell_world.specs.declared.changes.Edit.{Edit}
use Rattle.cell_world.specs.declared.changes.Edit.TheVariants.{Put, Delete}

-- ---- what the types of the program don't keep by themselves

-- the pieces in order
abbrev pub listed : Pieces → List Piece
listed pieces = option_to_list pieces.one ++ option_to_list pieces.two

-- a second piece stands only beside a first
abbrev pub has_first : Pieces → Bool
has_first pieces = is_some pieces.one || is_none pieces.two

-- The cell has a spelling: the layout of a log cell has one map for the operation and its pieces, and counts the pieces.
abbrev pub is_spelled : Cell → Bool
is_spelled (cell.Log op) = (has_first op.olds && has_first op.news) && list_all (λ (p : Piece). same op.map p.map) (listed op.olds ++ listed op.news)
is_spelled other = true

-- ---- what the types of the program keep: each text in its grammar, each number in its width

abbrev pub IsEnd : High → Type 0
IsEnd (At key) = IsTrue (is_key_form key)
IsEnd Max = Unit {0}

abbrev pub IsSpan : Span → Type 0
IsSpan (Range low high) = IsTrue (is_key_form low) × IsEnd high
IsSpan (Point at) = IsTrue (is_key_form at)

abbrev pub IsToken : Token → Type 0
IsToken token = token.0 < 2 ^ 128

-- a mapping's map, span, location and token
pub record IsPiece (p : Piece) : Type 0 where
  pub map : IsTrue (is_name p.map)
  pub span : IsSpan p.span
  pub location : IsTrue (is_location p.location)
  pub token : IfSome p.token IsToken

abbrev pub ArePieces : Pieces → Type 0
ArePieces pieces = IfSome pieces.one IsPiece × IfSome pieces.two IsPiece

abbrev pub IsPhase : Phase → Type 0
IsPhase phase.Idle = Unit {0}
IsPhase (phase.Copying end) = IsEnd end
IsPhase (phase.Moved end) = IsEnd end

-- a job's number, map, range, sites, batch, cursor and phase
pub record IsJob (job : JobRow) : Type 0 where
  pub number : job.number < 2 ^ 32
  pub map : IsTrue (is_name job.map)
  pub low : IsTrue (is_key_form job.low)
  pub high : IsEnd job.high
  pub source : IsTrue (is_location job.source)
  pub target : IsTrue (is_location job.target)
  pub batch : job.batch < 2 ^ 32
  pub cursor : IsEnd job.cursor
  pub phase : IsPhase job.phase

abbrev pub IsExtra : Extra → Type 0
IsExtra extra.None = Unit {0}
IsExtra (extra.JobPut job) = IsJob job
IsExtra (extra.JobDrop number) = number < 2 ^ 32

-- an operation's number, map, hull, mappings and job
pub record IsOp (op : Op) : Type 0 where
  pub number : op.number < 2 ^ 64
  pub map : IsTrue (is_name op.map)
  pub hull : IsSpan op.hull
  pub olds : ArePieces op.olds
  pub news : ArePieces op.news
  pub extra : IsExtra op.extra

abbrev pub IsMarkValue : Mark → Type 0
IsMarkValue mark.Plain = Unit {0}
IsMarkValue (mark.Old number) = number < 2 ^ 64
IsMarkValue mark.New = Unit {0}

-- a local row's map, span, number and mark
pub record IsLocalRow (row : LocalRow) : Type 0 where
  pub map : IsTrue (is_name row.map)
  pub span : IsSpan row.span
  pub number : row.number < 2 ^ 64
  pub mark : IsMarkValue row.mark

pub record AreCounters (counters : Counters) : Type 0 where
  pub operation : counters.operation < 2 ^ 64
  pub job : counters.job < 2 ^ 32

-- a row's map, key, table and number
pub record IsRowName (row : RowName) : Type 0 where
  pub map : IsTrue (is_name row.map)
  pub key : IsTrue (is_key_form row.key)
  pub table : IsTrue (is_name row.table)
  pub number : row.number < 2 ^ 64

-- The value is one of the program's type `Cell`.
abbrev pub IsTyped : Cell → Type 0
IsTyped (cell.Map name kind type) = IsTrue (is_name name)
IsTyped (cell.Shard name location) = IsTrue (is_name name) × IsTrue (is_location location)
IsTyped (cell.Table name table) = IsTrue (is_name name) × IsTrue (is_name table)
IsTyped (cell.Piece piece) = IsPiece piece
IsTyped (cell.Log op) = IsOp op
IsTyped (cell.Job job) = IsJob job
IsTyped (cell.Counter counters) = AreCounters counters
IsTyped (cell.SiteState location state) = IsTrue (is_location location)
IsTyped (cell.Local row) = IsLocalRow row
IsTyped (cell.Row row bytes) = IsRowName row × IsTrue (is_row_value bytes)

-- The value is a cell that can be spelled.
pub record IsCell (c : Cell) : Type 0 where
  pub typed : IsTyped c  -- by the program's types
  pub spelled : IsTrue (is_spelled c)  -- and by what they don't keep

-- The value is one of the program's type `CellKey`.
abbrev pub IsTypedKey : CellKey → Type 0
IsTypedKey (at.Map name) = IsTrue (is_name name)
IsTypedKey (at.Shard name location) = IsTrue (is_name name) × IsTrue (is_location location)
IsTypedKey (at.Table name table) = IsTrue (is_name name) × IsTrue (is_name table)
IsTypedKey (at.Piece name low) = IsTrue (is_name name) × IsTrue (is_key_form low)
IsTypedKey (at.Log number) = number < 2 ^ 64
IsTypedKey (at.Job number) = number < 2 ^ 32
IsTypedKey at.Counter = Unit {0}
IsTypedKey (at.SiteState location) = IsTrue (is_location location)
IsTypedKey (at.Local name low number) = IsTrue (is_name name) × IsTrue (is_key_form low) × (number < 2 ^ 64)
IsTypedKey (at.Row row) = IsRowName row

-- ---- what a change keeps

-- A cell is put, or a key of the program's type is cleared.
abbrev pub IsEdit : Edit → Type 0
IsEdit (Put c) = IsCell c
IsEdit (Delete key) = IsTypedKey key

abbrev pub AreEdits : List Edit → Type 0
AreEdits [] = Unit {0}
AreEdits (edit ∷ edits) = IsEdit edit × AreEdits edits
