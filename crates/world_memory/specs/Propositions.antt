-- That a change is one is a proposition.
use Rattle.std.specs.Prelude.{ℕ, ◌<◌, Bool, true, Option, Some, None, IfSome, IsTrue, List, [], ◌∷◌}
use Rattle.std.proofs.Math.Bool.{Bool-set}
use Rattle.std.proofs.Math.Bridge.{le_prop}
use Rattle.cell_world.specs.Spelled.{IsEnd, IsSpan, IsToken, IsPiece, ArePieces, IsPhase, IsJob, IsExtra, IsOp, IsMarkValue, IsLocalRow, AreCounters, IsRowName, IsTyped, IsCell, IsTypedKey, IsEdit, AreEdits}
use Rattle.cell_world.specs.declared.spans.High.{High}
use Rattle.cell_world.specs.declared.spans.High.TheVariants.{At, Max}
use Rattle.cell_world.specs.declared.spans.Span.{Span}
use Rattle.cell_world.specs.declared.spans.Span.TheVariants.{Range, Point}
use Rattle.cell_world.specs.declared.cells.Mark.{Mark}
use Rattle.cell_world.specs.declared.cells.Mark.TheVariants as mark
use Rattle.cell_world.specs.declared.cells.Token.{Token}
use Rattle.cell_world.specs.declared.operations.Piece.{Piece}
use Rattle.cell_world.specs.declared.operations.Pieces.{Pieces}
use Rattle.cell_world.specs.declared.operations.Phase.{Phase}
use Rattle.cell_world.specs.declared.operations.Phase.TheVariants as phase
use Rattle.cell_world.specs.declared.operations.JobRow.{JobRow}
use Rattle.cell_world.specs.declared.operations.Extra.{Extra}
use Rattle.cell_world.specs.declared.operations.Extra.TheVariants as extra
use Rattle.cell_world.specs.declared.operations.Op.{Op}
use Rattle.cell_world.specs.declared.cells.LocalRow.{LocalRow}
use Rattle.cell_world.specs.declared.cells.Counters.{Counters}
use Rattle.cell_world.specs.declared.cells.RowName.{RowName}
use Rattle.cell_world.specs.declared.cells.Cell.{Cell}
use Rattle.cell_world.specs.declared.cells.Cell.TheVariants as cell
use Rattle.cell_world.specs.declared.cells.CellKey.{CellKey}
use Rattle.cell_world.specs.declared.cells.CellKey.TheVariants as at
use Rattle.cell_world.specs.declared.changes.Edit.{Edit}
use Rattle.cell_world.specs.declared.changes.Edit.TheVariants.{Put, Delete}

-- ---- facts that have at most one proof

pub holds : (b : Bool) → IsProp (IsTrue b)
holds b = Bool-set b true

less : (n m : ℕ) → IsProp (n < m)
less n m = le_prop

none : IsProp (Unit {0})
none = λ a b i. a

both : {A B : Type 0} → IsProp A → IsProp B → IsProp (A × B)
both f g = λ a b i. (f a.0 b.0 i, g a.1 b.1 i)

-- ---- values of the program's types

end : (h : High) → IsProp (IsEnd h)
end (At key) = holds _
end Max = none

span : (s : Span) → IsProp (IsSpan s)
span (Range low high) = both (holds _) (end high)
span (Point key) = holds _

token : (t : Option Token) → IsProp (IfSome t IsToken)
token None = none
token (Some t) = less _ _

piece : (p : Piece) → IsProp (IsPiece p)
piece p = λ a b i. record { map = holds _ a.map b.map i; span = span p.span a.span b.span i; location = holds _ a.location b.location i; token = token p.token a.token b.token i }

one_piece : (p : Option Piece) → IsProp (IfSome p IsPiece)
one_piece None = none
one_piece (Some p) = piece p

pieces : (p : Pieces) → IsProp (ArePieces p)
pieces p = both (one_piece p.one) (one_piece p.two)

some_phase : (p : Phase) → IsProp (IsPhase p)
some_phase phase.Idle = none
some_phase (phase.Copying h) = end h
some_phase (phase.Moved h) = end h

job : (j : JobRow) → IsProp (IsJob j)
job j = λ a b i. record {
  number = less _ _ a.number b.number i;
  map = holds _ a.map b.map i;
  low = holds _ a.low b.low i;
  high = end j.high a.high b.high i;
  source = holds _ a.source b.source i;
  target = holds _ a.target b.target i;
  batch = less _ _ a.batch b.batch i;
  cursor = end j.cursor a.cursor b.cursor i;
  phase = some_phase j.phase a.phase b.phase i;
}

some_extra : (x : Extra) → IsProp (IsExtra x)
some_extra extra.None = none
some_extra (extra.JobPut j) = job j
some_extra (extra.JobDrop number) = less _ _

op : (o : Op) → IsProp (IsOp o)
op o = λ a b i. record {
  number = less _ _ a.number b.number i;
  map = holds _ a.map b.map i;
  hull = span o.hull a.hull b.hull i;
  olds = pieces o.olds a.olds b.olds i;
  news = pieces o.news a.news b.news i;
  extra = some_extra o.extra a.extra b.extra i;
}

some_mark : (m : Mark) → IsProp (IsMarkValue m)
some_mark mark.Plain = none
some_mark (mark.Old number) = less _ _
some_mark mark.New = none

local_row : (r : LocalRow) → IsProp (IsLocalRow r)
local_row r = λ a b i. record { map = holds _ a.map b.map i; span = span r.span a.span b.span i; number = less _ _ a.number b.number i; mark = some_mark r.mark a.mark b.mark i }

counters : (c : Counters) → IsProp (AreCounters c)
counters c = λ a b i. record { operation = less _ _ a.operation b.operation i; job = less _ _ a.job b.job i }

row_name : (r : RowName) → IsProp (IsRowName r)
row_name r = λ a b i. record { map = holds _ a.map b.map i; key = holds _ a.key b.key i; table = holds _ a.table b.table i; number = less _ _ a.number b.number i }

-- ---- cells, keys and edits

typed : (c : Cell) → IsProp (IsTyped c)
typed (cell.Map name kind type) = holds _
typed (cell.Shard name location) = both (holds _) (holds _)
typed (cell.Table name table) = both (holds _) (holds _)
typed (cell.Piece p) = piece p
typed (cell.Log o) = op o
typed (cell.Job j) = job j
typed (cell.Counter c) = counters c
typed (cell.SiteState location state) = holds _
typed (cell.Local row) = local_row row
typed (cell.Row row bytes) = both (row_name row) (holds _)

is_cell : (c : Cell) → IsProp (IsCell c)
is_cell c = λ a b i. record { typed = typed c a.typed b.typed i; spelled = holds _ a.spelled b.spelled i }

typed_key : (k : CellKey) → IsProp (IsTypedKey k)
typed_key (at.Map name) = holds _
typed_key (at.Shard name location) = both (holds _) (holds _)
typed_key (at.Table name table) = both (holds _) (holds _)
typed_key (at.Piece name low) = both (holds _) (holds _)
typed_key (at.Log number) = less _ _
typed_key (at.Job number) = less _ _
typed_key at.Counter = none
typed_key (at.SiteState location) = holds _
typed_key (at.Local name low number) = λ a b i. (holds _ a.0 b.0 i, holds _ a.1 b.1 i, less _ _ a.2 b.2 i)
typed_key (at.Row row) = row_name row

some_edit : (e : Edit) → IsProp (IsEdit e)
some_edit (Put c) = is_cell c
some_edit (Delete k) = typed_key k

pub change : (edits : List Edit) → IsProp (AreEdits edits)
change [] = none
change (e ∷ es) = both (some_edit e) (change es)
