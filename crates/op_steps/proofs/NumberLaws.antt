-- Which log cells the transactions were to put, and what they leave of the counter.
use Rattle.std.proofs.Common.{◌≡◌, ◌+◌, ℕ, Bool, true, false, cond, refl, sym, ap, subst, Some, None, Option, List, [], ◌∷◌, ◌++◌, append_assoc}
use Rattle.cell_world.specs.Texts.{Text}
use Rattle.cell_world.specs.Keys.{same}
use Rattle.cell_world.specs.Images.{Image, Place, global}
use Rattle.cell_world.specs.Sound.{locals_at}
use Rattle.cell_world.specs.Stores.{Log, Locals}
use Rattle.cell_world.specs.Sweep.{sweep}
use Rattle.cell_world.specs.Meaning.{next_operation}
use Rattle.cell_world.specs.Spelled.{listed}
use Rattle.cell_world.specs.UnderWay.{new_row}
use Rattle.cell_world.specs.declared.operations.Op.{Op}
use Rattle.cell_world.specs.declared.operations.Piece.{Piece}
use Rattle.cell_world.specs.declared.operations.Extra.{Extra}
use Rattle.cell_world.specs.declared.operations.Extra.TheVariants as extra
use Rattle.cell_world.specs.declared.cells.LocalRow.{LocalRow}
use Rattle.cell_world.specs.declared.cells.Mark.TheVariants.{Plain, Old}
use Rattle.cell_world.specs.declared.cells.Cell.TheVariants as cell
use Rattle.cell_world.specs.declared.cells.CellKey.TheVariants as at
use Rattle.cell_world.specs.declared.changes.Edit.{Edit}
use Rattle.cell_world.specs.declared.changes.Edit.TheVariants.{Put, Delete}
use Rattle.image_laws.specs.LocalSteps.{settle}
use Rattle.image_laws.specs.CommitEdits.{commit_edits, deletes, extra_edits, puts}
use Rattle.image_laws.specs.RowEdits.{edit_to, edits_by, news_edits}
use Rattle.local_tables.specs.Altering.{altered, to_mark, to_undo, to_settle}
use Rattle.local_tables.specs.declared.altering.Work.TheVariants.{ToMark, ToUndo, ToSettle}
use Rattle.plain_model.specs.OnTrail.{logs_put}
use Rattle.op_steps.specs.Passing.{changed_at}
use Rattle.op_steps.specs.Undoing.{UndoStep, AtSite, LogRow}
use Rattle.op_steps.specs.Beginning.{Logs}
use Rattle.op_steps.specs.Advancing.{AdvanceStep, Stepping, Committing, Settling}

-- ---- edits that put no log cell

abbrev PutsNone : List Edit → Type 0
PutsNone edits = logs_put edits ≡ []

-- that of a scanned row
row_then : (row : LocalRow) (now : Option LocalRow) (rest : List Edit) → PutsNone rest → PutsNone (edit_to row now ++ rest)
row_then row None rest e = e
row_then row (Some now) rest e = e

-- those of scanned rows
rows_then : (f : LocalRow → Option LocalRow) (rows : List LocalRow) (rest : List Edit) → PutsNone rest → PutsNone (edits_by f rows ++ rest)
rows_then f [] rest e = e
rows_then f (row ∷ rows) rest e = subst PutsNone (sym (append_assoc (edit_to row (f row)) (edits_by f rows) rest)) (row_then row (f row) (edits_by f rows ++ rest) (rows_then f rows rest e))

rows_alone : (f : LocalRow → Option LocalRow) (rows : List LocalRow) → PutsNone (edits_by f rows)
rows_alone f [] = refl
rows_alone f (row ∷ rows) = row_then row (f row) (edits_by f rows) (rows_alone f rows)

-- those of new rows
new_then : (row : LocalRow) (here : Bool) (rest : List Edit) → PutsNone rest → PutsNone (cond here (Put (cell.Local row) ∷ []) [] ++ rest)
new_then row true rest e = e
new_then row false rest e = e

news_none : (number : ℕ) (location : Text) (news : List Piece) → PutsNone (news_edits number location news)
news_none number location [] = refl
news_none number location (new ∷ news) = new_then (new_row number new) (same new.location location) (news_edits number location news) (news_none number location news)

-- those of a commit
deletes_then : (pieces : List Piece) (rest : List Edit) → PutsNone rest → PutsNone (deletes pieces ++ rest)
deletes_then [] rest e = e
deletes_then (p ∷ ps) rest e = deletes_then ps rest e

puts_then : (pieces : List Piece) (rest : List Edit) → PutsNone rest → PutsNone (puts pieces ++ rest)
puts_then [] rest e = e
puts_then (p ∷ ps) rest e = puts_then ps rest e

extra_then : (x : Extra) (rest : List Edit) → PutsNone rest → PutsNone (extra_edits x ++ rest)
extra_then extra.None rest e = e
extra_then (extra.JobPut job) rest e = e
extra_then (extra.JobDrop number) rest e = e

commit_none : (op : Op) → PutsNone (commit_edits op)
commit_none op = let last : List Edit = extra_edits op.extra ++ (Delete (at.Log op.number) ∷ []) in deletes_then (listed op.olds) (puts (listed op.news) ++ last) (puts_then (listed op.news) last (extra_then op.extra (Delete (at.Log op.number) ∷ []) refl))

-- those of the changes at shards
mark_none : (log : Log) (op : Op) (location : Text) (locals : Locals) → PutsNone (to_mark log op location locals)
mark_none log op location locals = rows_then (sweep log op (Old op.number)) (altered ToMark op locals) (news_edits op.number location (listed op.news)) (news_none op.number location (listed op.news))

undo_none : (log : Log) (op : Op) (locals : Locals) → PutsNone (to_undo log op locals)
undo_none log op locals = rows_alone (sweep log op Plain) (altered ToUndo op locals)

settle_none : (op : Op) (locals : Locals) → PutsNone (to_settle op locals)
settle_none op locals = rows_alone (settle op.number) (altered ToSettle op locals)

-- ---- the transactions

-- no log cell is tried, and made or not the counter of operations stays
abbrev LeavesNumbers : Image → Place → List Edit → Type 0
LeavesNumbers image place change = (logs_put change ≡ []) × (next_operation (changed_at image place change) ≡ next_operation image)

pub undo_leaves_numbers : (op : Op) (image : Image) (place : Place) (change : List Edit) → UndoStep op image place change → LeavesNumbers image place change
undo_leaves_numbers op image place change (AtSite u) = (subst PutsNone (sym u.edits) (undo_none (global image).log op (locals_at image u.location)), ap next_operation u.is)
undo_leaves_numbers op image place change (LogRow d) = (subst PutsNone (sym d.edits) refl, ap next_operation d.is)

pub advance_leaves_numbers : (op : Op) (image : Image) (place : Place) (change : List Edit) → AdvanceStep op image place change → LeavesNumbers image place change
advance_leaves_numbers op image place change (Stepping s) = (subst PutsNone (sym s.edits) (mark_none (global image).log op s.location (locals_at image s.location)), ap next_operation s.is)
advance_leaves_numbers op image place change (Committing c) = (subst PutsNone (sym c.edits) (commit_none op), ap next_operation c.is)
advance_leaves_numbers op image place change (Settling s) = (subst PutsNone (sym s.edits) (settle_none op (locals_at image s.location)), ap next_operation s.is)

pub log_tries_number : (op : Op) (image : Image) (place : Place) (change : List Edit) → Logs op image place change → (logs_put change ≡ op ∷ []) × (op.number ≡ next_operation image) × (next_operation (changed_at image place change) ≡ next_operation image + 1)
log_tries_number op image place change l = (subst (λ es. logs_put es ≡ op ∷ []) (sym l.edits) refl, l.number, ap next_operation l.is)
