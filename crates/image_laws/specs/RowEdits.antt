-- The edits of a change of local rows, made from the rows that were scanned.
use Rattle.std.specs.Prelude.{◌≡◌, ◌≢◌, ◌⊎◌, List, [], ◌∷◌, ◌++◌, Option, Some, None, ℕ, if◌then◌else◌}
use Rattle.cell_world.specs.Texts.{Text}
use Rattle.cell_world.specs.Keys.{low_of, same}
use Rattle.cell_world.specs.Lists.{IsOneOf}
use Rattle.cell_world.specs.Spelled.{listed}
use Rattle.cell_world.specs.Stores.{Log, Locals, local_key, changed}
use Rattle.cell_world.specs.Images.{Image, Shard}
use Rattle.cell_world.specs.Sound.{HasLocal}
use Rattle.cell_world.specs.Sweep.{sweep}
use Rattle.cell_world.specs.UnderWay.{new_row}
use Rattle.cell_world.specs.declared.operations.Op.{Op}
use Rattle.cell_world.specs.declared.operations.Piece.{Piece}
use Rattle.cell_world.specs.declared.cells.Mark.TheVariants.{Plain, Old}
use Rattle.cell_world.specs.declared.cells.LocalRow.{LocalRow}
use Rattle.cell_world.specs.declared.cells.Cell.TheVariants as cell
use Rattle.cell_world.specs.declared.cells.CellKey.TheVariants as at
use Rattle.cell_world.specs.declared.changes.Edit.{Edit}
use Rattle.cell_world.specs.declared.changes.Edit.TheVariants.{Put, Delete}
use Rattle.image_laws.specs.LocalSteps.{settle}

-- ---- scanned rows, and what becomes of each

-- the edit that puts this in the place of a row
abbrev pub edit_to : LocalRow → Option LocalRow → List Edit
edit_to row None = Delete (at.Local row.map (low_of row.span) row.number) ∷ []
edit_to row (Some now) = Put (cell.Local now) ∷ []

-- the edits of the rows, in order
abbrev pub edits_by : (LocalRow → Option LocalRow) → List LocalRow → List Edit
edits_by f [] = []
edits_by f (row ∷ rows) = edit_to row (f row) ++ edits_by f rows

-- no two of the rows have one key
abbrev pub AreDistinct : List LocalRow → Type 0
AreDistinct [] = Unit {0}
AreDistinct (row ∷ rows) = ((other : LocalRow) → IsOneOf rows other → local_key row ≢ local_key other) × AreDistinct rows

-- The rows are all that the change alters; there may be others among them.
pub record AreScanned (f : LocalRow → Option LocalRow) (locals : Locals) (rows : List LocalRow) : Type 0 where
  -- none is there twice
  pub distinct : AreDistinct rows
  -- each stands
  pub stand : (row : LocalRow) → IsOneOf rows row → HasLocal locals row
  -- and each row that stands is one of them, or the change leaves it as it is
  pub all : (row : LocalRow) → HasLocal locals row → (f row ≡ Some row) ⊎ IsOneOf rows row

-- ---- the edits of a local step, of undo and of settling

-- the rows of the news at a location are put
abbrev pub news_edits : ℕ → Text → List Piece → List Edit
news_edits number location [] = []
news_edits number location (new ∷ news) = (if same new.location location then Put (cell.Local (new_row number new)) ∷ [] else []) ++ news_edits number location news

-- the rows of the hull are swept, and the news are put
abbrev pub step_edits : Log → Op → Text → List LocalRow → List Edit
step_edits log op location rows = edits_by (sweep log op (Old op.number)) rows ++ news_edits op.number location (listed op.news)

-- the rows of the hull become Plain, or go
abbrev pub undo_edits : Log → Op → List LocalRow → List Edit
undo_edits log op rows = edits_by (sweep log op Plain) rows

-- the Old rows of the operation go, and its New ones become Plain
abbrev pub settle_edits : ℕ → List LocalRow → List Edit
settle_edits number rows = edits_by (settle number) rows

-- The edits change nothing at the site but its local rows, and leave rows of which this holds.
abbrev pub Leaves : Image → Text → List Edit → (Locals → Type 0) → Type 0
Leaves image location edits Is = (after : Locals) × (changed (image.at (Shard location)) edits ≡ record (image.at (Shard location)) { locals = after }) × Is after
