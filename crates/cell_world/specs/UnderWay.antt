-- An operation under way: the sites at which its local step is made, and that nothing of it is at the others.
use Rattle.std.specs.Prelude.{◌≡◌, ◌≢◌, ◌⊎◌, ℕ, List, IsTrue}
use Rattle.cell_world.specs.Texts.{Text}
use Rattle.cell_world.specs.Lists.{IsOneOf}
use Rattle.cell_world.specs.Spelled.{listed}
use Rattle.cell_world.specs.Stores.{Locals}
use Rattle.cell_world.specs.Images.{Image}
use Rattle.cell_world.specs.Lawful.{IsAttached}
use Rattle.cell_world.specs.Sound.{HasLog, HasLocal}
use Rattle.cell_world.specs.Sweep.{reaches}
use Rattle.cell_world.specs.Marked.{IsOld, IsNew, MarkTables, mark_tables}
use Rattle.cell_world.specs.declared.operations.Op.{Op}
use Rattle.cell_world.specs.declared.operations.Piece.{Piece}
use Rattle.cell_world.specs.declared.cells.LocalRow.{LocalRow}
use Rattle.cell_world.specs.declared.cells.Mark.TheVariants.{New}

-- ---- at one site

-- Unborn, as a site is before the operation's local step: no row is named by the operation, and none is Old of it.
abbrev pub IsUnborn : ℕ → Locals → Type 0
IsUnborn number locals = (row : LocalRow) → HasLocal locals row → (row.number ≢ number) × (IsOld number row → ⊥)

-- the row that the operation's local step makes of a new mapping
abbrev pub new_row : ℕ → Piece → LocalRow
new_row number new = record { map = new.map; span = new.span; number = number; status = new.status; mark = New }

-- Done, as a site is after the operation's local step. It is said of the rows alone, and names neither the log nor another operation's marks.
pub record IsDone (op : Op) (location : Text) (locals : Locals) : Type 0 where
  -- each row that overlaps the hull is Old of the operation, or New of it
  pub only : (row : LocalRow) → HasLocal locals row → IsTrue (reaches op row) → IsOld op.number row ⊎ IsNew op.number row
  -- each of its new mappings there has its New row
  pub made : (new : Piece) → IsOneOf (listed op.news) new → new.location ≡ location → HasLocal locals (new_row op.number new)

-- ---- at all sites

-- What is carried of an operation from its log row up to its commit.
pub record UnderWayOn (t : MarkTables) (op : Op) (sites : List Text) : Type 0 where
  -- its log row is the operation
  pub logged : HasLog t.log op
  -- it is done at these sites
  pub done : (location : Text) → IsOneOf sites location → IsDone op location (t.locals_at location)
  -- and unborn at each other attached site
  pub unborn : (location : Text) → IsAttached t.locations t.away location → (IsOneOf sites location → ⊥) → IsUnborn op.number (t.locals_at location)

-- The operation is under way, and its local step is made at these sites.
abbrev pub IsUnderWay : Image → Op → List Text → Type 0
IsUnderWay image op sites = UnderWayOn (mark_tables image) op sites
