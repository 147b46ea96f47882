-- What the local transactions of operations make of the local rows of a site, beside the sweep: the rows of the news, and settling.
use Rattle.std.specs.Prelude.{◌≡◌, ◌⊎◌, ℕ, ◌==◌, List, [], ◌∷◌, Option, Some, None, IfSome, option_and_then, if◌then◌else◌}
use Rattle.std.specs.FinMap as map
use Rattle.cell_world.specs.Texts.{Text}
use Rattle.cell_world.specs.Lists.{IsOneOf}
use Rattle.cell_world.specs.Keys.{same}
use Rattle.cell_world.specs.Spelled.{listed}
use Rattle.cell_world.specs.Stores.{Log, Locals, local_key}
use Rattle.cell_world.specs.Images.{Image, Global, Shard, global, with_store}
use Rattle.cell_world.specs.Sound.{HasLocal, locals_at}
use Rattle.cell_world.specs.Sweep.{marked_as, IsSwept, IsSweptPlain}
use Rattle.cell_world.specs.UnderWay.{new_row}
use Rattle.cell_world.specs.declared.operations.Piece.{Piece}
use Rattle.cell_world.specs.declared.operations.Op.{Op}
use Rattle.cell_world.specs.declared.cells.LocalRow.{LocalRow}
use Rattle.cell_world.specs.declared.cells.Mark.{Mark}
use Rattle.cell_world.specs.declared.cells.Mark.TheVariants.{Plain, Old, New}

-- ---- images

-- local rows, each under its own key
abbrev pub AreKeyed : Locals → Type 0
AreKeyed locals = (k : Text × (Text × ℕ)) → IfSome (map.get locals k) (λ row. local_key row ≡ k)

-- the image with other local rows at one site
abbrev pub with_locals : Image → Text → Locals → Image
with_locals image location locals = with_store image (Shard location) (record (image.at (Shard location)) { locals = locals })

-- the image without the log row of an operation
abbrev pub without_log_row : Image → Op → Image
without_log_row image op = with_store image Global (record (global image) { log = map.remove (global image).log op.number })

-- ---- the rows of the news

-- the rows of the news at this location are put, one after another
abbrev pub with_news : ℕ → Text → List Piece → Locals → Locals
with_news number location [] locals = locals
with_news number location (new ∷ news) locals =
    with_news number location news (if same new.location location then map.insert locals (local_key (new_row number new)) (new_row number new) else locals)

-- the same, told of each row
pub record AreBorn (number : ℕ) (location : Text) (news : List Piece) (before after : Locals) : Type 0 where
  -- what stands is the row of a new mapping there, or stood
  pub back : (row : LocalRow) → HasLocal after row → ((new : Piece) × IsOneOf news new × (new.location ≡ location) × (row ≡ new_row number new)) ⊎ HasLocal before row
  -- the row of each new mapping there stands
  pub new : (n : Piece) → IsOneOf news n → n.location ≡ location → HasLocal after (new_row number n)
  -- what stood stands, but for rows of this number
  pub kept : (row : LocalRow) → HasLocal before row → (row.number ≡ number) ⊎ HasLocal after row

-- The local step of an operation at a site: the rows that overlap the hull are swept, and then those of the news there are put.
pub record IsStepped (log : Log) (op : Op) (location : Text) (before after : Locals) : Type 0 where
  -- once they are swept
  pub middle : Locals
  pub swept : IsSwept log op (Old op.number) before middle
  -- the news are put
  pub born : AreBorn op.number location (listed op.news) middle after
  -- and each row stands under its own key
  pub keyed : AreKeyed after

-- ---- undo

-- at the site of each old and of each new mapping the rows that overlap the hull are Plain
pub record IsUndone (image : Image) (op : Op) : Type 0 where
  pub olds : (old : Piece) → IsOneOf (listed op.olds) old → IsSweptPlain op (locals_at image old.location)
  pub news : (new : Piece) → IsOneOf (listed op.news) new → IsSweptPlain op (locals_at image new.location)

-- ---- settling

-- what becomes of a row by its mark: an Old row of the operation goes, and a New one of it becomes Plain
abbrev pub settle_as : ℕ → LocalRow → Mark → Option LocalRow
settle_as number row Plain = Some row
settle_as number row (Old p) = if p == number then None else Some row
settle_as number row New = if row.number == number then Some (marked_as Plain row) else Some row

abbrev pub settle : ℕ → LocalRow → Option LocalRow
settle number row = settle_as number row row.mark

-- the local rows after are those before, each as settling leaves it
abbrev pub IsSettled : ℕ → Locals → Locals → Type 0
IsSettled number before after = (k : Text × (Text × ℕ)) → map.get after k ≡ option_and_then (settle number) (map.get before k)
