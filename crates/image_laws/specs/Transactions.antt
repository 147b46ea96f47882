-- The transactions of operations, each where it may be made, and what they lead to.
use Rattle.std.specs.Prelude.{◌≡◌, ℕ, ◌+◌, ◌<◌, ◌^◌, false, None, List, [], ◌∷◌}
use Rattle.std.specs.FinMap as map
use Rattle.cell_world.specs.Texts.{Text}
use Rattle.cell_world.specs.Stores.{Locals, changed}
use Rattle.cell_world.specs.Images.{Image, Global, global, with_store}
use Rattle.cell_world.specs.Meaning.{next_operation, next_job}
use Rattle.cell_world.specs.Operations.{conflicts, reach_of}
use Rattle.cell_world.specs.Lawful.{Lawful}
use Rattle.cell_world.specs.Sound.{HasLog, IsAttachedIn, locals_at}
use Rattle.cell_world.specs.Marked.{Marked, committed_image}
use Rattle.cell_world.specs.declared.operations.Op.{Op}
use Rattle.cell_world.specs.declared.operations.StageName.TheVariants.{TargetDone}
use Rattle.cell_world.specs.declared.cells.Mark.TheVariants.{Plain}
use Rattle.cell_world.specs.declared.cells.Cell.TheVariants as cell
use Rattle.cell_world.specs.declared.changes.Edit.TheVariants.{Put}
use Rattle.cell_world.specs.Sweep.{IsSwept}
use Rattle.cell_world.specs.UnderWay.{IsUnborn}
use Rattle.image_laws.specs.LocalSteps.{IsStepped, IsUndone, IsSettled, with_locals, without_log_row}

-- the log row of an operation with the next number is put, and the counter raised past it
abbrev pub logged_image : Image → Op → Image
logged_image image op = with_store image Global (changed (global image) (Put (cell.Log op) ∷ Put (cell.Counter (record { operation = next_operation image + 1; job = next_job image })) ∷ []))

-- Any transaction of any operation, where it may be made, and the image that it leaves.
pub data Transaction (image after : Image) : Type 0 where
  -- a lawful operation that conflicts with no logged one is logged
  Logging : (op : Op) → Lawful image op → op.number ≡ next_operation image → next_operation image < 2 ^ 63 → ((other : Op) → HasLog (global image).log other → conflicts (reach_of op) other ≡ false)
      → after ≡ logged_image image op → Transaction image after
  -- its local step is made at an attached site where it is unborn
  Stepping : (op : Op) → HasLog (global image).log op → (location : Text) → IsAttachedIn image location → IsUnborn op.number (locals_at image location)
      → (last : Locals) → IsStepped (global image).log op location (locals_at image location) last → after ≡ with_locals image location last → Transaction image after
  -- with all its marks made it is committed
  Committing : (op : Op) → HasLog (global image).log op → Marked image op TargetDone → after ≡ committed_image image op → Transaction image after
  -- out of the log, it is settled at an attached site
  Settling : (number : ℕ) → map.get (global image).log number ≡ None → (location : Text) → IsAttachedIn image location
      → (last : Locals) → IsSettled number (locals_at image location) last → after ≡ with_locals image location last → Transaction image after
  -- a logged one is undone at an attached site
  Undoing : (op : Op) → HasLog (global image).log op → (location : Text) → IsAttachedIn image location
      → (last : Locals) → IsSwept (global image).log op Plain (locals_at image location) last → after ≡ with_locals image location last → Transaction image after
  -- and once it is undone at all its sites its log row goes
  Dropping : (op : Op) → HasLog (global image).log op → IsUndone image op → after ≡ without_log_row image op → Transaction image after

-- each image of the list comes of the one before it by a transaction, and the last one is this
abbrev pub IsRun : Image → List Image → Image → Type 0
IsRun image [] last = last ≡ image
IsRun image (next ∷ more) last = Transaction image next × IsRun next more last
