-- Live operations in the way of a command, and abandoned ones that are undone to clear it.
use Rattle.std.specs.Prelude.{◌≡◌, ◌≤◌, ℕ, Bool, true, false, ◌&&◌, List, [], ◌∷◌, ◌++◌, Option, Some, None, Result, Ok, Err}
use Rattle.cell_world.specs.Lists.{IsOneOf}
use Rattle.cell_world.specs.Stores.{Log}
use Rattle.cell_world.specs.Images.{Image, Happening, global, after_all}
use Rattle.cell_world.specs.Operations.{conflicts}
use Rattle.cell_world.specs.Sound.{Sound, HasLog}
use Rattle.cell_world.specs.declared.operations.Op.{Op}
use Rattle.cell_world.specs.declared.operations.Reach.{Reach}
use Rattle.global_tables.specs.declared.faults.StepFault.{StepFault}
use Rattle.op_steps.specs.Live.{is_live}
use Rattle.op_steps.specs.Passing.{IsCourse}
use Rattle.op_steps.specs.Undoing.{UndoStepOf}

-- ---- in the way

-- the operation is live, and conflicts with what a command reaches
abbrev pub is_in_way : List ℕ → Reach → Op → Bool
is_in_way live reach op = conflicts reach op && is_live live op.number

-- no logged operation is
abbrev pub NoneInWay : List ℕ → Reach → Log → Type 0
NoneInWay live reach log = (op : Op) → HasLog log op → is_in_way live reach op ≡ false

-- Of the logged operations that are in the way this one has the least number.
pub record IsLeastInWay (live : List ℕ) (reach : Reach) (log : Log) (op : Op) : Type 0 where
  -- it is logged
  pub logged : HasLog log op
  -- it is live, and conflicts with what is reached
  pub in_way : is_in_way live reach op ≡ true
  -- each other one has a number no less
  pub least : (other : Op) → HasLog log other → is_in_way live reach other ≡ true → op.number ≤ other.number

-- ---- among listed operations

-- Of the listed operations this is the first that passes a test.
pub record IsFirstOf (test : Op → Bool) (ops : List Op) (op : Op) : Type 0 where
  pub front : List Op
  pub rest : List Op
  -- it stands between these
  pub split : ops ≡ front ++ op ∷ rest
  -- none before it passes, and it does
  pub before : (other : Op) → IsOneOf front other → test other ≡ false
  pub passes : test op ≡ true

-- the first that passes; none where none does
abbrev pub FindsFirst : (Op → Bool) → List Op → Option Op → Type 0
FindsFirst test ops None = (op : Op) → IsOneOf ops op → test op ≡ false
FindsFirst test ops (Some op) = IsFirstOf test ops op

-- ---- the way is cleared

-- the operation conflicts, and isn't live
pub record IsAbandonedInWay (live : List ℕ) (reach : Reach) (op : Op) : Type 0 where
  -- it conflicts with what is reached
  pub conflict : conflicts reach op ≡ true
  -- and no session has a step of it ahead
  pub abandoned : is_live live op.number ≡ false

-- No live operation was in the way, and the abandoned ones were undone: of the log just those that don't conflict stand.
pub record IsCleared (live : List ℕ) (reach : Reach) (image : Image) (hs : List Happening) : Type 0 where
  -- no live operation was in the way
  pub none : NoneInWay live reach (global image).log
  -- nothing was tried but to undo abandoned ones that conflict
  pub course : IsCourse (UndoStepOf (IsAbandonedInWay live reach)) image hs
  -- those that stand now stood, and don't conflict
  pub clear : (op : Op) → HasLog (global (after_all image hs)).log op → HasLog (global image).log op × (conflicts reach op ≡ false)
  -- and those that don't conflict stand
  pub kept : (op : Op) → HasLog (global image).log op → conflicts reach op ≡ false → HasLog (global (after_all image hs)).log op

-- By the answer: the live operation of least number in the way, and nothing was done; none, and the way is cleared; or a fault, and abandoned ones may be undone.
abbrev pub Clears : List ℕ → Reach → Result (Option Op) StepFault → Image → List Happening → Type 0
Clears live reach (Ok (Some op)) image hs = Sound image → (hs ≡ []) × IsLeastInWay live reach (global image).log op
Clears live reach (Ok None) image hs = Sound image → IsCleared live reach image hs
Clears live reach (Err e) image hs = Sound image → IsCourse (UndoStepOf (IsAbandonedInWay live reach)) image hs
