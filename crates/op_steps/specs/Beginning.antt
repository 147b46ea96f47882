-- How a long operation begins: its log row is put under the next number.
use Rattle.std.specs.Prelude.{◌≡◌, ◌+◌, ◌<◌, ◌^◌, ℕ, Bool, true, false, List, [], ◌∷◌, ◌++◌, Result, Ok, Err}
use Rattle.cell_world.specs.Images.{Image, Place, Global, Happening, Committed, global, after_all}
use Rattle.cell_world.specs.Lawful.{Lawful}
use Rattle.cell_world.specs.Meaning.{next_operation, counters_of}
use Rattle.cell_world.specs.Marked.{Marked}
use Rattle.cell_world.specs.Operations.{conflicts, reach_of}
use Rattle.cell_world.specs.Sound.{Sound, HasLog}
use Rattle.cell_world.specs.UnderWay.{IsUnderWay}
use Rattle.cell_world.specs.declared.operations.Op.{Op}
use Rattle.cell_world.specs.declared.operations.StageName.TheVariants.{Logged}
use Rattle.cell_world.specs.declared.cells.Counters.{Counters}
use Rattle.cell_world.specs.declared.cells.Cell.TheVariants as cell
use Rattle.cell_world.specs.declared.changes.Edit.{Edit}
use Rattle.cell_world.specs.declared.changes.Edit.TheVariants.{Put}
use Rattle.global_tables.specs.declared.faults.StepFault.{StepFault}
use Rattle.global_tables.specs.declared.faults.StepFault.TheVariants as fault
use Rattle.image_laws.specs.Transactions.{logged_image}
use Rattle.op_steps.specs.declared.stages.Stage.{Stage}
use Rattle.op_steps.specs.declared.beginning.BeginFault.{BeginFault}
use Rattle.op_steps.specs.declared.beginning.BeginFault.TheVariants as begin
use Rattle.op_steps.specs.declared.beginning.Begun.{Begun}
use Rattle.op_steps.specs.declared.beginning.Begun.TheVariants.{Going, Pending}
use Rattle.op_steps.specs.Passing.{IsCourse, changed_at}
use Rattle.op_steps.specs.Undoing.{UndoStepOf}
use Rattle.op_steps.specs.Stages.{number_of, name_of}
use Rattle.op_steps.specs.Clearing.{is_in_way, NoneInWay, IsLeastInWay, IsAbandonedInWay}

-- ---- the log row

-- the operation with this number
abbrev pub numbered : Op → ℕ → Op
numbered op number = record op { number = number }

-- the log row is put, and the counter raised past its number
abbrev pub log_edits : Op → Counters → List Edit
log_edits op next = Put (cell.Log op) ∷ Put (cell.Counter (record { operation = next.operation + 1; job = next.job })) ∷ []

-- no logged operation conflicts with the operation
abbrev pub IsClearOf : Op → Image → Type 0
IsClearOf op image = (other : Op) → HasLog (global image).log other → conflicts (reach_of op) other ≡ false

-- A lawful operation that conflicts with no logged one is logged under the next number.
pub record Logs (op : Op) (image : Image) (place : Place) (change : List Edit) : Type 0 where
  -- it is lawful on what the stores stand for
  pub lawful : Lawful image op
  -- it has the number that stands, which is below 2^63
  pub number : op.number ≡ next_operation image
  pub below : next_operation image < 2 ^ 63
  -- it conflicts with no logged one
  pub clear : IsClearOf op image
  -- its log cell is put in the global store, and the counter raised past its number
  pub place_is : place ≡ Global
  pub edits : change ≡ log_edits op (counters_of (global image).counter)
  -- where that is made its log row stands, the counter is one more, and nothing else is changed
  pub is : changed_at image place change ≡ logged_image image op

-- under whatever number that is
abbrev pub LogsNumbered : Op → Image → Place → List Edit → Type 0
LogsNumbered op image place change = (number : ℕ) × Logs (numbered op number) image place change

-- Its log row was tried, under the number that stood; it took or it didn't.
pub record TriesLog (op made : Op) (took : Bool) (image : Image) (hs : List Happening) : Type 0 where
  -- the operation has the number that stood, and nothing else of it changed
  pub named : made ≡ numbered op (next_operation image)
  -- its log row was tried
  pub change : List Edit
  pub logs : Logs made image Global change
  -- and nothing else
  pub is : hs ≡ Committed Global change took ∷ []

-- ---- faults

-- the fault of a call before the log row was tried
abbrev pub fault_before : StepFault → BeginFault
fault_before fault.Store = begin.Store
fault_before fault.Memory = begin.Memory

-- the fault of the transaction that puts the log row of this number: want of memory tries nothing
abbrev pub fault_at : ℕ → StepFault → BeginFault
fault_at number fault.Store = begin.Tried number
fault_at number fault.Memory = begin.Memory

-- a store refused
abbrev pub IsOfStore : BeginFault → Type 0
IsOfStore begin.Memory = ⊥
IsOfStore begin.Store = Unit {0}
IsOfStore (begin.Tried number) = Unit {0}

-- the call failed since a store refused
abbrev pub FailsByStore : {T : Type 0} → Result T BeginFault → Type 0
FailsByStore (Ok value) = ⊥
FailsByStore (Err e) = IsOfStore e

-- ---- the calls of the log row

-- by the answer: it was logged; or it was tried under this number; or nothing was tried
abbrev pub LogsOp : Op → Result Op BeginFault → Image → List Happening → Type 0
LogsOp op (Ok made) image hs = Sound image → Lawful image op → next_operation image < 2 ^ 63 → IsClearOf op image → TriesLog op made true image hs
LogsOp op (Err (begin.Tried number)) image hs = Sound image → Lawful image op → next_operation image < 2 ^ 63 → IsClearOf op image → (took : Bool) × TriesLog op (numbered op number) took image hs
LogsOp op (Err begin.Memory) image hs = hs ≡ []
LogsOp op (Err begin.Store) image hs = hs ≡ []

-- so of an answer with the first stage
abbrev pub Goes : Op → Result Begun BeginFault → Image → List Happening → Type 0
Goes op (Ok (Going made stage)) image hs = LogsOp op (Ok made) image hs
Goes op (Ok (Pending other)) image hs = ⊥
Goes op (Err e) image hs = LogsOp op (Err e) image hs

-- ---- the beginning

-- a transaction of the beginning: an abandoned operation in the way is undone, or the log row is put
pub data BeginStep (live : List ℕ) (op : Op) (image : Image) (place : Place) (change : List Edit) : Type 0 where
  Clearing : UndoStepOf (IsAbandonedInWay live (reach_of op)) image place change → BeginStep live op image place change
  Logging : LogsNumbered op image place change → BeginStep live op image place change

-- Abandoned operations in the way were undone, and then the log row was tried; it took or it didn't.
pub record ClearsAndTries (live : List ℕ) (op made : Op) (took : Bool) (image : Image) (hs : List Happening) : Type 0 where
  -- no live operation was in its way
  pub none : NoneInWay live (reach_of op) (global image).log
  -- abandoned ones in its way were undone, and nothing else was tried before the log row
  pub cleared : List Happening
  pub course : IsCourse (UndoStepOf (IsAbandonedInWay live (reach_of op))) image cleared
  -- the operation has the number that stood, and nothing else of it changed
  pub named : made ≡ numbered op (next_operation image)
  -- last its log row was tried
  pub change : List Edit
  pub logs : Logs made (after_all image cleared) Global change
  pub split : hs ≡ cleared ++ Committed Global change took ∷ []

-- The operation has begun.
pub record HasBegun (live : List ℕ) (op made : Op) (image : Image) (hs : List Happening) : Type 0 where
  -- the way was cleared, and its log row was put
  pub tried : ClearsAndTries live op made true image hs
  -- the counter is one more
  pub counter : next_operation (after_all image hs) ≡ next_operation image + 1
  -- it is Logged, with no row of it at any attached site
  pub marked : Marked (after_all image hs) made Logged
  pub unborn : IsUnderWay (after_all image hs) made []

-- By the answer: it has begun; or the live operation of least number in its way, and nothing was done; or a fault, at the log row of this number, or before it, while the way was cleared.
abbrev pub Begins : List ℕ → Op → Result Begun BeginFault → Image → List Happening → Type 0
Begins live op (Ok (Going made stage)) image hs = Sound image → Lawful image op → next_operation image < 2 ^ 63 → HasBegun live op made image hs
Begins live op (Ok (Pending other)) image hs = Sound image → (hs ≡ []) × IsLeastInWay live (reach_of op) (global image).log other
Begins live op (Err (begin.Tried number)) image hs = Sound image → Lawful image op → next_operation image < 2 ^ 63 → (took : Bool) × ClearsAndTries live op (numbered op number) took image hs
Begins live op (Err begin.Memory) image hs = Sound image → IsCourse (UndoStepOf (IsAbandonedInWay live (reach_of op))) image hs
Begins live op (Err begin.Store) image hs = Sound image → IsCourse (UndoStepOf (IsAbandonedInWay live (reach_of op))) image hs

-- ---- what an answer says over any world

-- The operation that was asked for, with its number, and its first stage.
pub record IsFirstStage (op made : Op) (stage : Stage) : Type 0 where
  -- nothing of the operation but its number changed
  pub asked : made ≡ numbered op made.number
  -- the stage has that number
  pub number : number_of stage ≡ made.number
  -- and is the first one
  pub name : name_of stage ≡ Logged

abbrev pub SaysBegun : List ℕ → Op → Result Begun BeginFault → Type 0
SaysBegun live op (Ok (Going made stage)) = IsFirstStage op made stage
SaysBegun live op (Ok (Pending other)) = is_in_way live (reach_of op) other ≡ true
SaysBegun live op (Err e) = Unit {0}
