-- Undo: the marks of a logged operation are taken back site by site, and then its log row goes.
use Rattle.std.specs.Prelude.{◌≡◌, ◌≢◌, List, [], ◌∷◌, Option, Some, IsTrue}
use Rattle.std.specs.FinMap as map
use Rattle.cell_world.specs.Texts.{Text}
use Rattle.cell_world.specs.Lists.{IsOneOf}
use Rattle.cell_world.specs.Stores.{Log, Locals}
use Rattle.cell_world.specs.Keys.{is_among}
use Rattle.cell_world.specs.Images.{Image, Place, Global, Shard, Happening, global, after_all}
use Rattle.cell_world.specs.Marked.{marked_sites}
use Rattle.cell_world.specs.Sound.{Sound, HasLog, IsAttachedIn, locals_at}
use Rattle.cell_world.specs.Sweep.{IsSwept, IsSweptPlain}
use Rattle.cell_world.specs.declared.operations.Op.{Op}
use Rattle.cell_world.specs.declared.operations.Piece.{Piece}
use Rattle.cell_world.specs.declared.cells.Mark.TheVariants.{Plain}
use Rattle.cell_world.specs.declared.cells.CellKey.TheVariants as at
use Rattle.cell_world.specs.declared.changes.Edit.{Edit}
use Rattle.cell_world.specs.declared.changes.Edit.TheVariants.{Delete}
use Rattle.image_laws.specs.LocalSteps.{IsUndone, with_locals, without_log_row}
use Rattle.local_tables.specs.Altering.{to_undo}
use Rattle.op_steps.specs.Passing.{IsCourse, changed_at}

-- ---- sites of an operation

-- The site is attached, and the operation has a mapping there.
pub record IsOwnSite (op : Op) (location : Text) (image : Image) : Type 0 where
  -- it is attached
  pub here : IsAttachedIn image location
  -- an old or a new mapping of the operation is there
  pub own : IsTrue (is_among (marked_sites op) location)

-- ---- the transactions of undo

-- At a site of the operation the rows that overlap the hull become Plain where they count, and go where they don't.
pub record UndoesAt (op : Op) (image : Image) (place : Place) (change : List Edit) : Type 0 where
  -- the operation is logged
  pub logged : HasLog (global image).log op
  -- a site that is attached, where it has a mapping
  pub location : Text
  pub site : IsOwnSite op location image
  -- it isn't undone there yet
  pub not_yet : IsSweptPlain op (locals_at image location) → ⊥
  -- the change is that of the sweep, in the store of the shard there
  pub place_is : place ≡ Shard location
  pub edits : change ≡ to_undo (global image).log op (locals_at image location)
  -- where it is made, the rows there are swept
  pub last : Locals
  pub swept : IsSwept (global image).log op Plain (locals_at image location) last
  -- and nothing else is changed
  pub is : changed_at image place change ≡ with_locals image location last

-- Undone at each of its sites, it leaves the log.
pub record Drops (op : Op) (image : Image) (place : Place) (change : List Edit) : Type 0 where
  -- the operation is logged
  pub logged : HasLog (global image).log op
  -- its hull is Plain at each of its sites
  pub undone : IsUndone image op
  -- its log cell is deleted in the global store
  pub place_is : place ≡ Global
  pub edits : change ≡ Delete (at.Log op.number) ∷ []
  -- where that is made its log row goes, and nothing else
  pub is : changed_at image place change ≡ without_log_row image op

-- a transaction of the undo of an operation
pub data UndoStep (op : Op) (image : Image) (place : Place) (change : List Edit) : Type 0 where
  AtSite : UndoesAt op image place change → UndoStep op image place change
  LogRow : Drops op image place change → UndoStep op image place change

-- a transaction of the undo of one of these operations
abbrev pub UndoStepOf : (Op → Type 0) → Image → Place → List Edit → Type 0
UndoStepOf These image place change = (op : Op) × These op × UndoStep op image place change

-- of any operation
abbrev pub AnyUndoStep : Image → Place → List Edit → Type 0
AnyUndoStep = UndoStepOf (λ op. Unit {0})

-- ---- what calls of undo come to

-- the site of the mapping, if there is one, is undone
abbrev pub IsPlainAt : Op → Option Piece → Image → Type 0
IsPlainAt op piece image = (p : Piece) → piece ≡ Some p → IsSweptPlain op (locals_at image p.location)

-- and it is attached, and the operation's own
abbrev pub IsOwnAt : Op → Option Piece → Image → Type 0
IsOwnAt op piece image = (p : Piece) → piece ≡ Some p → IsOwnSite op p.location image

-- The rows of sites were made Plain, one site after another, or some of them; `ok` says that the call succeeded.
pub record PlainsSites (op : Op) (ok : Type 0) (Done : Image → Type 0) (image : Image) (hs : List Happening) : Type 0 where
  -- nothing was tried but sweeps at sites of the operation
  pub course : IsCourse (UndoesAt op) image hs
  -- where all went well this is so in the end
  pub done : ok → Done (after_all image hs)

-- The log row was deleted, or that was tried; `ok` says that the call succeeded.
pub record DropsRow (op : Op) (ok : Type 0) (image : Image) (hs : List Happening) : Type 0 where
  -- nothing was tried but to delete it
  pub course : IsCourse (Drops op) image hs
  -- where all went well it is gone, and nothing else
  pub gone : ok → after_all image hs ≡ without_log_row image op

-- An operation was undone, at least in part; `ok` says that the call succeeded.
pub record UndoesOp (op : Op) (ok : Type 0) (image : Image) (hs : List Happening) : Type 0 where
  -- nothing was tried but transactions of its undo
  pub course : IsCourse (UndoStep op) image hs
  -- where all went well its log row is gone, and the log is else as it was
  pub gone : ok → (global (after_all image hs)).log ≡ map.remove (global image).log op.number

-- what undo makes of a sound image on which its log cell stands and is this operation
abbrev pub Undoes : Op → Type 0 → Image → List Happening → Type 0
Undoes op ok image hs = Sound image → HasLog (global image).log op → UndoesOp op ok image hs

-- ---- several operations

-- the log without the log rows of these operations
abbrev pub without_ops : Log → List Op → Log
without_ops log [] = log
without_ops log (op ∷ ops) = without_ops (map.remove log op.number) ops

-- no two of the operations have one number
abbrev pub OpsDiffer : List Op → Type 0
OpsDiffer [] = Unit {0}
OpsDiffer (op ∷ ops) = ((other : Op) → IsOneOf ops other → other.number ≢ op.number) × OpsDiffer ops

-- Operations that are logged under numbers of their own.
pub record AreLogged (log : Log) (ops : List Op) : Type 0 where
  -- each is logged
  pub logged : (op : Op) → IsOneOf ops op → HasLog log op
  -- and stands once
  pub once : OpsDiffer ops

-- These were undone one after another, at least in part; `ok` says that the call succeeded.
pub record UndoesOps (ops : List Op) (ok : Type 0) (image : Image) (hs : List Happening) : Type 0 where
  -- nothing was tried but transactions of their undo
  pub course : IsCourse (UndoStepOf (IsOneOf ops)) image hs
  -- where all went well their log rows are gone, and the log is else as it was
  pub gone : ok → (global (after_all image hs)).log ≡ without_ops (global image).log ops

-- what undo of these operations makes of a sound image on which they are logged
abbrev pub UndoesList : List Op → Type 0 → Image → List Happening → Type 0
UndoesList ops ok image hs = Sound image → AreLogged (global image).log ops → UndoesOps ops ok image hs

-- Operations were undone one after another; `ok` says that the call succeeded.
pub record UndoesAll (ok : Type 0) (image : Image) (hs : List Happening) : Type 0 where
  -- nothing was tried but transactions of the undo of operations
  pub course : IsCourse AnyUndoStep image hs
  -- where all went well none is logged any more
  pub empty : ok → (global (after_all image hs)).log ≡ map.empty

-- what recovery makes of a sound image
abbrev pub Recovers : Type 0 → Image → List Happening → Type 0
Recovers ok image hs = Sound image → UndoesAll ok image hs
