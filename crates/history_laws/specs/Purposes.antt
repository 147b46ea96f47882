-- For what a log cell was tried: what the definitions of entries ask of one.
use Rattle.std.specs.Prelude.{◌≡◌, ℕ}
use Rattle.cell_world.specs.Images.{Image}
use Rattle.cell_world.specs.Plain.{PlainState}
use Rattle.cell_world.specs.declared.operations.Op.{Op}
use Rattle.cell_world.specs.declared.operations.Piece.{Piece}
use Rattle.plain_model.specs.declared.commands.Command.{Command}
use Rattle.plain_model.specs.Timelines.{Timeline}
use Rattle.plain_model.specs.JobSteps.{asked_number}
use Rattle.plain_model.specs.OnTrail.{WasTried, WasPut, TakesOffline}
use Rattle.plain_model.specs.Legal.{IsPlannedIn, IsOwnOf}

pub data Purpose : Type 0 where
  -- It is of this operation.
  Itself : (op : Op) → Purpose
  -- It is of this operation, and was tried on this image.
  OnImage : (image : Image) (op : Op) → Purpose
  -- It is of this operation, which was the next step of the job of this number.
  JobStep : (number : ℕ) (op : Op) → Purpose
  -- It has this number, and is the command's own in this state.
  OwnOf : (number : ℕ) (state : PlainState) (command : Command) → Purpose
  -- It has this number, takes the mapping offline, and does no more.
  Offlines : (number : ℕ) (piece : Piece) → Purpose

-- the operation, tried on this image, serves the purpose
abbrev pub Serves : Purpose → Image → Op → Type 0
Serves (Itself op) image tried = tried ≡ op
Serves (OnImage at op) image tried = (image ≡ at) × (tried ≡ op)
Serves (JobStep number op) image tried = (tried ≡ op) × IsPlannedIn image number tried
Serves (OwnOf number A c) image tried = (tried.number ≡ number) × IsOwnOf A c (asked_number c) image tried
Serves (Offlines number p) image tried = TakesOffline number p tried

-- since the session's previous entry a commit, made or not, was to put a log cell that serves the purpose
abbrev pub WasTriedFor : Image → ℕ → Purpose → Timeline → Type 0
WasTriedFor start session purpose past = WasTried start session (Serves purpose) past

-- since then a commit that was made put one
abbrev pub WasPutFor : Image → ℕ → Purpose → Timeline → Type 0
WasPutFor start session purpose past = WasPut start session (Serves purpose) past
