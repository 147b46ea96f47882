-- How an operation goes on, stage by stage.
use Rattle.std.specs.Prelude.{◌≡◌, ◌≤◌, ℕ, IsTrue, List, [], ◌++◌, length, Option, Some, None, option_to_list}
use Rattle.std.specs.FinMap as map
use Rattle.cell_world.specs.Texts.{Text}
use Rattle.cell_world.specs.Keys.{is_among}
use Rattle.cell_world.specs.Lists.{IsOneOf}
use Rattle.cell_world.specs.Stores.{Locals}
use Rattle.cell_world.specs.Images.{Image, Place, Global, Shard, Happening, global, after_all}
use Rattle.cell_world.specs.Operations.{locations_of, sites_of}
use Rattle.cell_world.specs.Sound.{Sound, HasLog, IsAttachedIn, locals_at}
use Rattle.cell_world.specs.Marked.{Marked, HasNoMark, IsOutOfLog, mark_tables, NoMarksElsewhere, committed_image}
use Rattle.cell_world.specs.UnderWay.{IsUnborn, IsDone, IsUnderWay}
use Rattle.cell_world.specs.declared.operations.Op.{Op}
use Rattle.cell_world.specs.declared.operations.Piece.{Piece}
use Rattle.cell_world.specs.declared.operations.StageName.{StageName}
use Rattle.cell_world.specs.declared.operations.StageName.TheVariants.{Logged, SourceDone, TargetDone, Committed, Settled}
use Rattle.cell_world.specs.declared.changes.Edit.{Edit}
use Rattle.image_laws.specs.LocalSteps.{IsStepped, IsSettled, with_locals}
use Rattle.image_laws.specs.CommitEdits.{commit_edits}
use Rattle.local_tables.specs.Altering.{to_mark, to_settle}
use Rattle.op_log.specs.Sites.{AreAtMostTwo}
use Rattle.op_steps.specs.Passing.{IsCourse, changed_at}
use Rattle.op_steps.specs.Stages.{next_stage}
use Rattle.op_steps.specs.Undoing.{IsOwnSite}

-- ---- the transactions

-- At a site of the operation where it is unborn its local step is made.
pub record StepsAt (op : Op) (image : Image) (place : Place) (change : List Edit) : Type 0 where
  -- the operation is logged
  pub logged : HasLog (global image).log op
  -- a site that is attached, where it has a mapping
  pub location : Text
  pub site : IsOwnSite op location image
  -- no row there is named by it, and its step isn't made there yet
  pub unborn : IsUnborn op.number (locals_at image location)
  pub not_yet : IsDone op location (locals_at image location) → ⊥
  -- the change is that of the step, in the store of the shard there
  pub place_is : place ≡ Shard location
  pub edits : change ≡ to_mark (global image).log op location (locals_at image location)
  -- where it is made, the rows there are stepped
  pub last : Locals
  pub stepped : IsStepped (global image).log op location (locals_at image location) last
  -- and nothing else is changed
  pub is : changed_at image place change ≡ with_locals image location last

-- With all its marks made it is committed.
pub record CommitsOp (op : Op) (image : Image) (place : Place) (change : List Edit) : Type 0 where
  -- the operation is logged
  pub logged : HasLog (global image).log op
  -- and marked at all its sites
  pub marked : Marked image op TargetDone
  -- the change is that of the commit, in the global store
  pub place_is : place ≡ Global
  pub edits : change ≡ commit_edits op
  -- where it is made the news stand for the olds, the job is put, and the log row is gone
  pub is : changed_at image place change ≡ committed_image image op

-- Out of the log, it is settled at a site of its own.
pub record SettlesAt (op : Op) (image : Image) (place : Place) (change : List Edit) : Type 0 where
  -- no log row has its number
  pub out : map.get (global image).log op.number ≡ None
  -- a site of the operation that is attached
  pub location : Text
  pub own : IsOneOf (sites_of op) location
  pub here : IsAttachedIn image location
  -- some row there has its mark
  pub not_yet : HasNoMark op (locals_at image location) → ⊥
  -- the change is that of settling, in the store of the shard there
  pub place_is : place ≡ Shard location
  pub edits : change ≡ to_settle op (locals_at image location)
  -- where it is made, the rows there are settled
  pub last : Locals
  pub settled : IsSettled op.number (locals_at image location) last
  -- and nothing else is changed
  pub is : changed_at image place change ≡ with_locals image location last

-- ---- local steps

-- the site of a mapping, if there is one, and that of another one
abbrev pub sites_with : Option Piece → Option Piece → List Text
sites_with piece done = locations_of (option_to_list piece) ++ locations_of (option_to_list done)

-- A local step was tried, or there was nothing to do; `ok` says that the call succeeded, and `memory` that it failed for want of memory.
pub record Marks (op : Op) (sites : List Text) (ok memory : Type 0) (image : Image) (hs : List Happening) : Type 0 where
  -- nothing was tried but local steps of the operation
  pub course : IsCourse (StepsAt op) image hs
  -- and at most one
  pub few : length hs ≤ 1
  -- where all went well the operation is under way with these sites done
  pub done : ok → IsUnderWay (after_all image hs) op sites
  -- for want of memory it wasn't tried
  pub untried : memory → hs ≡ []

-- ---- the commit

-- The commit was tried, or nothing; `ok` says that the call succeeded, and `memory` that it failed for want of memory.
pub record Commits (op : Op) (ok memory : Type 0) (image : Image) (hs : List Happening) : Type 0 where
  -- nothing was tried but the commit
  pub course : IsCourse (CommitsOp op) image hs
  -- and at most once
  pub few : length hs ≤ 1
  -- where all went well it is made
  pub committed : ok → after_all image hs ≡ committed_image image op
  -- for want of memory it wasn't tried
  pub untried : memory → hs ≡ []

-- ---- settling

-- Settling was tried at a site, or there was nothing to do; `ok` says that the call succeeded.
pub record Settles (op : Op) (location : Text) (ok : Type 0) (image : Image) (hs : List Happening) : Type 0 where
  -- nothing was tried but to settle the operation
  pub course : IsCourse (SettlesAt op) image hs
  -- and at most once
  pub few : length hs ≤ 1
  -- where all went well no row there has its mark, if the site is attached
  pub clean : ok → IsAttachedIn image location → HasNoMark op (locals_at (after_all image hs) location)

-- So at a site, if there is one.
pub record SettlesIf (op : Op) (location : Option Text) (ok : Type 0) (image : Image) (hs : List Happening) : Type 0 where
  -- nothing was tried but to settle the operation
  pub course : IsCourse (SettlesAt op) image hs
  -- and at most once
  pub few : length hs ≤ 1
  -- where all went well no row there has its mark, if the site is attached
  pub clean : ok → (l : Text) → location ≡ Some l → IsAttachedIn image l → HasNoMark op (locals_at (after_all image hs) l)

-- The sites were settled one after the other, each that is attached, or some of them; `ok` says that the call succeeded.
pub record SettlesBoth (op : Op) (ok : Type 0) (image : Image) (hs : List Happening) : Type 0 where
  -- nothing was tried but to settle the operation
  pub course : IsCourse (SettlesAt op) image hs
  -- and at most twice
  pub few : length hs ≤ 2
  -- where all went well no row at an attached site of it has its mark
  pub clean : ok → (location : Text) → IsOneOf (sites_of op) location → IsAttachedIn image location → HasNoMark op (locals_at (after_all image hs) location)

-- ---- stages

-- What is carried of an operation that is committed.
pub record IsCommitted (op : Op) (image : Image) : Type 0 where
  -- no log row has its number, which was given
  pub out : IsOutOfLog (mark_tables image) op
  -- no row has its mark at an attached site where it has no mapping
  pub elsewhere : NoMarksElsewhere image op
  -- it has at most two sites
  pub sites : AreAtMostTwo (sites_of op)
  -- and the world knows them
  pub known : (location : Text) → IsOneOf (sites_of op) location → IsTrue (is_among image.locations location)

-- What is carried of an operation at a stage: at which sites its local step is made, up to its commit.
abbrev pub AtStage : Op → StageName → Image → Type 0
AtStage op Logged image = IsUnderWay image op []
AtStage op SourceDone image = IsUnderWay image op (locations_of (option_to_list op.olds.one))
AtStage op TargetDone image = IsUnderWay image op (sites_with op.news.one op.olds.one)
AtStage op Committed image = IsCommitted op image
AtStage op Settled image = IsCommitted op image × Marked image op Settled

-- how many transactions are tried at most: one, but when it settles one at each of its sites, and then none
abbrev pub most_tries : StageName → ℕ
most_tries Logged = 1
most_tries SourceDone = 1
most_tries TargetDone = 1
most_tries Committed = 2
most_tries Settled = 0

-- a transaction of an operation that goes on
pub data AdvanceStep (op : Op) (image : Image) (place : Place) (change : List Edit) : Type 0 where
  Stepping : StepsAt op image place change → AdvanceStep op image place change
  Committing : CommitsOp op image place change → AdvanceStep op image place change
  Settling : SettlesAt op image place change → AdvanceStep op image place change

-- those that lead on from a stage: the local step, the local step, the commit, the settling, none
abbrev pub StepFrom : StageName → Op → Image → Place → List Edit → Type 0
StepFrom Logged op = StepsAt op
StepFrom SourceDone op = StepsAt op
StepFrom TargetDone op = CommitsOp op
StepFrom Committed op = SettlesAt op
StepFrom Settled op = λ image place change. ⊥

-- An operation went on from a stage; `ok` says that the call succeeded, and `memory` that it failed for want of memory.
pub record HasAdvanced (op : Op) (name : StageName) (ok memory : Type 0) (image : Image) (hs : List Happening) : Type 0 where
  -- nothing was tried but transactions that lead on from there
  pub course : IsCourse (StepFrom name op) image hs
  -- and no more than so many
  pub few : length hs ≤ most_tries name
  -- where all went well it has come to the next stage
  pub reached : ok → AtStage op (next_stage name) (after_all image hs)
  -- and from TargetDone on its commit is made, and nothing else
  pub committed : name ≡ TargetDone → ok → after_all image hs ≡ committed_image image op
  -- from each stage up to the commit, where it is one at most, none was tried for want of memory
  pub untried : most_tries name ≡ 1 → memory → hs ≡ []

abbrev pub Advances : Op → StageName → Type 0 → Type 0 → Image → List Happening → Type 0
Advances op name ok memory image hs = Sound image → AtStage op name image → HasAdvanced op name ok memory image hs
