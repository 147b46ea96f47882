-- The run so far, as the world tells it: on its trail, or by the states of its contents.
use Rattle.std.specs.Prelude.{◌≡◌, ◌⊎◌, ℕ, ◌≤◌, Bool, true, List, [], drop, None}
use Rattle.cell_world.specs.Texts.{Text}
use Rattle.cell_world.specs.Images.{Image, Trail, image_at, end_of_trail}
use Rattle.cell_world.specs.Plain.{Connections}
use Rattle.cell_world.specs.Sound.{Sound}
use Rattle.cell_world.specs.Outside.{Told, TellsContents, TellsTrail}
use Rattle.plain_model.specs.declared.commands.Asked.{Asked}
use Rattle.plain_model.specs.declared.finish.RunStatus.{RunStatus}
use Rattle.plain_model.specs.declared.history.Entry.{Entry}
use Rattle.plain_model.specs.Timelines.{Timeline, Past, happened_of, history_of}
use Rattle.plain_model.specs.Legal.{AllGoing, KeepsPromises, AreNamed}
use Rattle.plain_model.specs.GoingOn.{NamesOperations}
use Rattle.plain_model.specs.Written.{Mode}
use Rattle.plain_model.specs.Running.{Owing}
use Rattle.plain_model.specs.RunningAlone.{RunningAlone, entries_of}
use Rattle.plain_model.specs.Headline.{GoesOnFrom, IsLeftGoing, EndsAnswered, has_stopped, SoundAtEachMoment, IsLegalHistory, OnlyWhatHappened, IsLegalByStates}

-- what a run has come to
pub record Course : Type 0 where
  pub history : List Entry  -- its entries, in order
  pub going : AllGoing  -- by session: what it has going now

-- no session has anything going
abbrev pub nothing_going : AllGoing
nothing_going session = None

abbrev pub resting : List Entry → Course
resting history = record { history = history; going = nothing_going }

-- ---- over a world that tells its trail

-- The timeline is what came since moment t0 of the trail, at which the stores were these.
pub record IsSince (t0 : ℕ) (start : Image) (trail : Trail) (past : Timeline) : Type 0 where
  pub began : t0 ≤ end_of_trail trail  -- a moment of the trail
  pub starts : image_at trail t0 ≡ start  -- where the stores were these
  pub happened : happened_of past ≡ drop t0 trail.happened  -- what happened since is on the trail

-- What entries and tries say of later entries is so, if the run ended now.
pub record Looks (going : AllGoing) (past : Timeline) : Type 0 where
  pub promises : KeepsPromises going (history_of past)
  pub pendings : NamesOperations (history_of past)  -- no entry is answered `pending 0`
  pub named : AreNamed going past []  -- each operation that was tried is named

-- The run so far: it began at moment t0 with these stores, its trail and course are these, and this is still to be written.
pub record RunsOn (mode : Mode) (t0 : ℕ) (start : Image) (trail : Trail) (course : Course) (rest : Text) : Type 0 where
  -- what came in which order
  pub past : Timeline
  -- who is connected now
  pub connections : Connections
  pub since : IsSince t0 start trail past
  pub entries : history_of past ≡ course.history
  -- each step was allowed, and of the lines of the entries all but the rest is written
  pub owing : Owing t0 start mode past connections rest
  pub looks : Looks course.going past

-- the trail that is told goes on from this one, and the run with it
pub record HasGoneOn (mode : Mode) (t0 : ℕ) (start : Image) (before : Trail) (new : Told) (course : Course) (rest : Text) : Type 0 where
  -- the trail now
  pub trail : Trail
  pub told : new ≡ TellsTrail trail
  pub goes_on : GoesOnFrom before trail
  pub runs : RunsOn mode t0 start trail course rest

-- Whatever run was so far, with nothing left to write, goes on so.
abbrev pub KeepsRun : Mode → Told → Course → Told → Course → Text → Type 0
KeepsRun mode old before new after rest = (t0 : ℕ) (start : Image) (trail : Trail) → old ≡ TellsTrail trail → RunsOn mode t0 start trail before [] → HasGoneOn mode t0 start trail new after rest

-- ---- over a world that tells its contents alone

-- The run so far: it began with the first image, it stands at this one, and its course is this.
pub record RunsTo (first image : Image) (course : Course) : Type 0 where
  -- the entries, each with the state before it
  pub past : Past
  -- who is connected now
  pub connections : Connections
  pub entries : entries_of past ≡ course.history  -- they are those of the history
  pub run : RunningAlone first past connections image  -- each follows from the state before it, up to this image
  -- what entries say of later ones is so, if the run ended now
  pub promises : KeepsPromises course.going (entries_of past)
  pub pendings : NamesOperations (entries_of past)

-- the contents that are told are those to which the run came
pub record HasGoneTo (first : Image) (new : Told) (course : Course) : Type 0 where
  -- the contents now
  pub image : Image
  pub told : new ≡ TellsContents image
  pub runs : RunsTo first image course

abbrev pub KeepsContents : Told → Course → Told → Course → Type 0
KeepsContents old before new after = (first image : Image) → old ≡ TellsContents image → RunsTo first image before → HasGoneTo first new after

-- ---- at the end

-- nothing is left to write, or the run stopped at the line of its last entry
abbrev pub EndsWritten : Text → RunStatus → List Entry → Type 0
EndsWritten rest ending history = (rest ≡ []) ⊎ ((has_stopped ending ≡ true) × EndsAnswered history)

-- what each session has going may be left at the end
abbrev pub AreLeftGoing : Bool → List Asked → List Entry → AllGoing → Type 0
AreLeftGoing stopped script history going = (session : ℕ) → IsLeftGoing stopped script history session (going session)

-- What holds of a run, from a sound image on, over a world that tells its trail: of the five parts those that speak of the trail.
pub record HoldsOnTrail (mode : Mode) (stopped : Bool) (script : List Asked) (before : Trail) (new : Told) (history : List Entry) (ending : RunStatus) : Type 0 where
  -- the trail at the end
  pub trail : Trail
  pub told : new ≡ TellsTrail trail
  pub goes_on : GoesOnFrom before trail
  -- the three parts
  pub sound : SoundAtEachMoment trail (end_of_trail before)
  pub legal : IsLegalHistory stopped trail (end_of_trail before) script history
  pub written : OnlyWhatHappened mode trail (end_of_trail before) history ending

-- What holds of it over a world that tells its contents alone.
pub record HoldsByStates (stopped : Bool) (script : List Asked) (first : Image) (new : Told) (history : List Entry) : Type 0 where
  -- the contents at the end
  pub last : Image
  pub told : new ≡ TellsContents last
  pub sound : Sound last
  pub legal : IsLegalByStates stopped first last script history
