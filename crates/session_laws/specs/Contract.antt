-- What a core's public contract speaks of: the core on the trail that its world tells, from the moment at which it began.
use Rattle.std.specs.Prelude.{◌≡◌, ℕ, List, [], None}
use Rattle.cell_world.specs.Texts.{Text}
use Rattle.cell_world.specs.Images.{Image, Trail}
use Rattle.cell_world.specs.Plain.{Connections, nobody}
use Rattle.cell_world.specs.Outside.{Told, TellsContents, TellsTrail}
use Rattle.plain_model.specs.declared.history.Entry.{Entry}
use Rattle.plain_model.specs.Timelines.{Timeline, Past, history_of}
use Rattle.plain_model.specs.Written.{Mode}
use Rattle.plain_model.specs.RunningAlone.{entries_of}
use Rattle.plain_model.specs.Headline.{GoesOnFrom}
use Rattle.plain_model.specs.RunSoFar.{Course, IsSince}
use Rattle.session_laws.specs.Doing.{AllDoing, Resting, all_going}
use Rattle.session_laws.specs.Core.{Core, CoreAlone}
use Rattle.session_laws.specs.Needs.{Needs}

-- the parts of a core that its callers see
pub record Seen : Type 0 where
  pub history : List Entry  -- in order
  pub doing : AllDoing  -- by session
  pub connections : Connections  -- who is connected

-- what the run has come to
abbrev pub course_of : Seen → Course
course_of seen = record { history = seen.history; going = all_going seen.doing }

-- Every session rests, nothing is to be settled, and nobody is connected.
abbrev pub all_rest : AllDoing
all_rest session = Resting None

abbrev pub at_rest : List Entry → Seen
at_rest history = record { history = history; doing = all_rest; connections = nobody }

-- ---- over a world that tells its trail

-- The core began at moment t0 of the trail with these stores, and is this now; these lines are still to be written.
pub record CoreOn (mode : Mode) (t0 : ℕ) (start : Image) (trail : Trail) (seen : Seen) (rest : Text) : Type 0 where
  -- what came in which order
  pub past : Timeline
  pub since : IsSince t0 start trail past
  pub entries : history_of past ≡ seen.history
  -- what holds between two events
  pub core : Core Needs t0 start mode past seen.connections rest seen.doing

-- the trail that is told goes on from this one, and the core with it
pub record CoreGoesOn (mode : Mode) (t0 : ℕ) (start : Image) (before : Trail) (new : Told) (seen : Seen) (rest : Text) : Type 0 where
  -- the trail now
  pub trail : Trail
  pub told : new ≡ TellsTrail trail
  pub goes_on : GoesOnFrom before trail
  pub core : CoreOn mode t0 start trail seen rest

-- Whatever the core was, with nothing left to write, it goes on so.
abbrev pub KeepsCore : Mode → Told → Seen → Told → Seen → Text → Type 0
KeepsCore mode old before new after rest = (t0 : ℕ) (start : Image) (trail : Trail) → old ≡ TellsTrail trail → CoreOn mode t0 start trail before [] → CoreGoesOn mode t0 start trail new after rest

-- ---- over a world that tells its contents alone

-- the core began with the first image, and stands at this one
pub record CoreTo (first image : Image) (seen : Seen) : Type 0 where
  -- the entries, each with the state before it
  pub past : Past
  pub entries : entries_of past ≡ seen.history
  pub core : CoreAlone Needs first past seen.connections image seen.doing

-- the contents that are told are those to which it came
pub record CoreGoesTo (first : Image) (new : Told) (seen : Seen) : Type 0 where
  -- the contents now
  pub image : Image
  pub told : new ≡ TellsContents image
  pub core : CoreTo first image seen

abbrev pub KeepsCoreTo : Told → Seen → Told → Seen → Type 0
KeepsCoreTo old before new after = (first image : Image) → old ≡ TellsContents image → CoreTo first image before → CoreGoesTo first new after
