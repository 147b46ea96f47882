-- What holds of the parts of a core between two events.
use Rattle.std.specs.Prelude.{◌≡◌, ◌≤◌, ℕ, List, [], false, Option, Some, None, IfSome}
use Rattle.cell_world.specs.Images.{Image, Trail, global, image_at, end_of_trail}
use Rattle.cell_world.specs.Keys.{is_among}
use Rattle.cell_world.specs.Meaning.{meaning, next_operation}
use Rattle.cell_world.specs.Outside.{Outside, Told, TellsContents, TellsTrail, IfContents, StoreRoseBy}
use Rattle.cell_world.specs.Sound.{Sound}
use Rattle.cell_world.specs.Texts.{Text}
use Rattle.cell_world.specs.declared.operations.Op.{Op}
use Rattle.plain_model.specs.Headline.{IsUnknown}
use Rattle.global_tables.specs.Known.{Known}
use Rattle.plain_model.specs.Journals.{Journaled}
use Rattle.plain_model.specs.Written.{Mode}
use Rattle.plain_model.specs.declared.history.Entry.{Entry}
use Rattle.operation_laws.specs.Left.{left_of}
use Rattle.session_laws.specs.Contract.{Seen, at_rest, CoreOn, CoreGoesOn, CoreGoesTo}
use Rattle.session_laws.specs.Core.{SameGoing}
use Rattle.session_laws.specs.Doing.{AllDoing}
use Rattle.site_names.specs.Named.{TellsFirst}
use Rattle.manager_core.specs.declared.doings.Doing.{Doing}
use Rattle.manager_core.specs.declared.manager.StopCause.{StopCause}
use Rattle.manager_core.specs.declared.opening.StartFault.{StartFault}
use Rattle.manager_core.specs.declared.opening.StartFault.TheVariants as start
use Rattle.manager_core.specs.declared.opening.Tail.{Tail}
use Rattle.manager_core.specs.declared.opening.Tail.TheVariants as tail
use Rattle.manager_core.specs.Answering.{NoLog, IsCopy}
use Rattle.manager_core.specs.Coming.{IsTidied, SettleSteps}
use Rattle.manager_core.specs.Doings.{all_doing}
use Rattle.manager_core.specs.Steady.{AreSteady, Becomes, IsSettledOp, seen_with}

-- the parts of a core and its outside, before an event or after one
pub record Parts : Type 0 where
  pub outside : Outside
  pub history : List Entry  -- in order
  pub doing : AllDoing  -- by session: what it does
  pub known : Option Known  -- the copy of the tables; none where it is to be read again
  pub stop : Option StopCause  -- why it takes no more events

abbrev pub parts : Outside → List Entry → List Doing → Option Known → Option StopCause → Parts
parts outside history doings known stop = record { outside = outside; history = history; doing = all_doing doings; known = known; stop = stop }

abbrev pub seen_of : Parts → Seen
seen_of p = seen_with p.history p.doing

-- The stores are steady beside what the sessions do; and until it stops the copy of the tables, where there is one, is what the global cells say.
pub record IsReady (p : Parts) : Type 0 where
  pub steady : AreSteady p.doing p.outside
  pub copy : p.stop ≡ None → IfSome p.known (λ known. IsCopy known p.outside.told)

-- Until it stops there is room for one entry more.
abbrev pub HasRoom : Journaled → Option StopCause → Type 0
HasRoom journal stop = stop ≡ None → 1 ≤ journal.room

-- ---- at the start

-- Why a core can't begin: the store count rose; or this is the first location that the stores name and the world doesn't know, and nothing was changed.
abbrev pub FaultHasCause : Outside → Outside → StartFault → Type 0
FaultHasCause old new start.Store = StoreRoseBy 1 old new
FaultHasCause old new start.Memory = Unit {0}
FaultHasCause old new (start.UnknownLocation location) = (is_among old.locations location ≡ false) × IsUnknown old location × (new.told ≡ old.told)

-- the world knows all locations that the global store names
abbrev pub KnowsAll : Outside → Type 0
KnowsAll old = IfContents old.told (λ image. TellsFirst (global image) old.locations None)

-- What the opening makes of the stores, wherever it stops: a core begins there that rests, and goes on.
pub record Opens (old new : Told) : Type 0 where
  -- from a sound image on, over a world that tells its trail
  pub on_trail : (mode : Mode) (before : Trail) → old ≡ TellsTrail before → Sound (image_at before (end_of_trail before))
      → CoreGoesOn mode (end_of_trail before) (image_at before (end_of_trail before)) before new (at_rest []) []
  -- and over one that tells its contents alone
  pub by_states : (first : Image) → old ≡ TellsContents first → Sound first → CoreGoesTo first new (at_rest [])

-- The stores stand for the same as before, the next number stays, and no operation is logged.
pub record IsRecovered (first last : Image) : Type 0 where
  pub same : meaning last ≡ meaning first
  pub number : next_operation last ≡ next_operation first
  pub no_log : NoLog last

-- From a sound image on, the stores are recovered.
abbrev pub AreRecovered : Told → Told → Type 0
AreRecovered old new = IfContents old (λ first. Sound first → IfContents new (λ last. IsRecovered first last))

-- ---- at the end

-- Whatever the core was, with whatever lines still to be written, it goes on so.
abbrev pub KeepsWaiting : Mode → Told → Seen → Told → Seen → Type 0
KeepsWaiting mode old before new after = (rest : Text) (t0 : ℕ) (start : Image) (trail : Trail) → old ≡ TellsTrail trail → CoreOn mode t0 start trail before rest → CoreGoesOn mode t0 start trail new after rest

-- so where the stores are steady beside what the sessions do, who do this afterwards
abbrev pub Waits : Outside → Outside → AllDoing → AllDoing → Type 0
Waits old new before after = AreSteady before old → (mode : Mode) (history : List Entry) → KeepsWaiting mode old.told (seen_with history before) new.told (seen_with history after)

-- What was left to settle was settled, of one session after the other; after a failure some may be left.
pub record Finishes (p : Parts) (new : Outside) (ending : Tail) : Type 0 where
  -- what the sessions do then: the same, but for what was to be settled
  pub after : AllDoing
  pub going : SameGoing p.doing after
  -- the core goes on, whatever lines are still to be written
  pub becomes : Becomes p.outside new p.doing after
  pub waits : Waits p.outside new p.doing after
  -- nothing was tried but to settle what some session has left
  pub tidied : AreSteady p.doing p.outside → IsTidied (SettleSteps p.doing) p.outside.told new.told
  -- Settled: nothing is left
  pub none : ending ≡ tail.Settled → (session : ℕ) → left_of (after session) ≡ None
  pub settles : ending ≡ tail.Settled → AreSteady p.doing p.outside → (session : ℕ) (op : Op) → left_of (p.doing session) ≡ Some op → IfContents new.told (IsSettledOp op)
  -- Store: the store count rose
  pub cause : ending ≡ tail.Store → StoreRoseBy 1 p.outside new
