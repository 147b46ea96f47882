-- What holds of a core of several sessions between two events.
use Rattle.std.specs.Prelude.{◌≡◌, ℕ, ◌+◌, true, [], length, Option, Some, None}
use Rattle.cell_world.specs.Texts.{Text}
use Rattle.cell_world.specs.Images.{Image, Happening, after_one, global}
use Rattle.cell_world.specs.Plain.{Connections, with_connections}
use Rattle.cell_world.specs.Meaning.{meaning}
use Rattle.cell_world.specs.Sound.{Sound, HasLog}
use Rattle.cell_world.specs.declared.operations.Op.{Op}
use Rattle.plain_model.specs.declared.commands.Command.{Command}
use Rattle.plain_model.specs.declared.replies.Reply.{Reply}
use Rattle.plain_model.specs.declared.history.Entry.{Entry}
use Rattle.plain_model.specs.JobSteps.{asked_number, asked_job}
use Rattle.plain_model.specs.Timelines.{Past, Timeline, image_of, facts_of, happened_of, past_of}
use Rattle.plain_model.specs.Follows.{Follows}
use Rattle.plain_model.specs.OnTrail.{OnTrail, WasTried, is_open, tried_by}
use Rattle.plain_model.specs.Legal.{KeepsPromises, IsPlanned, IsPlannedIn, IsOwnOf, MayHappen}
use Rattle.plain_model.specs.GoingOn.{NamesOperations, TriesNumbered}
use Rattle.plain_model.specs.RunSoFar.{Looks}
use Rattle.plain_model.specs.Written.{Mode}
use Rattle.plain_model.specs.Running.{Owing, Recovering, bytes_of}
use Rattle.plain_model.specs.RunningAlone.{RunningAlone, entries_of}
use Rattle.session_laws.specs.Doing.{AllDoing, Doing, Live, live_of, command_of, going_of, all_going}

-- ---- live operations

-- what a session relies on of the stores. `More` is what else its command needs, which each kind of command brings.
pub record Stands (More : ℕ → Live → Image → Type 0) (session : ℕ) (l : Live) (image : Image) : Type 0 where
  -- the log cell stands
  pub logged : HasLog (global image).log l.op
  -- outside of jobs the operation is still the command's exchange
  pub exchange : (connections : Connections) → asked_number l.command ≡ None → IsOwnOf (with_connections (meaning image) connections) l.command None image l.op
  -- how far it came, and what the command's entry will need
  pub more : More session l image

-- the operation is what a command tries
abbrev pub IsTriedFor : Option ℕ → Image → Op → Type 0
IsTriedFor None image op = Unit {0}
IsTriedFor (Some number) image op = IsPlannedIn image number op

-- the session's operation is open, and it was tried by this session
pub record IsOpen (start : Image) (past : Timeline) (session : ℕ) (l : Live) : Type 0 where
  pub unnamed : is_open l.op.number past ≡ true
  pub tried : WasTried start session (λ (image : Image) (op : Op). (op ≡ l.op) × IsTriedFor (asked_number l.command) image op) past

-- so it is of each session
abbrev pub AllStand : (ℕ → Live → Image → Type 0) → AllDoing → Image → Type 0
AllStand More doing image = (session : ℕ) (l : Live) → live_of (doing session) ≡ Some l → Stands More session l image

-- and of each but one
abbrev pub OthersStand : (ℕ → Live → Image → Type 0) → AllDoing → ℕ → Image → Type 0
OthersStand More doing session image = (other : ℕ) (l : Live) → (session ≡ other → ⊥) → live_of (doing other) ≡ Some l → Stands More other l image

-- ---- the sessions, on a world that tells its trail

-- What holds of the sessions beside the run so far. It goes along with any record of the run: `Owing` between events, `Recovering` inside `attach` and `clear`.
pub record Sessions (More : ℕ → Live → Image → Type 0) (start : Image) (past : Timeline) (doing : AllDoing) : Type 0 where
  pub sound : Sound (image_of start past)
  pub tries : TriesNumbered past
  -- what looks ahead
  pub looks : Looks (all_going doing) past
  -- the live operations stand
  pub stand : AllStand More doing (image_of start past)
  -- and are open
  pub are_open : (session : ℕ) (l : Live) → live_of (doing session) ≡ Some l → IsOpen start past session l
  -- each number is one session's
  pub one : (s t : ℕ) (l m : Live) → live_of (doing s) ≡ Some l → live_of (doing t) ≡ Some m → l.op.number ≡ m.op.number → s ≡ t
  -- and so is each job
  pub one_job : (s t : ℕ) (c d : Command) (number : ℕ) → command_of (doing s) ≡ Some c → command_of (doing t) ≡ Some d → asked_number c ≡ Some number → asked_number d ≡ Some number → s ≡ t

-- ---- the core

-- between two events, with these lines still to be written
pub record Core (More : ℕ → Live → Image → Type 0) (since : ℕ) (start : Image) (mode : Mode) (past : Timeline) (connections : Connections) (rest : Text) (doing : AllDoing) : Type 0 where
  -- the run so far
  pub owing : Owing since start mode past connections rest
  pub sessions : Sessions More start past doing

-- inside `attach` and `clear`, where the stores stand for the state of the latest entry up to near
pub record CoreRecovering (More : ℕ → Live → Image → Type 0) (since : ℕ) (start : Image) (mode : Mode) (past : Timeline) (connections : Connections) (rest : Text) (doing : AllDoing) : Type 0 where
  pub recovering : Recovering since start mode past connections rest
  pub sessions : Sessions More start past doing

-- ---- the core, on a world that tells its contents alone

pub record CoreAlone (More : ℕ → Live → Image → Type 0) (first : Image) (past : Past) (connections : Connections) (image : Image) (doing : AllDoing) : Type 0 where
  pub run : RunningAlone first past connections image
  -- what entries say of later ones is so, if the run ended now
  pub promises : KeepsPromises (all_going doing) (entries_of past)
  pub pendings : NamesOperations (entries_of past)
  -- the live operations stand
  pub stand : AllStand More doing image
  pub one : (s t : ℕ) (l m : Live) → live_of (doing s) ≡ Some l → live_of (doing t) ≡ Some m → l.op.number ≡ m.op.number → s ≡ t
  pub one_job : (s t : ℕ) (c d : Command) (number : ℕ) → command_of (doing s) ≡ Some c → command_of (doing t) ≡ Some d → asked_number c ≡ Some number → asked_number d ≡ Some number → s ≡ t

-- ---- what an entry brings of its own

-- what a command shows of its entry: its reply follows, by states and on the trail, and a step of a job was planned
pub record Answers (since : ℕ) (start : Image) (past : Timeline) (e : Entry) (before after : Connections) : Type 0 where
  pub moment : e.moment ≡ since + length (happened_of past)
  pub follows : Follows (past_of start past) (with_connections (facts_of start past) before) e (with_connections (meaning (image_of start past)) after) e.reply
  pub on_trail : OnTrail start past (with_connections (facts_of start past) before) e (with_connections (meaning (image_of start past)) after) e.reply
  pub planned : IsPlanned start past (with_connections (facts_of start past) before) e (with_connections (meaning (image_of start past)) after) (asked_job (facts_of start past) e.command)

-- what the session does after the entry: with a reply nothing is going, without one its command is, without an operation
pub record Leaves (e : Entry) (next : Doing) : Type 0 where
  pub no_operation : live_of next ≡ None
  pub answered : (r : Reply) → e.reply ≡ Some r → going_of next ≡ None
  pub going : e.reply ≡ None → going_of next ≡ Some (record { command = e.command; operation = 0 })

-- what happens within one operation or between operations: it writes nothing and tries no log cell
pub record Quiet (start : Image) (past : Timeline) (h : Happening) : Type 0 where
  pub silent : bytes_of h ≡ []
  pub tries : tried_by h ≡ []
  pub may : MayHappen start past h
  pub sound : Sound (after_one (image_of start past) h)

-- the sessions do the same but for stages and what is to be settled
pub record SameGoing (doing next : AllDoing) : Type 0 where
  pub going : (session : ℕ) → going_of (next session) ≡ going_of (doing session)
  pub live : (session : ℕ) (l : Live) → live_of (next session) ≡ Some l → (m : Live) × (live_of (doing session) ≡ Some m) × (m.op ≡ l.op) × (m.command ≡ l.command)
