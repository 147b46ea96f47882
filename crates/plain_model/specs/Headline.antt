-- The five parts of what a run promises.
use Rattle.std.specs.Prelude.{◌≡◌, ◌⊎◌, ℕ, ◌<◌, ◌≤◌, Bool, true, false, ◌&&◌, not, ◌==◌, List, [], ◌∷◌, ◌++◌, take, slice_get, find, Option, Some, None, IfSome, IsSome, if◌then◌else◌, is_some}
use Rattle.std.specs.Ordering.{is_gt}
use Rattle.cell_world.specs.Texts.{Text}
use Rattle.cell_world.specs.Keys.{is_among}
use Rattle.cell_world.specs.Stores.{Store, Stands, own_key}
use Rattle.cell_world.specs.Images.{Image, Trail, image_at, end_of_trail, global}
use Rattle.cell_world.specs.Plain.{PlainState, nobody, with_connections}
use Rattle.cell_world.specs.Meaning.{meaning}
use Rattle.cell_world.specs.Operations.{sites_of}
use Rattle.cell_world.specs.Sound.{Sound}
use Rattle.cell_world.specs.Counts.{Rose}
use Rattle.cell_world.specs.Orders.{cell_cmp}
use Rattle.cell_world.specs.Outside.{Outside, TellsContents, TellsTrail, IfContents, StoreRoseBy}
use Rattle.cell_world.specs.declared.cells.Cell.{Cell}
use Rattle.cell_world.specs.declared.cells.Cell.TheVariants as cell
use Rattle.plain_model.specs.declared.commands.Command.{Command}
use Rattle.plain_model.specs.declared.commands.Asked.{Asked}
use Rattle.plain_model.specs.declared.finish.Reason.{Reason}
use Rattle.plain_model.specs.declared.finish.RunStatus.{RunStatus}
use Rattle.plain_model.specs.declared.finish.RunStatus.TheVariants as status
use Rattle.plain_model.specs.declared.history.Entry.{Entry}
use Rattle.plain_model.specs.Refusing.{if_there}
use Rattle.plain_model.specs.Summary.{replies_of, counts_as_refused, is_fault, is_memory}
use Rattle.plain_model.specs.Timelines.{Past}
use Rattle.plain_model.specs.Follows.{Follows}
use Rattle.plain_model.specs.Legal.{AllGoing, Going, KeepsPromises}
use Rattle.plain_model.specs.ByMoments.{LegalByMoments}
use Rattle.plain_model.specs.Written.{Mode, WrittenByMoments, AllWritten}

-- ---- a script, and who has asked what

-- the session's commands in the script, in order
abbrev pub script_of : ℕ → List Asked → List Command
script_of session [] = []
script_of session (a ∷ script) = if a.session == session then a.command ∷ script_of session script else script_of session script

-- the commands of the session's entries with a reply
abbrev pub answered_by : ℕ → List Entry → List Command
answered_by session [] = []
answered_by session (e ∷ es) = if (e.session == session) && is_some e.reply then e.command ∷ answered_by session es else answered_by session es

-- the command of the session's first entry with a reply
abbrev pub first_answered : ℕ → List Entry → Option Command
first_answered session [] = None
first_answered session (e ∷ es) = if (e.session == session) && is_some e.reply then Some e.command else first_answered session es

-- how many entries are answered by a fault
abbrev pub faults : List Entry → ℕ
faults history = replies_of is_fault history

-- the last entry has a reply
abbrev pub EndsAnswered : List Entry → Type 0
EndsAnswered [] = ⊥
EndsAnswered (e ∷ []) = IsSome e.reply
EndsAnswered (e ∷ f ∷ es) = EndsAnswered (f ∷ es)

-- ---- statuses

-- The run stopped before its script was run to its end: with status 4 at a write, with status 6 for memory.
abbrev pub has_stopped : RunStatus → Bool
has_stopped status.WriteFault = true
has_stopped status.Memory = true
has_stopped other = false

-- status 0 or 1
abbrev pub is_done : RunStatus → Bool
is_done status.Done = true
is_done status.Refused = true
is_done other = false

-- status 5
abbrev pub is_store_fault : RunStatus → Bool
is_store_fault status.StoreFault = true
is_store_fault other = false

-- status 2, 3, 7 or 8
abbrev pub did_nothing : RunStatus → Bool
did_nothing (status.BadWords place) = true
did_nothing (status.BadScript line reason) = true
did_nothing status.ReadFault = true
did_nothing status.TooLong = true
did_nothing (status.UnknownLocation location) = true
did_nothing other = false

-- ---- 1: sound at each moment

pub record SoundAtEachMoment (trail : Trail) (t0 : ℕ) : Type 0 where
  pub sound : (t : ℕ) → t0 ≤ t → t ≤ end_of_trail trail → Sound (image_at trail t)

-- ---- 2: the history is legal

-- what a session has going at the end
pub record IsLeftGoing (stopped : Bool) (script : List Asked) (history : List Entry) (session : ℕ) (going : Option Going) : Type 0 where
  -- nothing, unless the run stopped
  pub none : stopped ≡ false → going ≡ None
  -- it is the next of its commands
  pub next : IfSome going (λ g. (rest : List Command) × (answered_by session history ++ g.command ∷ rest ≡ script_of session script))

pub record IsLegalHistory (stopped : Bool) (trail : Trail) (t0 : ℕ) (script : List Asked) (history : List Entry) : Type 0 where
  -- what each session has going at the end
  pub going : AllGoing
  pub left : (session : ℕ) → IsLeftGoing stopped script history session (going session)
  pub legal : LegalByMoments trail t0 going history

-- ---- 3: only what happened is written, and all of it

pub record OnlyWhatHappened (mode : Mode) (trail : Trail) (t0 : ℕ) (history : List Entry) (ending : RunStatus) : Type 0 where
  pub written : WrittenByMoments mode trail t0 history
  -- all of it, unless the status is 4 or 6
  pub all : has_stopped ending ≡ false → AllWritten mode trail t0 history
  -- where not all is written, the last entry is the one whose line failed or found no memory
  pub last : AllWritten mode trail t0 history ⊎ EndsAnswered history

-- ---- 4: each session's commands once and in order

-- an entry without a reply has the command of that session's next entry with one, or of its next command where the run stopped
abbrev pub HasItsCommand : Bool → List Asked → List Entry → Entry → Option Command → Type 0
HasItsCommand stopped script history e (Some command) = e.command ≡ command
HasItsCommand stopped script history e None = (stopped ≡ true) × ((rest : List Command) × (answered_by e.session history ++ e.command ∷ rest ≡ script_of e.session script))

pub record InOrder (stopped : Bool) (script : List Asked) (history : List Entry) : Type 0 where
  -- the commands of a session's entries with a reply are a front of its commands in the script
  pub front : (session : ℕ) → (rest : List Command) × (answered_by session history ++ rest ≡ script_of session script)
  -- entries without a reply are of the command that is under way
  pub silent : (i : ℕ) (e : Entry) → slice_get history i ≡ Some e → e.reply ≡ None
      → (later : List Entry) → take i history ++ e ∷ later ≡ history → HasItsCommand stopped script history e (first_answered e.session later)

-- each session's commands were answered, all of them
abbrev pub AllAnswered : List Asked → List Entry → Type 0
AllAnswered script history = (session : ℕ) → answered_by session history ≡ script_of session script

pub record EachOnceInOrder (script : List Asked) (history : List Entry) (ending : RunStatus) : Type 0 where
  pub in_order : InOrder (has_stopped ending) script history
  -- they are all of them where the status is 0 or 1
  pub all : is_done ending ≡ true → AllAnswered script history
  -- and where it is 5 and the history has a fault
  pub all_after_fault : is_store_fault ending ≡ true → 0 < faults history → AllAnswered script history

-- ---- 5: the status has its cause

-- the locations that a cell names, in the order of its fields
abbrev pub named_locations : Cell → List Text
named_locations (cell.Shard map location) = location ∷ []
named_locations (cell.Piece piece) = piece.location ∷ []
named_locations (cell.Log op) = sites_of op
named_locations (cell.Job job) = job.source ∷ job.target ∷ []
named_locations (cell.SiteState location state) = location ∷ []
named_locations other = []

-- the first of these locations that the world doesn't know
abbrev pub first_unknown : List Text → List Text → Option Text
first_unknown known locations = find (λ location. not (is_among known location)) locations

-- the first location in cell order that a cell of the global store names and the world doesn't know
pub record IsFirstUnknown (g : Store) (known : List Text) (location : Text) : Type 0 where
  -- a cell names it, before any other that the world doesn't know
  pub cell : Cell
  pub stands : Stands g cell
  pub names : first_unknown known (named_locations cell) ≡ Some location
  -- no cell before that one names one
  pub first : (other : Cell) → Stands g other → IsSome (first_unknown known (named_locations other)) → is_gt (cell_cmp (own_key cell) (own_key other)) ≡ false

-- What the words and the input say, which is defined where they are read.
pub record Causes : Type 1 where
  -- this is the place of the first word at which no accepted list of words goes on
  pub bad_words : ℕ → Type 0
  -- the script's first faulty line, and why it is
  pub bad_script : ℕ → Reason → Type 0
  -- the source gave more than 1,048,576 bytes
  pub too_long : Type 0
  -- the source's count of faults rose in the call
  pub source_rose : Type 0

-- where contents are told at the beginning, this is the first location that they name and the world doesn't know
abbrev pub IsUnknown : Outside → Text → Type 0
IsUnknown old location = IfContents old.told (λ image. IsFirstUnknown (global image) old.locations location)

-- none is the first such location where nothing is told
abbrev pub TellsUnknown : Outside → Text → Type 0
TellsUnknown old location = tells old.told
  where
    tells : Rattle.cell_world.specs.Outside.Told → Type 0
    tells (TellsContents image) = IsFirstUnknown (global image) old.locations location
    tells (TellsTrail trail) = IsFirstUnknown (global (image_at trail (end_of_trail trail))) old.locations location
    tells other = ⊥

-- with `memory` the history ends
abbrev pub EndsWithMemory : List Entry → Type 0
EndsWithMemory [] = Unit {0}
EndsWithMemory (e ∷ []) = Unit {0}
EndsWithMemory (e ∷ f ∷ es) = (if_there is_memory e.reply ≡ false) × EndsWithMemory (f ∷ es)

-- what each status says
abbrev pub StatusCause : Causes → Outside → Outside → List Entry → RunStatus → Type 0
-- no reply is a refusal, `pending`, `fault` or `memory`
StatusCause causes old new history status.Done = (replies_of counts_as_refused history ≡ 0) × (faults history ≡ 0) × (replies_of is_memory history ≡ 0)
-- some reply is a refusal or `pending`, and none is `fault` or `memory`
StatusCause causes old new history status.Refused = (0 < replies_of counts_as_refused history) × (faults history ≡ 0) × (replies_of is_memory history ≡ 0)
StatusCause causes old new history (status.BadWords place) = causes.bad_words place
StatusCause causes old new history (status.BadScript line reason) = causes.bad_script line reason
StatusCause causes old new history status.ReadFault = causes.source_rose
-- the sink count rose, and the last entry is the one whose line failed
StatusCause causes old new history status.WriteFault = Rose old.sink_faults new.sink_faults × EndsAnswered history
-- the store count rose, and a `fault` stands in the history, or it is empty and the opening failed; none is `memory`
StatusCause causes old new history status.StoreFault = StoreRoseBy 1 old new × ((0 < faults history) ⊎ (history ≡ [])) × (replies_of is_memory history ≡ 0)
StatusCause causes old new history status.Memory = Unit {0}
StatusCause causes old new history status.TooLong = causes.too_long
-- this is the first location that the stores name and the world doesn't know
StatusCause causes old new history (status.UnknownLocation location) = (is_among old.locations location ≡ false) × IsUnknown old location

-- the statuses that come of the words or of the reading
abbrev pub ends_by_reading : RunStatus → Bool
ends_by_reading (status.BadWords place) = true
ends_by_reading status.ReadFault = true
ends_by_reading status.TooLong = true
ends_by_reading status.Memory = true
ends_by_reading other = false

-- and those that come of the script, or of a read in the opening
abbrev pub ends_by_opening : RunStatus → Bool
ends_by_opening (status.BadScript line reason) = true
ends_by_opening status.StoreFault = true
ends_by_opening other = ends_by_reading other

-- A status comes exactly where its cause is, unless one comes that is looked for before it, or memory is short: first the words and the input.
pub record ComesByInput (causes : Causes) (ending : RunStatus) : Type 0 where
  -- first the words are looked at
  pub words : (place : ℕ) → causes.bad_words place → (ending ≡ status.BadWords place) ⊎ (ending ≡ status.Memory)
  -- then the source is read
  pub reading : causes.too_long → ends_by_reading ending ≡ true
  -- then the script
  pub script : (line : ℕ) (reason : Reason) → causes.bad_script line reason → (ending ≡ status.BadScript line reason) ⊎ (ends_by_reading ending ≡ true)

-- Then the stores are opened.
abbrev pub ComesByOpening : Outside → RunStatus → Type 0
ComesByOpening old ending = (location : Text) → TellsUnknown old location → (ending ≡ status.UnknownLocation location) ⊎ (ends_by_opening ending ≡ true)

-- Where the stores name an unknown location at the opening nothing is done, whatever the status.
abbrev pub LeavesUnknown : Outside → Outside → List Entry → Type 0
LeavesUnknown old new history = (location : Text) → TellsUnknown old location → (history ≡ []) × (new.told ≡ old.told)

-- What a status says besides its cause.
pub record KeepsToStatus (old new : Outside) (history : List Entry) (ending : RunStatus) : Type 0 where
  -- at most as many `fault` entries as the store count rose
  pub few_faults : StoreRoseBy (faults history) old new
  -- at most one `memory` entry, and none after it
  pub ends_with_memory : EndsWithMemory history
  -- for the statuses 2, 3, 7 and 8 the history is empty, and nothing was done
  pub nothing : did_nothing ending ≡ true → history ≡ []
  pub unchanged : did_nothing ending ≡ true → new.told ≡ old.told

pub record StatusHasCause (causes : Causes) (old new : Outside) (history : List Entry) (ending : RunStatus) : Type 0 where
  -- the status says what is so
  pub cause : StatusCause causes old new history ending
  -- and comes where it is so
  pub by_input : ComesByInput causes ending
  pub by_opening : ComesByOpening old ending
  -- an unknown location is found before anything is done
  pub unknown : LeavesUnknown old new history
  pub kept : KeepsToStatus old new history ending

-- ---- all five, over a world that tells its trail

-- a later trail of the same world goes on from an earlier one
pub record GoesOnFrom (earlier later : Trail) : Type 0 where
  pub start : later.start ≡ earlier.start  -- the same first image
  pub front : take (end_of_trail earlier) later.happened ≡ earlier.happened  -- and first what had happened

-- The run began where the trail was this long, with its end as moment t0.
pub record Headline (mode : Mode) (causes : Causes) (script : List Asked) (before : Trail) (old new : Outside) (history : List Entry) (ending : RunStatus) : Type 0 where
  -- the trail at the end
  pub trail : Trail
  pub told : new.told ≡ TellsTrail trail
  pub goes_on : GoesOnFrom before trail
  -- the five parts
  pub sound : SoundAtEachMoment trail (end_of_trail before)
  pub legal : IsLegalHistory (has_stopped ending) trail (end_of_trail before) script history
  pub written : OnlyWhatHappened mode trail (end_of_trail before) history ending
  pub served : EachOnceInOrder script history ending
  pub status : StatusHasCause causes old new history ending

-- ---- over a world that tells its contents alone

-- from a state on, each entry follows from the state before it to its own, and the last state is this one
abbrev pub FollowsTo : Past → PlainState → List Entry → PlainState → Type 0
FollowsTo past A [] last = A ≡ last
FollowsTo past A (e ∷ es) last = (B : PlainState) × Follows past A e B e.reply × FollowsTo (record { entry = e; before = with_connections A nobody } ∷ past) B es last

pub record IsLegalByStates (stopped : Bool) (first last : Image) (script : List Asked) (history : List Entry) : Type 0 where
  -- the first state is what the stores stood for, without connections
  pub end : PlainState
  pub follows : FollowsTo [] (meaning first) history end
  -- and the last is, but for connections, what they stand for at the end
  pub stands : with_connections end nobody ≡ meaning last
  -- what entries say of later ones is so, with what each session has going at the end
  pub going : AllGoing
  pub left : (session : ℕ) → IsLeftGoing stopped script history session (going session)
  pub promises : KeepsPromises going history

pub record HeadlineAlone (causes : Causes) (script : List Asked) (first : Image) (old new : Outside) (history : List Entry) (ending : RunStatus) : Type 0 where
  -- the contents at the end
  pub last : Image
  pub told : new.told ≡ TellsContents last
  -- which are sound
  pub sound : Sound last
  -- the parts that speak of no trail
  pub legal : IsLegalByStates (has_stopped ending) first last script history
  pub served : EachOnceInOrder script history ending
  pub status : StatusHasCause causes old new history ending
