-- What an entry's reply says of the trail: live operations, what a site holds after recovery, what was tried.
use Rattle.std.specs.Prelude.{◌≡◌, ◌⊎◌, ℕ, ◌≤◌, ◌^◌, Bool, true, false, ◌&&◌, ◌||◌, not, ◌==◌, List, [], ◌∷◌, ◌++◌, Option, Some, None, if◌then◌else◌, IsTrue}
use Rattle.std.specs.List.{list_any}
use Rattle.std.specs.FinMap as map
use Rattle.std.specs.Bool.{MatchBool}
use Rattle.cell_world.specs.Texts.{Text}
use Rattle.cell_world.specs.Lists.{SomeOf}
use Rattle.cell_world.specs.Keys.{same}
use Rattle.cell_world.specs.Spelled.{listed}
use Rattle.cell_world.specs.Stores.{Store, empty_store}
use Rattle.cell_world.specs.Images.{Image, Shard, Happening, Committed, Reopened, global}
use Rattle.cell_world.specs.Plain.{PlainState, Held, holds_nothing}
use Rattle.cell_world.specs.Meaning.{next_operation}
use Rattle.cell_world.specs.Operations.{hull_of, conflicts}
use Rattle.cell_world.specs.Jobs.{Replace, job_step}
use Rattle.cell_world.specs.Sound.{HasLog}
use Rattle.cell_world.specs.declared.operations.Op.{Op}
use Rattle.cell_world.specs.declared.operations.Piece.{Piece}
use Rattle.cell_world.specs.declared.operations.JobRow.{JobRow}
use Rattle.cell_world.specs.declared.operations.Extra.{Extra}
use Rattle.cell_world.specs.declared.operations.Reach.{Reach}
use Rattle.cell_world.specs.declared.operations.Reach.TheVariants as reach
use Rattle.cell_world.specs.declared.cells.Cell.TheVariants as cell
use Rattle.cell_world.specs.declared.cells.Status.TheVariants.{Offline}
use Rattle.cell_world.specs.declared.spans.Span.{Span}
use Rattle.cell_world.specs.declared.changes.Edit.{Edit}
use Rattle.cell_world.specs.declared.changes.Edit.TheVariants.{Put}
use Rattle.plain_model.specs.declared.commands.Command.{Command}
use Rattle.plain_model.specs.declared.commands.Command.TheVariants as command
use Rattle.plain_model.specs.declared.commands.Side.TheVariants as side
use Rattle.plain_model.specs.declared.replies.Difference.{Difference}
use Rattle.plain_model.specs.declared.replies.Reply.{Reply}
use Rattle.plain_model.specs.declared.replies.Reply.TheVariants as reply
use Rattle.plain_model.specs.declared.replies.Refusal.TheVariants as refused
use Rattle.plain_model.specs.declared.history.Entry.{Entry}
use Rattle.plain_model.specs.Differing.{clean}
use Rattle.plain_model.specs.Refusing.{refusal, mapping_of, nth_difference}
use Rattle.plain_model.specs.Steps.{plain_step, exchange_of, ended_under}
use Rattle.plain_model.specs.Timelines.{Timeline, Happened, Entered, image_of}
use Rattle.plain_model.specs.Near.{Near}
use Rattle.plain_model.specs.JobSteps.{asked_job, TakesJobStep, with_ended}

-- ---- log cells that are put

abbrev pub logs_put : List Edit → List Op
logs_put [] = []
logs_put (Put (cell.Log op) ∷ edits) = op ∷ logs_put edits
logs_put (edit ∷ edits) = logs_put edits

-- the log cells that a happening was to put
abbrev pub tried_by : Happening → List Op
tried_by (Committed place change took) = logs_put change
tried_by h = []

-- the change puts the log cell of this number
abbrev pub logs : ℕ → List Edit → Bool
logs number change = list_any (λ (op : Op). op.number == number) (logs_put change)

-- ---- live operations

-- A number is open from a commit, made or not, that was to put its log cell, until an entry names it.
abbrev pub is_open : ℕ → Timeline → Bool
is_open number [] = false
is_open number (Happened (Committed place change took) ∷ past) = logs number change || is_open number past
is_open number (Happened h ∷ past) = is_open number past
is_open number (Entered e ∷ past) = is_open number past && not (e.operation == number)

-- An operation is live from the commit of its log cell in this run until its commit, or until an entry names it.
pub record IsLive (start : Image) (past : Timeline) (op : Op) : Type 0 where
  -- it is in the log now
  pub logged : HasLog (global (image_of start past)).log op
  -- its log cell was put in this run, and no entry has named it since
  pub unnamed : is_open op.number past ≡ true

-- the log has a cell of this number
abbrev pub InLog : Image → ℕ → Type 0
InLog image number = map.contains_key (global image).log number ≡ true

-- Each open number stands in the log: no entry is owed.
abbrev pub NoneOwed : Image → Timeline → Type 0
NoneOwed start past = (number : ℕ) → is_open number past ≡ true → InLog (image_of start past) number

-- ---- what a command reaches

abbrev pub reach_of_piece : Text → Option Piece → Reach
reach_of_piece name None = reach.Nothing
reach_of_piece name (Some piece) = reach.Part name piece.span

abbrev pub reach_of_difference : Text → Option Difference → Reach
reach_of_difference name None = reach.Nothing
reach_of_difference name (Some difference) = reach.Part name difference.span

-- the hull of the olds and the news
abbrev pub reach_of_pieces : List Piece → Reach
reach_of_pieces [] = reach.Nothing
reach_of_pieces (p ∷ ps) = reach_of_hull (hull_of (p ∷ ps))
  where
    reach_of_hull : Option Span → Reach
    reach_of_hull None = reach.Nothing
    reach_of_hull (Some hull) = reach.Part p.map hull

-- A long operation reaches its hull; `lock` and `unlock` the mapping's span, `job` that of its mapping, `resolve` with `shard` the difference's;
-- `unshard` a shard, `detach` a site. Every other command reaches nothing.
abbrev pub reach_of_command : PlainState → Command → Reach
reach_of_command s (command.Lock name key token) = reach_of_piece name (mapping_of s name key)
reach_of_command s (command.Unlock name key token) = reach_of_piece name (mapping_of s name key)
reach_of_command s (command.Job name low high location batch) = reach_of_piece name (mapping_of s name low)
reach_of_command s (command.Resolve location name n side.Shard) = reach_of_difference name (nth_difference s location name n)
reach_of_command s (command.Unshard name location) = reach.Shard name location
reach_of_command s (command.Detach location) = reach.Whole location
reach_of_command s other = reach_of_pieces ((exchange_of s other).0 ++ (exchange_of s other).1)

-- `pending P` names the least live operation that conflicts with the command's reach
pub record IsLeastInWay (start : Image) (past : Timeline) (reached : Reach) (number : ℕ) : Type 0 where
  pub op : Op
  pub named : op.number ≡ number  -- it has the number
  pub live : IsLive start past op  -- it is live
  pub in_way : IsTrue (conflicts reached op)  -- and conflicts with what is reached
  -- no live one that does has a lesser number
  pub least : (other : Op) → IsLive start past other → IsTrue (conflicts reached other) → number ≤ other.number

-- ---- what a site holds after `detach` and `attach`

abbrev pub held_in : Store → Held
held_in store = record { locals = store.locals; rows = store.rows }

-- what the site had in the image just before the latest commit
abbrev pub before_commit : Image → Text → Timeline → Held
before_commit start location (Happened h ∷ past) = held_in ((image_of start past).at (Shard location))
before_commit start location past = holds_nothing

-- the site was reopened since the latest entry
abbrev pub was_reopened : Text → Timeline → Bool
was_reopened location (Happened (Reopened (Shard at) cells) ∷ past) = same location at || was_reopened location past
was_reopened location (Happened h ∷ past) = was_reopened location past
was_reopened location past = false

-- the cells of its last reopening since the latest entry
abbrev pub last_reopened : Text → Timeline → Store
last_reopened location (Happened (Reopened (Shard at) cells) ∷ past) = if same location at then cells else last_reopened location past
last_reopened location (Happened h ∷ past) = last_reopened location past
last_reopened location past = empty_store

-- what `attach` keeps of them
abbrev pub kept_of : PlainState → Text → Timeline → Held
kept_of A location past = held_in (clean A location (last_reopened location past))

-- an accepted `detach` leaves what stood just before its commit; an accepted `attach` came after a reopening, and leaves what is kept of its cells
abbrev pub HoldsThen : Image → Timeline → PlainState → PlainState → Command → Type 0
HoldsThen start past A B (command.Detach location) = B.held location ≡ before_commit start location past
HoldsThen start past A B (command.Attach location) = (was_reopened location past ≡ true) × (B.held location ≡ kept_of A location past)
HoldsThen start past A B other = Unit {0}

-- ---- what was tried

-- Since this session's previous entry a commit, made or not, was to put the log cell of such an operation, on such an image.
abbrev pub WasTried : Image → ℕ → (Image → Op → Type 0) → Timeline → Type 0
WasTried start session P [] = ⊥
WasTried start session P (Happened (Committed place change took) ∷ past) = SomeOf (P (image_of start past)) (logs_put change) ⊎ WasTried start session P past
WasTried start session P (Happened h ∷ past) = WasTried start session P past
WasTried start session P (Entered e ∷ past) = MatchBool (e.session == session) ⊥ (WasTried start session P past)

-- Since this session's previous entry a commit that was made put the log cell of such an operation, on such an image.
abbrev pub WasPut : Image → ℕ → (Image → Op → Type 0) → Timeline → Type 0
WasPut start session P [] = ⊥
WasPut start session P (Happened (Committed place change true) ∷ past) = SomeOf (P (image_of start past)) (logs_put change) ⊎ WasPut start session P past
WasPut start session P (Happened h ∷ past) = WasPut start session P past
WasPut start session P (Entered e ∷ past) = MatchBool (e.session == session) ⊥ (WasPut start session P past)

-- the operation of this number takes the mapping offline, and does no more
pub record TakesOffline (number : ℕ) (p : Piece) (op : Op) : Type 0 where
  pub numbered : op.number ≡ number
  pub old : listed op.olds ≡ p ∷ []  -- its one old is the mapping
  pub new : listed op.news ≡ record p { status = Offline } ∷ []

-- Once the putting of its own log cell was tried, a faulted `offline` has ended the connections of its mapping in both cases.
abbrev pub EndsIfTried : Image → Timeline → Entry → PlainState → PlainState → Option Piece → Type 0
EndsIfTried start past e A B None = Unit {0}
EndsIfTried start past e A B (Some p) = WasTried start e.session (λ (image : Image) (op : Op). TakesOffline e.operation p op) past → B.connections ≡ ended_under (Some p) A.connections

-- the job's next step, with the batch end of now, takes the mapping offline
abbrev pub IsOfflineNow : PlainState → JobRow → Piece → Type 0
IsOfflineNow A job p = (put : Extra) × (job_step A job ≡ Replace (p ∷ []) (record p { status = Offline } ∷ []) put)

pub record FaultInJob (start : Image) (past : Timeline) (e : Entry) (A B : PlainState) (job : JobRow) : Type 0 where
  -- so in a job
  pub tried : (p : Piece) → WasTried start e.session (λ (image : Image) (op : Op). TakesOffline e.operation p op) past → B.connections ≡ ended_under (Some p) A.connections
  -- connections end without the step only where it is the offline, or where the one that was tried is
  pub cause : (B ≡ A) ⊎ TakesJobStep A B job
      ⊎ ((p : Piece) × (IsOfflineNow A job p ⊎ WasTried start e.session (λ (image : Image) (op : Op). TakesOffline e.operation p op) past) × (B ≡ with_ended A (Some p)))

-- a faulted `attach` left the old state, or came after a reopening and left the state that an accepted one gives
abbrev pub FaultOnTrail : Image → Timeline → Entry → PlainState → PlainState → Command → Option JobRow → Type 0
FaultOnTrail start past e A B (command.Offline name key token) job = EndsIfTried start past e A B (mapping_of A name key)
FaultOnTrail start past e A B (command.Attach location) job = Near B A
    ⊎ ((was_reopened location past ≡ true) × Near B (plain_step (kept_of A location past) A e.session e.command).0)
FaultOnTrail start past e A B c None = Unit {0}
FaultOnTrail start past e A B c (Some job) = FaultInJob start past e A B job

-- ---- all replies

-- What the reply says of the trail up to the entry.
abbrev pub OnTrail : Image → Timeline → PlainState → Entry → PlainState → Option Reply → Type 0
OnTrail start past A e B (Some reply.Ok) = HoldsThen start past A B e.command
OnTrail start past A e B (Some (reply.Pending number)) = IsLeastInWay start past (reach_of_command A e.command) number
OnTrail start past A e B (Some reply.Fault) = FaultOnTrail start past e A B e.command (asked_job A e.command)
-- the plain step refuses so, or the counter's operation number is 2^63
OnTrail start past A e B (Some (reply.Refused refused.Full)) = (refusal A e.session e.command ≡ Some refused.Full) ⊎ (next_operation (image_of start past) ≡ 2 ^ 63)
OnTrail start past A e B answer = Unit {0}
