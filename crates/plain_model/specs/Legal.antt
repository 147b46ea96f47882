-- Which histories a run may have on a trail, with the order in which all came as the witness.
use Rattle.std.specs.Prelude.{◌≡◌, ◌≢◌, ◌⊎◌, ℕ, ◌+◌, Bool, true, false, ◌&&◌, ◌==◌, List, [], ◌∷◌, length, Option, Some, None, find, is_some}
use Rattle.std.specs.FinMap as map
use Rattle.cell_world.specs.Texts.{Text}
use Rattle.cell_world.specs.Spelled.{listed}
use Rattle.cell_world.specs.Images.{Image, Place, Global, Shard, Trail, Happening, Committed, Wrote, Reopened, global}
use Rattle.cell_world.specs.Plain.{PlainState, Connections, nobody, with_connections}
use Rattle.cell_world.specs.Meaning.{meaning, next_operation}
use Rattle.cell_world.specs.Jobs.{Replace, Finish, job_step}
use Rattle.cell_world.specs.Sound.{HasLog}
use Rattle.cell_world.specs.declared.operations.Op.{Op}
use Rattle.cell_world.specs.declared.operations.JobRow.{JobRow}
use Rattle.cell_world.specs.declared.cells.Away.TheVariants as away
use Rattle.cell_world.specs.declared.changes.Edit.{Edit}
use Rattle.plain_model.specs.declared.commands.Command.{Command}
use Rattle.plain_model.specs.declared.replies.Reply.{Reply}
use Rattle.plain_model.specs.declared.replies.Reply.TheVariants as reply
use Rattle.plain_model.specs.declared.replies.Refusal.TheVariants as refused
use Rattle.plain_model.specs.declared.history.Entry.{Entry}
use Rattle.plain_model.specs.Differing.{clean}
use Rattle.plain_model.specs.Refusing.{AcceptsJob}
use Rattle.plain_model.specs.Steps.{exchange_of}
use Rattle.plain_model.specs.Timelines.{Timeline, Happened, Entered, image_of, facts_of, happened_of, history_of, past_of}
use Rattle.plain_model.specs.Near.{Near}
use Rattle.plain_model.specs.JobSteps.{asked_number, asked_job, stepped}
use Rattle.plain_model.specs.Follows.{Follows}
use Rattle.plain_model.specs.OnTrail.{OnTrail, NoneOwed, WasTried, WasPut, logs_put, was_reopened}

-- ---- what may happen

-- The stores stand for the state after the latest entry, up to near.
abbrev pub IsAtRest : Image → Timeline → Type 0
IsAtRest start past = Near (meaning (image_of start past)) (facts_of start past)

-- The operation number of the counter changes only in a commit that puts one log cell: that has the number that stood, and the next stands afterwards.
abbrev pub KeepsCounter : ℕ → ℕ → List Op → Type 0
KeepsCounter old new [] = new ≡ old
KeepsCounter old new (op ∷ []) = (op.number ≡ old) × (new ≡ old + 1)
KeepsCounter old new ops = ⊥

-- One that wasn't made was to put one log cell at most, of the number that stands.
abbrev pub TriesNumber : ℕ → List Op → Type 0
TriesNumber next [] = Unit {0}
TriesNumber next (op ∷ []) = op.number ≡ next
TriesNumber next ops = ⊥

abbrev pub IsDetachedIn : Image → Text → Type 0
IsDetachedIn image location = map.get (global image).away location ≡ Some away.Detached

-- a commit at a detached site
pub record Mends (past : Timeline) (location : Text) (before after : Image) : Type 0 where
  -- comes after a reopening of it, with no entry between
  pub reopened : was_reopened location past ≡ true
  -- and leaves what `attach` would keep of its cells
  pub kept : clean (meaning before) location (after.at (Shard location)) ≡ clean (meaning before) location (before.at (Shard location))

-- a commit that was made: at the global store it keeps to the counter; at a shard it puts no log cell
abbrev pub MayCommit : Timeline → Place → List Edit → Image → Image → Type 0
MayCommit past Global change before after = KeepsCounter (next_operation before) (next_operation after) (logs_put change)
MayCommit past (Shard location) change before after = (logs_put change ≡ []) × (IsDetachedIn before location → Mends past location before after)

abbrev pub MayHappen : Image → Timeline → Happening → Type 0
MayHappen start past (Committed place change true) = MayCommit past place change (image_of start past) (image_of start (Happened (Committed place change true) ∷ past))
-- one that wasn't made was to put no log cell at a shard either, and came after a reopening too; at the global store it was to put one at most
MayHappen start past (Committed (Shard location) change false) = (logs_put change ≡ []) × (IsDetachedIn (image_of start past) location → was_reopened location past ≡ true)
MayHappen start past (Committed Global change false) = TriesNumber (next_operation (image_of start past)) (logs_put change)
MayHappen start past (Wrote bytes) = Unit {0}
-- no reopening concerns the global store
MayHappen start past (Reopened Global cells) = ⊥
MayHappen start past (Reopened (Shard location) cells) = Unit {0}

-- ---- steps of jobs were planned by the table

-- the operation is the job's next step in the image
pub record IsPlannedIn (image : Image) (number : ℕ) (op : Op) : Type 0 where
  -- the job of this number stands there
  pub job : JobRow
  pub stands : map.get (global image).jobs number ≡ Some job
  -- and the operation is the row of its table
  pub row : job_step (meaning image) job ≡ Replace (listed op.olds) (listed op.news) op.extra
  -- and the image accepts a step of the job
  pub accepted : AcceptsJob (meaning image) number

-- the image before the latest happening
abbrev pub image_before : Image → Timeline → Image
image_before start (Happened h ∷ past) = image_of start past
image_before start past = image_of start past

-- a step of a job that was made by an operation: it stood in the log up to then, was planned, and the step is what it does
pub record IsMadeBy (start : Image) (past : Timeline) (A : PlainState) (e : Entry) (B : PlainState) (job : JobRow) (op : Op) : Type 0 where
  pub logged : HasLog (global (image_before start past)).log op  -- it stood in the log just before
  -- since this session's previous entry its log cell was put, on an image in which it was the table's row
  pub planned : WasPut start e.session (λ (image : Image) (put : Op). (put ≡ op) × IsPlannedIn image job.number put) past
  -- and the step is what it does
  pub step : stepped A job (Replace (listed op.olds) (listed op.news) op.extra) ≡ Some B

-- the finish of a job, which the state before it accepts
pub record IsFinishOf (A B : PlainState) (job : JobRow) : Type 0 where
  pub step : stepped A job Finish ≡ Some B
  pub accepted : AcceptsJob A job.number

-- An entry of a `step` or a `run`, answered or not, changes no mapping and no job, or is the finish, or was made by an operation.
abbrev pub IsPlanned : Image → Timeline → PlainState → Entry → PlainState → Option JobRow → Type 0
IsPlanned start past A e B None = Unit {0}
IsPlanned start past A e B (Some job) = ((B.mappings ≡ A.mappings) × (B.jobs ≡ A.jobs)) ⊎ IsFinishOf A B job ⊎ ((op : Op) × IsMadeBy start past A e B job op)

-- ---- an entry names its own operation

-- The operation is the command's: what the command exchanges in the state before the entry, or the next step of its job in the image in which its log cell was tried.
abbrev pub IsOwnOf : PlainState → Command → Option ℕ → Image → Op → Type 0
IsOwnOf A c None image op = (listed op.olds ≡ (exchange_of A c).0) × (listed op.news ≡ (exchange_of A c).1)
IsOwnOf A c (Some number) image op = IsPlannedIn image number op

-- An entry names no operation, or one whose log cell was tried for its command since this session's previous entry.
abbrev pub NamesItsOwn : Image → Timeline → PlainState → Entry → Type 0
NamesItsOwn start past A e = (e.operation ≡ 0)
    ⊎ WasTried start e.session (λ (image : Image) (op : Op). (op.number ≡ e.operation) × IsOwnOf A e.command (asked_number e.command) image op) past

-- ---- what may be entered

-- An entry that may come now, by which the connections become others.
pub record MayEnter (since : ℕ) (start : Image) (past : Timeline) (e : Entry) (before after : Connections) : Type 0 where
  -- its moment is now; `since` is the moment of the start
  pub moment : e.moment ≡ since + length (happened_of past)
  -- by its reply, of states and of the entries before
  pub follows : Follows (past_of start past) (with_connections (facts_of start past) before) e (with_connections (meaning (image_of start past)) after) e.reply
  -- and of the trail
  pub on_trail : OnTrail start past (with_connections (facts_of start past) before) e (with_connections (meaning (image_of start past)) after) e.reply
  -- a step of a job was planned
  pub planned : IsPlanned start past (with_connections (facts_of start past) before) e (with_connections (meaning (image_of start past)) after) (asked_job (facts_of start past) e.command)
  -- it names its own operation
  pub own : NamesItsOwn start past (with_connections (facts_of start past) before) e
  -- and no other entry is owed: the commit just before, if it took a live operation's log cell away, was of the operation that it names
  pub none_owed : NoneOwed start (Entered e ∷ past)

-- The timeline may come about, with these connections at its end. Before anything happens no entry is owed.
abbrev pub Unfolds : ℕ → Image → Timeline → Connections → Type 0
Unfolds since start [] connections = connections ≡ nobody
Unfolds since start (Happened h ∷ past) connections = Unfolds since start past connections × IsAtRest start past × MayHappen start past h × NoneOwed start past
Unfolds since start (Entered e ∷ past) connections = (before : Connections) × Unfolds since start past before × MayEnter since start past e before connections

-- ---- promises: what an entry says of later ones

-- what a session has going: a command, and the number of its live operation or 0
pub record Going : Type 0 where
  pub command : Command  -- not yet answered
  pub operation : ℕ  -- live, or 0

-- by session
abbrev pub AllGoing : Type 0
AllGoing = ℕ → Option Going

-- the next entry of a session, and its next one with a reply
abbrev pub next_of : ℕ → List Entry → Option Entry
next_of session later = find (λ (e : Entry). e.session == session) later

abbrev pub next_answered : ℕ → List Entry → Option Entry
next_answered session later = find (λ (e : Entry). (e.session == session) && is_some e.reply) later

abbrev pub is_job_running : Option Reply → Bool
is_job_running (Some (reply.Refused refused.JobRunning)) = true
is_job_running answer = false

-- the session's next answer is to a `step` or a `run` of the job, or that is what it has going
abbrev pub IsAtJob : ℕ → Option Going → Option Entry → Type 0
IsAtJob number going (Some e) = (asked_number e.command ≡ Some number) × (is_job_running e.reply ≡ false)
IsAtJob number (Some g) None = asked_number g.command ≡ Some number
IsAtJob number None None = ⊥

-- the session's next entry names the operation, or it has it going
abbrev pub IsAtOperation : ℕ → Option Going → Option Entry → Type 0
IsAtOperation number going (Some e) = e.operation ≡ number
IsAtOperation number (Some g) None = g.operation ≡ number
IsAtOperation number None None = ⊥

-- after `job-running` another session's next answer is to the job
pub record PromisesJob (going : AllGoing) (e : Entry) (later : List Entry) : Type 0 where
  pub other : ℕ
  pub is_other : other ≢ e.session  -- another session
  pub number : ℕ
  pub asked : asked_number e.command ≡ Some number  -- the job that was asked for
  -- is at it
  pub at_job : IsAtJob number (going other) (next_answered other later)

-- after `pending P` another session's next entry names P
pub record PromisesOperation (going : AllGoing) (e : Entry) (later : List Entry) (number : ℕ) : Type 0 where
  pub other : ℕ
  pub is_other : other ≢ e.session  -- another session
  -- is at the operation
  pub at_operation : IsAtOperation number (going other) (next_of other later)

abbrev pub Promises : AllGoing → Entry → List Entry → Option Reply → Type 0
Promises going e later (Some (reply.Refused refused.JobRunning)) = PromisesJob going e later
Promises going e later (Some (reply.Pending number)) = PromisesOperation going e later number
Promises going e later answer = Unit {0}

-- Each entry's promise is kept by the entries after it, or by what is going at the end.
abbrev pub KeepsPromises : AllGoing → List Entry → Type 0
KeepsPromises going [] = Unit {0}
KeepsPromises going (e ∷ later) = Promises going e later e.reply × KeepsPromises going later

-- Some session's next entry names the operation, or it has it going.
pub record IsNamedNext (going : AllGoing) (later : List Entry) (number : ℕ) : Type 0 where
  pub session : ℕ
  pub at_operation : IsAtOperation number (going session) (next_of session later)

abbrev pub AllNamedNext : AllGoing → List Entry → List Op → Type 0
AllNamedNext going later [] = Unit {0}
AllNamedNext going later (op ∷ ops) = IsNamedNext going later op.number × AllNamedNext going later ops

-- Each operation whose log cell a commit, made or not, was to put is named by the next entry of some session, or some session has it going at the end. `later` are the entries after the timeline.
abbrev pub AreNamed : AllGoing → Timeline → List Entry → Type 0
AreNamed going [] later = Unit {0}
AreNamed going (Happened (Committed place change took) ∷ past) later = AllNamedNext going later (logs_put change) × AreNamed going past later
AreNamed going (Happened h ∷ past) later = AreNamed going past later
AreNamed going (Entered e ∷ past) later = AreNamed going past (e ∷ later)

-- ---- legal

-- The history is legal on the trail from its start, which is moment `since`; each session has this going at the end.
pub record Legal (since : ℕ) (trail : Trail) (going : AllGoing) (history : List Entry) : Type 0 where
  -- what came in which order: just what happened, and just these entries
  pub timeline : Timeline
  pub happened : happened_of timeline ≡ trail.happened
  pub entries : history_of timeline ≡ history
  -- the connections at the end
  pub connections : Connections
  -- it may have come about so
  pub unfolds : Unfolds since trail.start timeline connections
  -- at the end the stores stand exactly for the state after the latest entry
  pub stands : meaning (image_of trail.start timeline) ≡ facts_of trail.start timeline
  -- and no entry is owed
  pub none_owed : NoneOwed trail.start timeline
  -- what entries say of later ones is so
  pub promises : KeepsPromises going history
  -- and each operation that was tried is named
  pub named : AreNamed going timeline []
