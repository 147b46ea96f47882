-- What comes of an event before its lines are written: of a command that is asked, and of one that goes on.
use Rattle.std.specs.Prelude.{◌≡◌, ◌⊎◌, ◌≤◌, ◌^◌, ℕ, Bool, true, false, List, [], ◌∷◌, Option, Some, None}
use Rattle.cell_world.specs.Images.{Image, Place, Global, Happening, Committed, Wrote, Reopened, after_one, after_all}
use Rattle.cell_world.specs.Plain.{nobody}
use Rattle.cell_world.specs.Meaning.{meaning, next_operation}
use Rattle.cell_world.specs.Operations.{conflicts}
use Rattle.cell_world.specs.Outside.{Outside, Told, IfContents, StoreRoseBy, told_after}
use Rattle.cell_world.specs.declared.changes.Edit.{Edit}
use Rattle.cell_world.specs.declared.operations.Op.{Op}
use Rattle.cell_world.specs.declared.operations.Reach.{Reach}
use Rattle.cell_world.specs.declared.operations.StageName.{StageName}
use Rattle.cell_world.specs.declared.operations.StageName.TheVariants.{Logged, SourceDone, TargetDone}
use Rattle.global_tables.specs.Known.{Known}
use Rattle.image_laws.specs.CommitEdits.{commit_edits}
use Rattle.map_ops.specs.Planning.{is_long}
use Rattle.op_steps.specs.Advancing.{AdvanceStep, SettlesAt, StepsAt}
use Rattle.op_steps.specs.Beginning.{Logs}
use Rattle.op_steps.specs.Passing.{IsCourse, told_after_all}
use Rattle.op_steps.specs.Undoing.{UndoStepOf}
use Rattle.plain_model.specs.declared.commands.Command.{Command}
use Rattle.plain_model.specs.declared.replies.Refusal.{Refusal}
use Rattle.plain_model.specs.declared.replies.Refusal.TheVariants.{Full}
use Rattle.plain_model.specs.declared.replies.Reply.{Reply}
use Rattle.plain_model.specs.declared.replies.Reply.TheVariants as reply
use Rattle.plain_model.specs.OnTrail.{logs_put, reach_of_command}
use Rattle.plain_model.specs.Refusing.{refusal}
use Rattle.plain_model.specs.ShortCommands.{short_commit, standing_with}
use Rattle.operation_laws.specs.Left.{left_of}
use Rattle.operation_laws.specs.LiveNumbers.{HasLive}
use Rattle.session_laws.specs.Doing.{AllDoing, Doing, Live, Resting, Operating, live_of, IsThen}
use Rattle.manager_core.specs.declared.coming.Came.{Came}
use Rattle.manager_core.specs.declared.coming.Came.TheVariants.{Going, Ended}
use Rattle.manager_core.specs.Answering.{IsCopy, AreLines}
use Rattle.manager_core.specs.Steady.{AreSteady, Becomes, Ends, IsSettledOp}

-- the reply of a command that ended
abbrev pub reply_of : Came → Option Reply
reply_of (Going number) = None
reply_of (Ended command answer number) = Some answer.reply

-- the number of its operation, or 0
abbrev pub operation_of : Came → ℕ
operation_of (Going number) = number
operation_of (Ended command answer number) = number

-- ---- in the way

-- A session has an operation of this number live that conflicts with what is reached.
pub record IsInWay (doing : AllDoing) (reached : Reach) (number : ℕ) : Type 0 where
  pub session : ℕ
  pub live : Live
  pub here : live_of (doing session) ≡ Some live
  pub named : live.op.number ≡ number
  pub conflict : conflicts reached live.op ≡ true

-- Of the live operations in the way this one has the least number.
pub record IsFirstInWay (doing : AllDoing) (reached : Reach) (number : ℕ) : Type 0 where
  pub in_way : IsInWay doing reached number
  pub least : (other : ℕ) → IsInWay doing reached other → number ≤ other

-- ---- what a command that is asked is answered

-- it may be answered otherwise only where a store failed or memory was short
abbrev pub OrStops : Option Reply → Reply → Type 0
OrStops came r = (came ≡ Some r) ⊎ (came ≡ Some reply.Fault) ⊎ (came ≡ Some reply.Memory)

-- no refusal of the command table holds, and of a long command the next number may be given
pub record IsAdmitted (session : ℕ) (c : Command) (image : Image) : Type 0 where
  pub accepted : refusal (standing_with image nobody) session c ≡ None
  pub number : is_long c ≡ true → next_operation image ≡ 2 ^ 63 → ⊥

-- no refusal of the command table holds, but no operation number is left for the command
pub record IsFull (session : ℕ) (c : Command) (image : Image) : Type 0 where
  pub long : is_long c ≡ true
  pub accepted : refusal (standing_with image nobody) session c ≡ None
  pub last : next_operation image ≡ 2 ^ 63

-- On this image the command is answered so, where the other sessions do this; without a reply its operation began.
pub record AsksExactly (doing : AllDoing) (session : ℕ) (c : Command) (came : Option Reply) (image : Image) : Type 0 where
  -- it is refused exactly where the command table says so, or no number is left
  pub refused : (x : Refusal) → came ≡ Some (reply.Refused x) → (refusal (standing_with image nobody) session c ≡ Some x) ⊎ ((x ≡ Full) × IsFull session c image)
  pub refuses : (x : Refusal) → refusal (standing_with image nobody) session c ≡ Some x → OrStops came (reply.Refused x)
  pub full : IsFull session c image → OrStops came (reply.Refused Full)
  -- else it waits exactly where a live operation of another session is in its way, the one of least number
  pub pending : (number : ℕ) → came ≡ Some (reply.Pending number) → IsAdmitted session c image × IsFirstInWay doing (reach_of_command (meaning image) c) number
  pub waits : (number : ℕ) → IsAdmitted session c image → IsFirstInWay doing (reach_of_command (meaning image) c) number → OrStops came (reply.Pending number)
  -- it is going just where it is a long command and none of these held
  pub going : came ≡ None → is_long c ≡ true
  pub long : is_long c ≡ true → came ≡ Some reply.Ok → ⊥

-- ---- what happens

-- transactions that log nothing, and nothing else
abbrev pub LogNothing : List Happening → Type 0
LogNothing [] = Unit {0}
LogNothing (Committed place change took ∷ hs) = (logs_put change ≡ []) × LogNothing hs
LogNothing (Wrote bytes ∷ hs) = ⊥
LogNothing (Reopened place cells ∷ hs) = ⊥

-- They leave what the stores stand for and the next number.
pub record LeavesAll (image : Image) (hs : List Happening) : Type 0 where
  pub quiet : LogNothing hs
  pub same : meaning (after_all image hs) ≡ meaning image
  pub number : next_operation (after_all image hs) ≡ next_operation image

-- Transactions of this kind were tried, made or not, and nothing else happened.
pub record IsTidied (Step : Image → Place → List Edit → Type 0) (old new : Told) : Type 0 where
  pub happened : List Happening
  pub told : new ≡ told_after_all old happened
  pub course : IfContents old (λ image. IsCourse Step image happened)
  -- they leave what the stores stand for
  pub leaves : IfContents old (λ image. LeavesAll image happened)

-- what the session has left is settled at a site
abbrev pub SettleStep : Doing → Image → Place → List Edit → Type 0
SettleStep doing image place change = (op : Op) × (left_of doing ≡ Some op) × SettlesAt op image place change

-- what some session has left
abbrev pub SettleSteps : AllDoing → Image → Place → List Edit → Type 0
SettleSteps doing image place change = (session : ℕ) × SettleStep (doing session) image place change

-- an operation in the way that no session has live is undone, a step
abbrev pub ClearStep : AllDoing → Reach → Image → Place → List Edit → Type 0
ClearStep doing reached = UndoStepOf (λ op. (conflicts reached op ≡ true) × (HasLive doing op.number → ⊥))

-- the log row of an operation of this number was tried, made or not
pub record LogsUnder (number : ℕ) (took : Bool) (old new : Told) : Type 0 where
  pub op : Op
  pub named : op.number ≡ number
  pub change : List Edit
  pub puts : logs_put change ≡ op ∷ []
  pub told : new ≡ told_after old (short_commit change took)
  -- it is lawful, has the number that stood, and conflicts with no logged one
  pub logs : IfContents old (λ image. Logs op image Global change)

-- one transaction of the global store was tried that logs nothing and leaves the next number, made or not
pub record TriesShort (old new : Told) : Type 0 where
  pub change : List Edit
  pub took : Bool
  pub quiet : logs_put change ≡ []
  pub told : new ≡ told_after old (short_commit change took)
  pub number : IfContents old (λ image. next_operation (after_one image (short_commit change took)) ≡ next_operation image)

-- The command's own transaction, by what it came to, with the number that its entry names.
abbrev pub TriesFor : Option Reply → ℕ → Told → Told → Type 0
TriesFor None number old new = LogsUnder number true old new
TriesFor (Some reply.Ok) number old new = (number ≡ 0) × TriesShort old new
TriesFor (Some reply.Fault) number old new = ((number ≡ 0) × ((new ≡ old) ⊎ TriesShort old new)) ⊎ ((took : Bool) × LogsUnder number took old new)
TriesFor (Some other) number old new = (number ≡ 0) × (new ≡ old)

-- a command that is refused, or waits, undoes nothing
abbrev pub ClearsNone : Option Reply → Told → Told → Type 0
ClearsNone (Some (reply.Refused x)) old new = new ≡ old
ClearsNone (Some (reply.Pending p)) old new = new ≡ old
ClearsNone came old new = Unit {0}

-- In the event of a command that is asked: what its session left is settled, abandoned operations in its way are undone, and then its own transaction is tried, once, or nothing.
pub record HappensAsking (doing : AllDoing) (session : ℕ) (c : Command) (came : Option Reply) (number : ℕ) (old new : Told) : Type 0 where
  pub reached : Reach
  pub reaches : IfContents old (λ image. reached ≡ reach_of_command (meaning image) c)
  pub settled : Told
  pub settles : IsTidied (SettleStep (doing session)) old settled
  pub between : Told
  pub clears : IsTidied (ClearStep doing reached) settled between
  pub none : ClearsNone came settled between
  pub tries : TriesFor came number between new

-- how often a store failed at least where this was answered and settling failed too: a failure in settling is not reported
abbrev pub failures : Option Reply → ℕ
failures (Some reply.Fault) = 2
failures other = 1

-- What the session had left to settle is settled, unless memory was short or a store failed.
abbrev pub SettlesLeft : Doing → Option Reply → Outside → Outside → Type 0
SettlesLeft doing came old new = (op : Op) → left_of doing ≡ Some op → (came ≡ Some reply.Memory → ⊥) → (StoreRoseBy (failures came) old new → ⊥) → IfContents new.told (IsSettledOp op)

-- How a command that was asked came to its reply, or to a live operation: over steady stores, with a copy of their tables.
pub record IsAskedSo (session : ℕ) (c : Command) (came : Option Reply) (number : ℕ) (known : Known) (before : AllDoing) (old new : Outside) : Type 0 where
  -- this happened of the stores
  pub happens : AreSteady before old → IsCopy known old.told → HappensAsking before session c came number old.told new.told
  -- it was answered as the tables and the other sessions say
  pub exact : AreSteady before old → IsCopy known old.told → IfContents old.told (AsksExactly before session c came)
  -- and what its session had left is settled
  pub settles : AreSteady before old → IsCopy known old.told → SettlesLeft (before session) came old new

-- ---- a command that is asked

-- Its session has the operation live, Logged, where the plan was that of the tables.
pub record GoesLive (session : ℕ) (c : Command) (number : ℕ) (known fresh : Known) (before after : AllDoing) (old new : Outside) : Type 0 where
  pub op : Op
  pub named : op.number ≡ number
  pub next : IsThen before session (Operating c op Logged) after
  pub copy : fresh ≡ known
  pub becomes : IsCopy known old.told → Becomes old new before after

-- Its session rests, and its entry comes next.
pub record IsAnswered (session : ℕ) (c : Command) (r : Reply) (number : ℕ) (known fresh : Known) (before after : AllDoing) (old new : Outside) : Type 0 where
  pub rests : IsThen before session (Resting None) after
  pub ends : Ends session c r number known fresh old new before after
  -- a short command is no operation
  pub names : is_long c ≡ false → number ≡ 0
  -- it waits for a live operation, so for none where every other session rests
  pub waits_for : (other : ℕ) → r ≡ reply.Pending other → HasLive before other
  -- a fault has its cause
  pub fault : r ≡ reply.Fault → StoreRoseBy 1 old new

abbrev pub BecomesAsked : ℕ → Command → Came → Known → Known → AllDoing → AllDoing → Outside → Outside → Type 0
BecomesAsked session c (Going number) known fresh before after old new = GoesLive session c number known fresh before after old new
BecomesAsked session c (Ended command answer number) known fresh before after old new = (command ≡ c) × IsAnswered session c answer.reply number known fresh before after old new

-- What becomes of a command that its session asked.
pub record ComesOfAsking (session : ℕ) (c : Command) (came : Came) (known fresh : Known) (before after : AllDoing) (old new : Outside) : Type 0 where
  -- the core goes on, with an entry to come or without
  pub becomes : BecomesAsked session c came known fresh before after old new
  -- and this is how it came to it
  pub so : IsAskedSo session c (reply_of came) (operation_of came) known before old new

-- ---- a command that goes on

-- the one stage is before the other
abbrev pub IsBefore : StageName → StageName → Type 0
IsBefore Logged SourceDone = Unit {0}
IsBefore Logged TargetDone = Unit {0}
IsBefore SourceDone TargetDone = Unit {0}
IsBefore one other = ⊥

-- what the session has left to settle: the operation, where its commit was made
abbrev pub left_after : Reply → Op → Option Op
left_after reply.Ok op = Some op
left_after other op = None

-- it ends with `ok`, `fault` or `memory`
abbrev pub IsEndOfGoing : Reply → Type 0
IsEndOfGoing reply.Ok = Unit {0}
IsEndOfGoing reply.Fault = Unit {0}
IsEndOfGoing reply.Memory = Unit {0}
IsEndOfGoing other = ⊥

-- one local step of the operation was made, and nothing else
pub record MakesStep (op : Op) (old new : Told) : Type 0 where
  pub place : Place
  pub change : List Edit
  pub told : new ≡ told_after old (Committed place change true)
  pub step : IfContents old (λ image. StepsAt op image place change)

-- one transaction of this kind was tried, made or not
pub record TriesStep (Step : Image → Place → List Edit → Type 0) (old new : Told) : Type 0 where
  pub place : Place
  pub change : List Edit
  pub took : Bool
  pub told : new ≡ told_after old (Committed place change took)
  pub step : IfContents old (λ image. Step image place change)

-- or none was
abbrev pub TriesOnce : (Image → Place → List Edit → Type 0) → Told → Told → Type 0
TriesOnce Step old new = (new ≡ old) ⊎ TriesStep Step old new

-- its step; or its commit; or nothing, for want of memory; or what failed
abbrev pub HappensGoing : Op → Option Reply → Told → Told → Type 0
HappensGoing op None old new = MakesStep op old new
HappensGoing op (Some reply.Ok) old new = new ≡ told_after old (Committed Global (commit_edits op) true)
HappensGoing op (Some reply.Memory) old new = new ≡ old
HappensGoing op (Some other) old new = TriesOnce (AdvanceStep op) old new

abbrev pub BecomesGone : ℕ → Command → Op → StageName → Came → Known → AllDoing → AllDoing → Outside → Outside → Type 0
BecomesGone session c op stage (Going number) known before after old new = (number ≡ op.number) × ((later : StageName) × IsBefore stage later × IsThen before session (Operating c op later) after) × Becomes old new before after
BecomesGone session c op stage (Ended command answer number) known before after old new = (command ≡ c) × (number ≡ op.number) × IsEndOfGoing answer.reply × IsThen before session (Resting (left_after answer.reply op)) after
    × Ends session c answer.reply number known known old new before after × (answer.reply ≡ reply.Fault → StoreRoseBy 1 old new)

-- What becomes of a command whose operation had come to this stage.
pub record ComesOfGoing (session : ℕ) (c : Command) (op : Op) (stage : StageName) (came : Came) (known : Known) (before after : AllDoing) (old new : Outside) : Type 0 where
  -- the core goes on, with an entry to come or without
  pub becomes : BecomesGone session c op stage came known before after old new
  -- this happened of the stores
  pub happens : AreSteady before old → HappensGoing op (reply_of came) old.told new.told

-- so for whatever command its session has going
abbrev pub GoesOn : ℕ → Came → AllDoing → AllDoing → Outside → Outside → Type 0
GoesOn session came before after old new = (c : Command) (op : Op) (stage : StageName) → before session ≡ Operating c op stage → (known : Known) → ComesOfGoing session c op stage came known before after old new

-- ---- the lines

-- the answer of a command that ended has the lines of its reply
abbrev pub HasLines : Option ℕ → Came → Type 0
HasLines tag (Going number) = Unit {0}
HasLines tag (Ended command answer number) = AreLines tag answer.reply answer.lines
