-- What becomes of a command whose operation is planned.
use Rattle.std.specs.Prelude.{◌≡◌, ◌<◌, ◌≤◌, ◌^◌, ℕ, true, List, Option, Some, None, Result, Ok, Err}
use Rattle.cell_world.specs.Images.{Image}
use Rattle.cell_world.specs.Meaning.{next_operation}
use Rattle.cell_world.specs.Operations.{reach_of}
use Rattle.cell_world.specs.Outside.{Outside, Told, IfContents}
use Rattle.cell_world.specs.Sound.{Sound}
use Rattle.cell_world.specs.declared.operations.Op.{Op}
use Rattle.cell_world.specs.declared.operations.Reach.{Reach}
use Rattle.cell_world.specs.declared.operations.StageName.TheVariants.{Logged}
use Rattle.global_tables.specs.Known.{Known}
use Rattle.map_ops.specs.Planning.{PlansLong, is_long}
use Rattle.plain_model.specs.declared.commands.Command.{Command}
use Rattle.plain_model.specs.declared.replies.Reply.{Reply}
use Rattle.plain_model.specs.declared.replies.Reply.TheVariants as reply
use Rattle.plain_model.specs.declared.replies.Refusal.TheVariants as refused
use Rattle.op_steps.specs.Beginning.{IsFirstStage}
use Rattle.op_steps.specs.declared.beginning.BeginFault.{BeginFault}
use Rattle.op_steps.specs.declared.beginning.BeginFault.TheVariants as begin
use Rattle.op_steps.specs.declared.beginning.Begun.{Begun}
use Rattle.op_steps.specs.declared.beginning.Begun.TheVariants as begun
use Rattle.operation_laws.specs.LiveNumbers.{AreTheLive, HasLive}
use Rattle.session_laws.specs.Doing.{AllDoing, Resting, Operating, IsThen}
use Rattle.manager_core.specs.declared.beginning.Taken.{Taken}
use Rattle.manager_core.specs.declared.beginning.Taken.TheVariants as taken
use Rattle.manager_core.specs.Coming.{ClearStep, ClearsNone, IsFirstInWay, IsInWay, IsTidied, TriesFor}
use Rattle.manager_core.specs.Steady.{AreSteady, Becomes, Ends}

-- what a beginning comes to
abbrev pub taken_of : Result Begun BeginFault → Taken
taken_of (Ok (begun.Going op stage)) = taken.Going op stage
taken_of (Ok (begun.Pending other)) = taken.Pending other.number
taken_of (Err (begin.Tried number)) = taken.Tried number
taken_of (Err begin.Store) = taken.Store
taken_of (Err begin.Memory) = taken.Memory

-- a store refused
abbrev pub FailsByStore : Taken → Type 0
FailsByStore (taken.Tried number) = Unit {0}
FailsByStore taken.Store = Unit {0}
FailsByStore other = ⊥

-- By the answer: its session has the operation that was planned live, Logged, with a number; or the command is answered, and nothing else becomes of what the sessions do.
abbrev pub Takes : ℕ → Command → Op → AllDoing → Taken → Outside → Outside → Type 0
Takes session c op before (taken.Going made stage) old new = IsFirstStage op made stage × ((next : AllDoing) → IsThen before session (Operating c made Logged) next → Becomes old new before next)
Takes session c op before taken.Full old new = (known : Known) → Ends session c (reply.Refused refused.Full) 0 known known old new before before
Takes session c op before (taken.Pending number) old new = (known : Known) → Ends session c (reply.Pending number) 0 known known old new before before
Takes session c op before (taken.Tried number) old new = (known : Known) → Ends session c reply.Fault number known known old new before before
Takes session c op before taken.Store old new = (known : Known) → Ends session c reply.Fault 0 known known old new before before
Takes session c op before taken.Memory old new = (known : Known) → Ends session c reply.Memory 0 known known old new before before

-- `full` is answered exactly where the counter stands at 2^63
abbrev pub IsFullAt : Taken → Image → Type 0
IsFullAt taken.Full image = 2 ^ 63 ≤ next_operation image
IsFullAt (taken.Going made stage) image = next_operation image < 2 ^ 63
IsFullAt (taken.Pending number) image = next_operation image < 2 ^ 63
IsFullAt (taken.Tried number) image = next_operation image < 2 ^ 63
IsFullAt other image = Unit {0}

-- ---- how it came to it

-- what the command is answered; nothing where its operation began
abbrev pub answer_of : Taken → Option Reply
answer_of (taken.Going made stage) = None
answer_of taken.Full = Some (reply.Refused refused.Full)
answer_of (taken.Pending number) = Some (reply.Pending number)
answer_of (taken.Tried number) = Some reply.Fault
answer_of taken.Store = Some reply.Fault
answer_of taken.Memory = Some reply.Memory

-- the number of its operation, once its log row was tried, and 0 before
abbrev pub number_in : Taken → ℕ
number_in (taken.Going made stage) = made.number
number_in (taken.Tried number) = number
number_in other = 0

-- `pending` names the live operation of least number in its way; where its operation began none was in its way
abbrev pub WaitsExactly : Taken → AllDoing → Reach → Type 0
WaitsExactly (taken.Pending number) doing reached = IsFirstInWay doing reached number
WaitsExactly (taken.Going made stage) doing reached = (number : ℕ) → IsInWay doing reached number → ⊥
WaitsExactly other doing reached = Unit {0}

-- How a planned operation came to its answer, where the sessions do this.
pub record TakesExactly (op : Op) (doing : AllDoing) (result : Taken) (old new : Outside) : Type 0 where
  -- abandoned operations in its way are undone, where it isn't refused and doesn't wait
  pub between : Told
  pub clears : IsTidied (ClearStep doing (reach_of op)) old.told between
  pub none : ClearsNone (answer_of result) old.told between
  -- and then its log row is tried, or nothing
  pub tries : TriesFor (answer_of result) (number_in result) between new.told
  -- it waits exactly where a live operation is in its way
  pub waits : IfContents old.told (λ image. WaitsExactly result doing (reach_of op))

-- over any world `pending` names an operation that some session has live
abbrev pub NamesLive : List ℕ → Taken → Type 0
NamesLive live (taken.Pending number) = (doing : AllDoing) → AreTheLive live doing → HasLive doing number
NamesLive live other = Unit {0}

-- and what begins is the planned operation, at its first stage
abbrev pub BeginsIt : Op → Taken → Type 0
BeginsIt op (taken.Going made stage) = IsFirstStage op made stage
BeginsIt op other = Unit {0}

-- Whatever session rests and has it planned, with these numbers of live operations.
pub record TakesUp (live : List ℕ) (op : Op) (result : Taken) (old new : Outside) : Type 0 where
  pub takes : (session : ℕ) (c : Command) (before : AllDoing) (left : Option Op) → is_long c ≡ true → AreTheLive live before → before session ≡ Resting left → IfContents old.told (λ image. Sound image → PlansLong c op image) → Takes session c op before result old new
  -- over steady stores this is how
  pub exact : (c : Command) (before : AllDoing) → AreTheLive live before → AreSteady before old → IfContents old.told (λ image. Sound image → PlansLong c op image) → TakesExactly op before result old new
  pub names : NamesLive live result
  pub begins : BeginsIt op result
  pub full : IfContents old.told (IsFullAt result)

-- So where the counter stands below 2^63.
abbrev pub TakesUpBelow : List ℕ → Op → Taken → Outside → Outside → Type 0
TakesUpBelow live op result old new = IfContents old.told (λ image. next_operation image < 2 ^ 63) → TakesUp live op result old new
