-- What holds of the stores between two events, beside the run so far, and what a part of an event makes of a core.
use Rattle.std.specs.Prelude.{◌≡◌, ℕ, List, [], Some}
use Rattle.cell_world.specs.Images.{Image, end_of_trail}
use Rattle.cell_world.specs.Plain.{PlainState, nobody}
use Rattle.cell_world.specs.Meaning.{meaning}
use Rattle.cell_world.specs.Outside.{Outside, IfContents, IfTrail}
use Rattle.cell_world.specs.Sound.{Sound, IsAttachedIn, locals_at}
use Rattle.cell_world.specs.Marked.{HasNoMark, IsOutOfLog, mark_tables}
use Rattle.cell_world.specs.Texts.{Text}
use Rattle.cell_world.specs.declared.operations.Op.{Op}
use Rattle.global_tables.specs.Known.{Known}
use Rattle.plain_model.specs.declared.commands.Command.{Command}
use Rattle.plain_model.specs.declared.history.Entry.{Entry}
use Rattle.plain_model.specs.declared.replies.Reply.{Reply}
use Rattle.plain_model.specs.declared.replies.Reply.TheVariants as reply
use Rattle.plain_model.specs.JobSteps.{asked_number}
use Rattle.plain_model.specs.Refusing.{given_token}
use Rattle.plain_model.specs.Running.{text_of}
use Rattle.plain_model.specs.Written.{Mode}
use Rattle.session_laws.specs.Contract.{Seen}
use Rattle.session_laws.specs.Core.{AllStand}
use Rattle.session_laws.specs.Doing.{AllDoing, Live, live_of, command_of}
use Rattle.session_laws.specs.Needs.{Needs}
use Rattle.operation_laws.specs.Leading.{Leads, with_entry}
use Rattle.operation_laws.specs.Left.{AreLeft}
use Rattle.operation_laws.specs.Opening.{Opens}
use Rattle.manager_core.specs.Answering.{IsCopy}

-- the parts that the laws speak of; nobody is connected yet
abbrev pub seen_with : List Entry → AllDoing → Seen
seen_with history doing = record { history = history; doing = doing; connections = nobody }

-- the command's token opens what its operation replaces, which goes on with no job, and its number isn't 0
abbrev pub IsPlainOp : Live → Type 0
IsPlainOp l = Opens (given_token l.command) l.op × (l.op.number ≡ 0 → ⊥)

-- What holds of the stores with what the sessions do.
pub record IsSteady (doing : AllDoing) (image : Image) : Type 0 where
  -- they are sound
  pub sound : Sound image
  -- the live operations stand, each is one session's, and so is each job
  pub stand : AllStand Needs doing image
  pub one : (s t : ℕ) (l m : Live) → live_of (doing s) ≡ Some l → live_of (doing t) ≡ Some m → l.op.number ≡ m.op.number → s ≡ t
  pub one_job : (s t : ℕ) (c d : Command) (number : ℕ) → command_of (doing s) ≡ Some c → command_of (doing t) ≡ Some d → asked_number c ≡ Some number → asked_number d ≡ Some number → s ≡ t
  -- none of them goes on with a job, each token opens what is replaced, and each number is from 1 on
  pub plain : (session : ℕ) (l : Live) → live_of (doing session) ≡ Some l → IsPlainOp l
  -- what sessions have to settle is committed
  pub left : AreLeft doing image

-- where contents are told
abbrev pub AreSteady : AllDoing → Outside → Type 0
AreSteady doing outside = IfContents outside.told (IsSteady doing)

-- ---- what is settled

-- no mark of the operation stands at any attached site
abbrev pub IsClean : Op → Image → Type 0
IsClean op image = (location : Text) → IsAttachedIn image location → HasNoMark op (locals_at image location)

-- The operation's number was given, no log row has it, and no mark of it stands at any attached site.
pub record IsSettledOp (op : Op) (image : Image) : Type 0 where
  pub out : IsOutOfLog (mark_tables image) op
  pub clean : IsClean op image

-- an operation that is settled stays so
abbrev pub KeepsSettled : Outside → Outside → Type 0
KeepsSettled old new = (op : Op) → IfContents old.told (IsSettledOp op) → IfContents new.told (IsSettledOp op)

-- what the stores stand for stays
abbrev pub KeepsMeaning : Outside → Outside → Type 0
KeepsMeaning old new = (facts : PlainState) → IfContents old.told (λ image. meaning image ≡ facts) → IfContents new.told (λ image. meaning image ≡ facts)

-- ---- parts of an event

-- What a part of an event makes of a core that has nothing to write: no entry comes, and the sessions do this afterwards.
pub record Becomes (old new : Outside) (before after : AllDoing) : Type 0 where
  -- what held of the stores holds
  pub steady : AreSteady before old → AreSteady after new
  -- what the stores stand for stays, and so does what is settled
  pub same : AreSteady before old → KeepsMeaning old new
  pub settled : AreSteady before old → KeepsSettled old new
  -- a copy of the tables is one afterwards
  pub copy : (known : Known) → AreSteady before old → IsCopy known old.told → IsCopy known new.told
  -- and the core goes on
  pub leads : AreSteady before old → (mode : Mode) (history : List Entry) → Leads mode old.told new.told (seen_with history before) (seen_with history after) []

-- The entry says that the session's command was answered so, and names the operation of this number, or 0.
pub record Says (e : Entry) (session : ℕ) (c : Command) (r : Reply) (number : ℕ) : Type 0 where
  pub of_session : e.session ≡ session
  pub command : e.command ≡ c
  pub answered : e.reply ≡ Some r
  pub operation : e.operation ≡ number

-- What a part of an event makes of a core that has nothing to write, with this copy of the tables and then that one: its entry comes next, and the sessions do this afterwards.
pub record Ends (session : ℕ) (c : Command) (r : Reply) (number : ℕ) (known fresh : Known) (old new : Outside) (before after : AllDoing) : Type 0 where
  -- what held of the stores holds
  pub steady : AreSteady before old → IsCopy known old.told → AreSteady after new
  -- what is settled stays so
  pub settled : AreSteady before old → IsCopy known old.told → KeepsSettled old new
  -- the copy is what the global cells say, unless a call failed
  pub copy : (r ≡ reply.Fault → ⊥) → AreSteady before old → IsCopy known old.told → IsCopy fresh new.told
  -- and the core goes on with the entry, made now, whose lines are still to be written
  pub leads : AreSteady before old → IsCopy known old.told → (mode : Mode) (history : List Entry) (e : Entry) → Says e session c r number → IfTrail new.told (λ trail. e.moment ≡ end_of_trail trail)
      → Leads mode old.told new.told (seen_with history before) (with_entry (seen_with history before) e after) (text_of mode e)
