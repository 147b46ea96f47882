-- What may stand after an entry, by its reply: what is said of states and of the entries before.
-- (What is said of the trail besides stands in `OnTrail`.)
use Rattle.std.specs.Prelude.{◌≡◌, ◌⊎◌, ℕ, ◌≤◌, ◌<◌, Bool, true, false, ◌||◌, [], ◌∷◌, length, Option, Some, None, IsTrue, IsSome}
use Rattle.std.specs.FinMap as map
use Rattle.cell_world.specs.Texts.{Text}
use Rattle.cell_world.specs.Lists.{IsOneOf}
use Rattle.cell_world.specs.Keys.{contains, overlaps, end_below}
use Rattle.cell_world.specs.KeyForms.{normal_of}
use Rattle.cell_world.specs.Plain.{PlainState, Held}
use Rattle.cell_world.specs.Jobs.{merge_due}
use Rattle.cell_world.specs.declared.cells.KeyType.{KeyType}
use Rattle.cell_world.specs.declared.operations.Piece.{Piece}
use Rattle.cell_world.specs.declared.operations.JobRow.{JobRow}
use Rattle.cell_world.specs.declared.operations.Phase.TheVariants as phase
use Rattle.cell_world.specs.declared.spans.High.TheVariants.{At}
use Rattle.plain_model.specs.declared.commands.Command.{Command}
use Rattle.plain_model.specs.declared.commands.Command.TheVariants as command
use Rattle.plain_model.specs.declared.replies.Reply.{Reply}
use Rattle.plain_model.specs.declared.replies.Reply.TheVariants as reply
use Rattle.plain_model.specs.declared.replies.Refusal.TheVariants as refused
use Rattle.plain_model.specs.declared.history.Entry.{Entry}
use Rattle.plain_model.specs.Refusing.{refusal, mapping_of, type_of_map, AcceptsJob}
use Rattle.plain_model.specs.Steps.{plain_step}
use Rattle.plain_model.specs.Caches.{Cache, Learnt, knows, cache_after, is_refused}
use Rattle.plain_model.specs.Timelines.{Made, Past}
use Rattle.plain_model.specs.Near.{Near}
use Rattle.plain_model.specs.JobSteps.{asked_number, asked_job, TakesJobStep, is_online_step, is_merge_step, is_finish_step, onlines_since, JustBefore, IsOfflineStep, with_ended}

-- ---- ok, an answer or a refusal: the plain step

-- what the site of an accepted `detach` or `attach` holds from then on is said of the trail
pub record FollowsPlainly (A B : PlainState) (e : Entry) (answer : Reply) : Type 0 where
  pub held : Held
  -- the state and the answer are the plain step's
  pub step : plain_step held A e.session e.command ≡ (B, answer)

-- ---- `job-running`: the job stands, and nothing changes

pub record FollowsJobRunning (A B : PlainState) (e : Entry) : Type 0 where
  pub same : A ≡ B  -- nothing changes
  pub stands : IsSome (asked_job A e.command)  -- the job of the command stands

-- ---- `full`: the plain step's, or no operation number is left

-- the commands that take an operation number
abbrev pub takes_number : Command → Bool
takes_number (command.Add name low high location) = true
takes_number (command.Addpoint name key location) = true
takes_number (command.Delete name key token) = true
takes_number (command.Offline name key token) = true
takes_number (command.Online name key token) = true
takes_number (command.Move name key location token) = true
takes_number (command.Split name key token) = true
takes_number (command.Merge name key token) = true
takes_number (command.Step number) = true
takes_number (command.Run number) = true
takes_number other = false

pub record NumbersAreSpent (A B : PlainState) (e : Entry) : Type 0 where
  pub same : A ≡ B  -- nothing changes
  -- no other refusal holds
  pub accepted : refusal A e.session e.command ≡ None
  -- and the command needs a number; the finish of a job needs none
  pub takes : IsTrue (takes_number e.command)
  pub no_finish : is_finish_step A e.command ≡ false

-- ---- no reply: a step of a job

pub record FollowsJobStep (A B : PlainState) (e : Entry) : Type 0 where
  -- the command is a `step` or a `run` of a job that stands
  pub job : JobRow
  pub asked : asked_job A e.command ≡ Some job
  -- and B is A after its next step
  pub step : TakesJobStep A B job
  -- which, where it is the finish, A accepts
  pub accepted : is_finish_step A e.command ≡ true → AcceptsJob A job.number

-- ---- `cursor KEY`

pub record FollowsCursor (past : Past) (A B : PlainState) (e : Entry) (type : KeyType) (key : Text) : Type 0 where
  -- the command is `step J`, and nothing changes
  pub number : ℕ
  pub asked : e.command ≡ command.Step number
  pub same : A ≡ B
  -- the entry just before is this session's online or merge of the job
  pub just_before : JustBefore past e.session number (λ s c. is_online_step s c || is_merge_step s c)
  -- exactly one of this session's entries since its previous entry with a reply is an online
  pub one_online : onlines_since past e.session ≡ 1
  -- the job is Idle with this cursor, below hi, and needs no merge
  pub job : JobRow
  pub stands : map.get A.jobs number ≡ Some job
  pub idle : job.phase ≡ phase.Idle
  pub cursor : job.cursor ≡ At key
  pub below_high : IsTrue (end_below job.cursor job.high)
  pub no_merge : merge_due A.mappings job ≡ None
  -- the key is shown by the key type of the job's map
  pub typed : type_of_map A job.map ≡ Some type

-- ---- `done J`

-- of a `step` at most one of this session's entries since its previous entry with a reply is an online
abbrev pub IsOneBatch : Command → ℕ → Type 0
IsOneBatch (command.Step number) onlines = onlines ≤ 1
IsOneBatch other onlines = Unit {0}

pub record FollowsDone (past : Past) (A B : PlainState) (e : Entry) (number : ℕ) : Type 0 where
  -- the command is `step J` or `run J`, and nothing changes
  pub asked : asked_number e.command ≡ Some number
  pub same : A ≡ B
  -- the entry just before is this session's finish of the job
  pub just_before : JustBefore past e.session number is_finish_step
  -- a `step` made one batch at most
  pub one_batch : IsOneBatch e.command (onlines_since past e.session)

-- ---- `pending P`

pub record FollowsPending (A B : PlainState) (e : Entry) : Type 0 where
  pub same : A ≡ B  -- nothing changes
  pub accepted : refusal A e.session e.command ≡ None  -- the plain step would not refuse
  pub no_job : asked_number e.command ≡ None  -- the command isn't `step` or `run`

-- ---- `fault`

-- For `attach`, `clear` and `detach` up to near.
abbrev pub Becomes : Command → PlainState → PlainState → Type 0
Becomes (command.Attach location) B state = Near B state
Becomes (command.Clear location) B state = Near B state
Becomes (command.Detach location) B state = Near B state
Becomes other B state = B ≡ state

-- B is A, or the state after the command.
abbrev pub FollowsFault : PlainState → PlainState → Entry → Command → Option JobRow → Type 0
-- A faulted `offline` may besides have ended the connections of its mapping in the old state.
FollowsFault A B e (command.Offline name key token) job = ((held : Held) × (B ≡ (plain_step held A e.session e.command).0)) ⊎ (B ≡ A) ⊎ (B ≡ with_ended A (mapping_of A name key))
FollowsFault A B e c None = Becomes c B A ⊎ ((held : Held) × Becomes c B (plain_step held A e.session c).0)
-- In a job: A, or the state after the step in progress; if that is an offline, its connections may be ended in the old state.
FollowsFault A B e c (Some job) = (B ≡ A) ⊎ TakesJobStep A B job ⊎ ((p : Piece) × IsOfflineStep A job p × (B ≡ with_ended A (Some p)))

-- ---- `memory`

-- The old state, for `attach` and `clear` up to near.
abbrev pub FollowsMemory : Command → PlainState → PlainState → Type 0
FollowsMemory (command.Attach location) A B = Near B A
FollowsMemory (command.Clear location) A B = Near B A
FollowsMemory other A B = B ≡ A

-- ---- `peek`

-- the cache of the entries so far
abbrev pub cache_of : Past → Cache
cache_of [] = []
cache_of (m ∷ past) = cache_after (cache_of past) m.before (length past) m.entry.command m.entry.reply

pub record FollowsUnknown (past : Past) (A B : PlainState) (e : Entry) : Type 0 where
  -- the command is `peek`, and nothing changes
  pub name : Text
  pub text : Text
  pub asked : e.command ≡ command.Peek name text
  pub same : A ≡ B
  -- the cache has no span over the key; a word that isn't a key of the known type is none
  pub unknown : (k : Learnt) (key : Text) → IsOneOf (cache_of past) k → normal_of k.type text ≡ Some key → knows name key k ≡ false

-- the entry dropped the span or its map, or learnt one that overlaps it
abbrev pub Drops : Made → Past → Learnt → Type 0
Drops m past k = (IsOneOf (cache_of past) k × (IsOneOf (cache_of (m ∷ past)) k → ⊥))
    ⊎ ((j : Learnt) × IsOneOf (cache_of (m ∷ past)) j × (j.place ≡ length past) × (j.map ≡ k.map) × IsTrue (overlaps j.span k.span))
    ⊎ ((m.entry.command ≡ command.Unmap k.map) × (is_refused m.entry.reply ≡ false))

-- The span was added to the cache at its place in this run, and no later entry of this session dropped it.
abbrev pub WasLearnt : Past → ℕ → Learnt → Type 0
WasLearnt [] session k = ⊥
WasLearnt (m ∷ past) session k =
    ((k.place ≡ length past) × IsOneOf (cache_of (m ∷ past)) k)
    ⊎ ((k.place < length past) × (m.entry.session ≡ session → Drops m past k → ⊥) × WasLearnt past session k)

pub record FollowsKnown (past : Past) (A B : PlainState) (e : Entry) (k : Learnt) : Type 0 where
  -- the command is a `peek` of the span's map, and nothing changes
  pub text : Text
  pub asked : e.command ≡ command.Peek k.map text
  pub same : A ≡ B
  -- the span contains the key, which the word is by the type of the span
  pub key : Text
  pub form : normal_of k.type text ≡ Some key
  pub contained : IsTrue (contains k.span key)
  -- the span was learnt in this run, and this session hasn't dropped it
  pub learnt : WasLearnt past e.session k

-- ---- follows

-- What the reply says of the state A before the entry, the state B after it, and the entries before.
abbrev pub Follows : Past → PlainState → Entry → PlainState → Option Reply → Type 0
Follows past A e B None = FollowsJobStep A B e
Follows past A e B (Some (reply.Cursor type key)) = FollowsCursor past A B e type key
Follows past A e B (Some (reply.Done number)) = FollowsDone past A B e number
Follows past A e B (Some (reply.Pending number)) = FollowsPending A B e
Follows past A e B (Some reply.Fault) = FollowsFault A B e e.command (asked_job A e.command)
Follows past A e B (Some reply.Memory) = FollowsMemory e.command A B
Follows past A e B (Some reply.Unknown) = FollowsUnknown past A B e
Follows past A e B (Some (reply.Known type span location place)) = FollowsKnown past A B e (record { map = peeked e.command; type = type; span = span; location = location; place = place })
  where
    peeked : Command → Text
    peeked (command.Peek name text) = name
    peeked other = []
Follows past A e B (Some (reply.Refused refused.JobRunning)) = FollowsJobRunning A B e
Follows past A e B (Some (reply.Refused refused.Full)) = FollowsPlainly A B e (reply.Refused refused.Full) ⊎ NumbersAreSpent A B e
Follows past A e B (Some answer) = FollowsPlainly A B e answer
