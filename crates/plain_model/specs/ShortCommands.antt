-- Short commands: of the commands that are one transaction of the global store, or none, those of maps and mappings. (`job` and the finish of a job are short too, and stand with the jobs.)
use Rattle.std.specs.Prelude.{◌≡◌, ℕ, Bool, true, false, List, Some, None}
use Rattle.cell_world.specs.Images.{Image, Global, Happening, Committed, after_one, global}
use Rattle.cell_world.specs.Plain.{PlainState, Connections, holds_nothing, with_connections}
use Rattle.cell_world.specs.Meaning.{meaning, next_operation}
use Rattle.cell_world.specs.Sound.{Sound}
use Rattle.cell_world.specs.declared.changes.Edit.{Edit}
use Rattle.plain_model.specs.declared.commands.Command.{Command}
use Rattle.plain_model.specs.declared.commands.Command.TheVariants as command
use Rattle.plain_model.specs.declared.history.Entry.{Entry}
use Rattle.plain_model.specs.declared.replies.Reply.{Reply}
use Rattle.plain_model.specs.declared.replies.Reply.TheVariants as reply
use Rattle.plain_model.specs.declared.replies.Refusal.{Refusal}
use Rattle.plain_model.specs.declared.replies.Refusal.TheVariants as refused
use Rattle.plain_model.specs.Refusing.{refusal}
use Rattle.plain_model.specs.Steps.{accepted}
use Rattle.plain_model.specs.Timelines.{Timeline, Past}
use Rattle.plain_model.specs.Follows.{Follows}
use Rattle.plain_model.specs.OnTrail.{OnTrail}

-- ---- which they are

abbrev pub is_short : Command → Bool
is_short (command.Map name kind type) = true
is_short (command.Unmap name) = true
is_short (command.Shard name location) = true
is_short (command.Unshard name location) = true
is_short (command.Table name table) = true
is_short (command.Lock name key token) = true
is_short (command.Unlock name key token) = true
is_short (command.Find name key) = true
is_short (command.List name) = true
is_short (command.Shards name) = true
is_short other = false

-- their replies where they are done, `ok` or what was asked for
abbrev pub is_short_answer : Reply → Bool
is_short_answer reply.Ok = true
is_short_answer (reply.Mapping type piece) = true
is_short_answer (reply.Mappings type pieces) = true
is_short_answer (reply.Shards locations) = true
is_short_answer other = false

-- and their refusals, which are one word: of no job, and without a count
abbrev pub is_short_refusal : Refusal → Bool
is_short_refusal refused.JobRunning = false
is_short_refusal (refused.DifferencesLeft n) = false
is_short_refusal (refused.StrayRows n) = false
is_short_refusal other = true

-- all their replies but `pending`, which needs another session
abbrev pub is_short_reply : Reply → Bool
is_short_reply (reply.Refused r) = is_short_refusal r
is_short_reply reply.Fault = true
is_short_reply reply.Memory = true
is_short_reply r = is_short_answer r

-- a reply of one word
abbrev pub is_word_reply : Reply → Bool
is_word_reply reply.Ok = true
is_word_reply (reply.Refused r) = is_short_refusal r
is_word_reply reply.Fault = true
is_word_reply reply.Memory = true
is_word_reply other = false

-- ---- their entries

-- the entry of a short command: it names no operation
abbrev pub short_entry : ℕ → Command → Reply → ℕ → Entry
short_entry session c r moment = record { session = session; command = c; reply = Some r; moment = moment; operation = 0 }

-- what the stores stand for, with these connections
abbrev pub standing_with : Image → Connections → PlainState
standing_with image connections = with_connections (meaning image) connections

-- Its entry with this reply may stand between the states A and B, whatever came before.
pub record FollowsShort (session : ℕ) (c : Command) (A B : PlainState) (r : Reply) : Type 0 where
  pub follows : (past : Past) (moment : ℕ) → Follows past A (short_entry session c r moment) B (Some r)
  pub on_trail : (start : Image) (past : Timeline) (moment : ℕ) → OnTrail start past A (short_entry session c r moment) B (Some r)

-- ---- its plan, on an image

-- the commit of its change
abbrev pub short_commit : List Edit → Bool → Happening
short_commit change took = Committed Global change took

-- The change makes what the plain step makes, and the reply is the plain step's.
pub record IsShortChange (session : ℕ) (c : Command) (change : List Edit) (r : Reply) (image : Image) : Type 0 where
  -- the plain step doesn't refuse, whoever is connected
  pub accepts : (connections : Connections) → refusal (standing_with image connections) session c ≡ None
  -- the stores stand for its state afterwards, and it answers so
  pub becomes : (connections : Connections) → accepted holds_nothing (standing_with image connections) session c ≡ (standing_with (after_one image (short_commit change true)) connections, r)
  -- and they are sound
  pub sound : Sound (after_one image (short_commit change true))
  -- the operation numbers stay, and so does the log
  pub numbers : next_operation (after_one image (short_commit change true)) ≡ next_operation image
  pub log : (global (after_one image (short_commit change true))).log ≡ (global image).log

-- Nothing is changed, and the reply is the plain step's.
abbrev pub IsShortAnswer : ℕ → Command → Reply → Image → Type 0
IsShortAnswer session c r image = (connections : Connections) → (refusal (standing_with image connections) session c ≡ None) × (accepted holds_nothing (standing_with image connections) session c ≡ (standing_with image connections, r))

-- The plain step refuses so.
abbrev pub IsRefusedWith : ℕ → Command → Refusal → Image → Type 0
IsRefusedWith session c r image = (connections : Connections) → refusal (standing_with image connections) session c ≡ Some r
