-- How what the sessions have going changes: with an entry, and between entries.
use Rattle.std.specs.Prelude.{◌≡◌, ◌≢◌, ◌⊎◌, ℕ, false, List, [], ◌∷◌, Some, None}
use Rattle.plain_model.specs.declared.history.Entry.{Entry}
use Rattle.plain_model.specs.declared.replies.Reply.TheVariants as reply
use Rattle.cell_world.specs.Images.{Committed}
use Rattle.cell_world.specs.declared.operations.Op.{Op}
use Rattle.plain_model.specs.Timelines.{Timeline, Happened, Entered}
use Rattle.plain_model.specs.OnTrail.{logs_put}
use Rattle.plain_model.specs.Legal.{Going, AllGoing, is_job_running}

-- ---- with an entry

-- the entry is of what its session had going
pub record IsOf (g : Going) (e : Entry) : Type 0 where
  pub command : e.command ≡ g.command
  pub operation : e.operation ≡ g.operation
  -- it isn't refused because another session is at the job
  pub runs : is_job_running e.reply ≡ false

pub record StillHas (after : AllGoing) (g : Going) (session : ℕ) : Type 0 where
  pub next : Going
  pub going : after session ≡ Some next
  pub command : next.command ≡ g.command

-- what is going before the entry and after it
pub record GoesOn (before after : AllGoing) (e : Entry) : Type 0 where
  -- what other sessions have going stays
  pub others : (session : ℕ) → session ≢ e.session → after session ≡ before session
  -- a session that had something going goes on with that
  pub own : (g : Going) → before e.session ≡ Some g → IsOf g e
  -- and still has the command going where the entry has no reply
  pub further : (g : Going) → before e.session ≡ Some g → e.reply ≡ None → StillHas after g e.session

-- ---- between entries

-- The session takes up a command, or an operation for the command that it has going.
pub record TakesUp (before after : AllGoing) (session : ℕ) (g : Going) : Type 0 where
  pub others : (other : ℕ) → other ≢ session → after other ≡ before other
  pub going : after session ≡ Some g
  -- what it had going is of the same command, without an operation or with the same one
  pub command : (old : Going) → before session ≡ Some old → g.command ≡ old.command
  pub operation : (old : Going) → before session ≡ Some old → (old.operation ≡ 0) ⊎ (g.operation ≡ old.operation)

-- no entry is answered `pending 0`; operations are numbered from 1
abbrev pub NamesOperations : List Entry → Type 0
NamesOperations [] = Unit {0}
NamesOperations (e ∷ later) = (e.reply ≡ Some (reply.Pending 0) → ⊥) × NamesOperations later

-- nor was a log cell of number 0 tried
abbrev pub AreNumbered : List Op → Type 0
AreNumbered [] = Unit {0}
AreNumbered (op ∷ ops) = (op.number ≡ 0 → ⊥) × AreNumbered ops

abbrev pub TriesNumbered : Timeline → Type 0
TriesNumbered [] = Unit {0}
TriesNumbered (Happened (Committed place change took) ∷ past) = AreNumbered (logs_put change) × TriesNumbered past
TriesNumbered (Happened h ∷ past) = TriesNumbered past
TriesNumbered (Entered e ∷ past) = TriesNumbered past
