-- The legal history, stated by the moments of a trail. Entries are counted from 1, and t0 counts as the moment of entry 0.
use Rattle.std.specs.Prelude.{◌≡◌, ℕ, ◌+◌, ◌<◌, ◌≤◌, Bool, true, false, List, [], ◌∷◌, length, take, drop, slice_get, Some, IsTrue}
use Rattle.cell_world.specs.Texts.{Text}
use Rattle.cell_world.specs.Keys.{same}
use Rattle.cell_world.specs.Stores.{Store}
use Rattle.cell_world.specs.Images.{Trail, Place, Happening, Committed, Reopened, Global, Shard, image_at, end_of_trail, stretch, global}
use Rattle.cell_world.specs.Plain.{PlainState, Connections, nobody, with_connections}
use Rattle.cell_world.specs.Meaning.{meaning, next_operation}
use Rattle.cell_world.specs.Operations.{conflicts}
use Rattle.cell_world.specs.Sound.{Sound, HasLog}
use Rattle.cell_world.specs.declared.operations.Op.{Op}
use Rattle.cell_world.specs.declared.operations.Reach.{Reach}
use Rattle.cell_world.specs.declared.changes.Edit.{Edit}
use Rattle.plain_model.specs.declared.history.Entry.{Entry}
use Rattle.plain_model.specs.Differing.{clean}
use Rattle.plain_model.specs.Timelines.{Timeline, Happened, Entered, past_of}
use Rattle.plain_model.specs.Near.{Near}
use Rattle.plain_model.specs.JobSteps.{asked_job}
use Rattle.plain_model.specs.Follows.{Follows}
use Rattle.plain_model.specs.OnTrail.{OnTrail, NoneOwed, logs_put, logs}
use Rattle.plain_model.specs.Legal.{IsPlanned, NamesItsOwn, MayHappen, IsDetachedIn, KeepsCounter, TriesNumber, AllGoing, KeepsPromises, AreNamed}
use Rattle.plain_model.specs.Written.{Mode, WrittenByMoments, last_moment, by_moment}

-- ---- moments

-- the moment of entry i
abbrev pub moment_of : ℕ → List Entry → ℕ → ℕ
moment_of t0 history i = last_moment t0 (take i history)

-- what the stores stand for at moment t, with these connections
abbrev pub standing : Trail → ℕ → Connections → PlainState
standing trail t connections = with_connections (meaning (image_at trail t)) connections

-- the part of the trail from moment t0 on
abbrev pub from_moment : Trail → ℕ → Trail
from_moment trail t0 = record { start = image_at trail t0; happened = drop t0 trail.happened }

-- ---- the order in which all came, which the moments tell

abbrev pub with_happened : Timeline → List Happening → Timeline
with_happened past [] = past
with_happened past (h ∷ hs) = with_happened (Happened h ∷ past) hs

abbrev pub woven : Trail → Timeline → ℕ → List Entry → ℕ → Timeline
woven trail past t [] m = with_happened past (stretch trail t m)
woven trail past t (e ∷ es) m = woven trail (Entered e ∷ with_happened past (stretch trail t e.moment)) e.moment es m

-- what came from t0 up to moment m, with these entries
abbrev pub timeline_at : Trail → ℕ → List Entry → ℕ → Timeline
timeline_at trail t0 entries m = woven trail [] t0 entries m

-- ---- legal

-- An entry follows from the state of the entries before it to its own.
pub record FollowsAt (trail : Trail) (t0 : ℕ) (earlier : List Entry) (e : Entry) (before after : Connections) : Type 0 where
  -- by its reply, of states and of the entries before
  pub follows : Follows (past_of (image_at trail t0) (timeline_at trail t0 earlier e.moment)) (standing trail (last_moment t0 earlier) before) e (standing trail e.moment after) e.reply
  -- and of the trail
  pub on_trail : OnTrail (image_at trail t0) (timeline_at trail t0 earlier e.moment) (standing trail (last_moment t0 earlier) before) e (standing trail e.moment after) e.reply
  -- a step of a job was planned
  pub planned : IsPlanned (image_at trail t0) (timeline_at trail t0 earlier e.moment) (standing trail (last_moment t0 earlier) before) e (standing trail e.moment after) (asked_job (standing trail (last_moment t0 earlier) before) e.command)
  -- it names its own operation
  pub own : NamesItsOwn (image_at trail t0) (timeline_at trail t0 earlier e.moment) (standing trail (last_moment t0 earlier) before) e
  -- and no other entry is owed
  pub none_owed : NoneOwed (image_at trail t0) (Entered e ∷ timeline_at trail t0 earlier e.moment)

pub record LegalByMoments (trail : Trail) (t0 : ℕ) (going : AllGoing) (history : List Entry) : Type 0 where
  -- the connections after i entries; a new run has none
  pub connections : ℕ → Connections
  pub at_first : connections 0 ≡ nobody
  -- moments don't fall, aren't below t0 and aren't past the end
  pub moments : (i : ℕ) → i < length history → moment_of t0 history i ≤ moment_of t0 history (i + 1)
  pub ends : moment_of t0 history (length history) ≤ end_of_trail trail
  -- state i is what the stores stand for at the moment of entry i, with the connections after i entries; each entry follows from the state before it to its own
  pub follows : (i : ℕ) (e : Entry) → slice_get history i ≡ Some e → FollowsAt trail t0 (take i history) e (connections i) (connections (i + 1))
  -- from the moment of entry i up to but not that of entry i + 1, and after the last entry up to the end, the stores stand for state i, up to near
  pub rests : (i t : ℕ) → i ≤ length history → moment_of t0 history i ≤ t → (i < length history → t < moment_of t0 history (i + 1)) → t ≤ end_of_trail trail
      → Near (standing trail t (connections i)) (standing trail (moment_of t0 history i) (connections i))
  -- and at the end exactly
  pub stands : standing trail (end_of_trail trail) (connections (length history)) ≡ standing trail (moment_of t0 history (length history)) (connections (length history))
  -- after the entries by a moment no entry is owed
  pub none_owed : (t : ℕ) → t0 ≤ t → t ≤ end_of_trail trail → NoneOwed (image_at trail t0) (timeline_at trail t0 (by_moment t history) t)
  -- each commit and reopening, which leads from moment t to t + 1, may happen after the entries by then
  pub happens : (t : ℕ) (h : Happening) → t0 ≤ t → slice_get trail.happened t ≡ Some h → MayHappen (image_at trail t0) (timeline_at trail t0 (by_moment t history) t) h
  -- what entries say of later ones is so
  pub promises : KeepsPromises going history
  -- and each operation that was tried is named
  pub named : AreNamed going (timeline_at trail t0 history (end_of_trail trail)) []

-- ---- the trail by itself

-- the site was reopened from moment a on and before moment t
pub record WasReopenedBy (trail : Trail) (a t : ℕ) (location : Text) : Type 0 where
  pub moment : ℕ  -- when
  pub at : Text  -- where
  pub cells : Store  -- with what the outside gave
  pub after : a ≤ moment
  pub before : moment < t
  pub reopened : slice_get trail.happened moment ≡ Some (Reopened (Shard at) cells)
  pub here : same location at ≡ true

pub record TrailByMoments (trail : Trail) (t0 : ℕ) (history : List Entry) : Type 0 where
  -- the operation number changes only in a commit that puts one log cell, which has the number that stood
  pub counter : (t : ℕ) (change : List Edit) → t0 ≤ t → slice_get trail.happened t ≡ Some (Committed Global change true)
      → KeepsCounter (next_operation (image_at trail t)) (next_operation (image_at trail (t + 1))) (logs_put change)
  -- and a commit that wasn't made was to put one of that number, or none
  pub tried : (t : ℕ) (change : List Edit) → t0 ≤ t → slice_get trail.happened t ≡ Some (Committed Global change false) → TriesNumber (next_operation (image_at trail t)) (logs_put change)
  -- no commit, made or not, puts two log cells
  pub one : (t : ℕ) (change : List Edit) (took : Bool) → t0 ≤ t → slice_get trail.happened t ≡ Some (Committed Global change took) → length (logs_put change) ≤ 1
  -- none puts a log cell at a shard
  pub shard : (t : ℕ) (location : Text) (change : List Edit) (took : Bool) → t0 ≤ t → slice_get trail.happened t ≡ Some (Committed (Shard location) change took) → logs_put change ≡ []
  -- no reopening concerns the global store
  pub no_reopening : (t : ℕ) (cells : Store) → t0 ≤ t → slice_get trail.happened t ≡ Some (Reopened Global cells) → ⊥
  -- a commit, made or not, at a detached site comes after a reopening of it, with no entry's moment between
  pub detached : (t : ℕ) (location : Text) (change : List Edit) (took : Bool) → t0 ≤ t → slice_get trail.happened t ≡ Some (Committed (Shard location) change took)
      → IsDetachedIn (image_at trail t) location → WasReopenedBy trail (last_moment t0 (by_moment t history)) t location
  -- and leaves what `attach` would keep of the site's cells as it was
  pub kept : (t : ℕ) (location : Text) (change : List Edit) → t0 ≤ t → slice_get trail.happened t ≡ Some (Committed (Shard location) change true)
      → IsDetachedIn (image_at trail t) location
      → clean (meaning (image_at trail t)) location ((image_at trail (t + 1)).at (Shard location)) ≡ clean (meaning (image_at trail t)) location ((image_at trail t).at (Shard location))

-- ---- live operations, by moments

-- a commit from moment t0 on and before moment t, made or not, was to put the log cell, and none of these entries after it names the number
pub record IsOpenAt (trail : Trail) (t0 : ℕ) (earlier : List Entry) (t number : ℕ) : Type 0 where
  pub moment : ℕ  -- when
  pub place : Place  -- where, which is the global store
  pub change : List Edit  -- by which change
  pub took : Bool
  pub after : t0 ≤ moment
  pub before : moment < t
  pub committed : slice_get trail.happened moment ≡ Some (Committed place change took)
  pub puts : logs number change ≡ true
  pub unnamed : (i : ℕ) (e : Entry) → slice_get earlier i ≡ Some e → moment < e.moment → e.operation ≡ number → ⊥

-- At moment t, after these entries, the operation is live.
pub record LiveAt (trail : Trail) (t0 : ℕ) (earlier : List Entry) (t : ℕ) (op : Op) : Type 0 where
  -- it is in the log
  pub logged : HasLog (global (image_at trail t)).log op
  -- its log cell was put since t0, and no entry has named it since
  pub unnamed : IsOpenAt trail t0 earlier t op.number

-- the least live operation in the way of what is reached
pub record IsLeastInWayAt (trail : Trail) (t0 : ℕ) (earlier : List Entry) (t : ℕ) (reached : Reach) (number : ℕ) : Type 0 where
  pub op : Op
  pub named : op.number ≡ number  -- it has the number
  pub live : LiveAt trail t0 earlier t op  -- it is live
  pub in_way : IsTrue (conflicts reached op)  -- and conflicts with what is reached
  -- no live one that does has a lesser number
  pub least : (other : Op) → LiveAt trail t0 earlier t other → IsTrue (conflicts reached other) → number ≤ other.number

-- ---- the run, at each of its moments

pub record RunsByMoments (mode : Mode) (trail : Trail) (t0 : ℕ) (going : AllGoing) (history : List Entry) : Type 0 where
  -- the stores are sound at each moment
  pub sound : (t : ℕ) → t0 ≤ t → t ≤ end_of_trail trail → Sound (image_at trail t)
  -- the history is legal
  pub legal : LegalByMoments trail t0 going history
  -- only what happened is written
  pub written : WrittenByMoments mode trail t0 history
