-- No log cell of number 0 is tried in a run.
use Rattle.std.proofs.Common.{◌≡◌, ℕ, ◌≤◌, arith, true, false, [], ◌∷◌, List, Bool}
use Rattle.cell_world.specs.Images.{Image, Place, Global, Shard, Committed, Wrote, Reopened}
use Rattle.cell_world.specs.Sound.{Sound}
use Rattle.cell_world.specs.Plain.{Connections}
use Rattle.cell_world.specs.declared.operations.Op.{Op}
use Rattle.cell_world.specs.declared.changes.Edit.{Edit}
use Rattle.plain_model.specs.Timelines.{Timeline, Happened, Entered, image_of}
use Rattle.plain_model.specs.OnTrail.{logs_put}
use Rattle.plain_model.specs.Legal.{Unfolds, KeepsCounter, TriesNumber, MayHappen}
use Rattle.plain_model.specs.GoingOn.{AreNumbered, TriesNumbered}
use Rattle.plain_model.specs.Running.{AllSound}
use Rattle.plain_model.proofs.RunLaws.{sound_now}

by_counter : (old new : ℕ) (ops : List Op) → 1 ≤ old → KeepsCounter old new ops → AreNumbered ops
by_counter old new [] some h = tt
by_counter old new (op ∷ []) some h = ((λ zero. omega (arith, some, h.0, zero)), tt)
by_counter old new (op ∷ other ∷ ops) some h = absurd h

by_number : (next : ℕ) (ops : List Op) → 1 ≤ next → TriesNumber next ops → AreNumbered ops
by_number next [] some h = tt
by_number next (op ∷ []) some h = ((λ zero. omega (arith, some, h, zero)), tt)
by_number next (op ∷ other ∷ ops) some h = absurd h

none_put : (ops : List Op) → ops ≡ [] → AreNumbered ops
none_put [] e = tt
none_put (op ∷ ops) e = absurd cc

pub numbered_commit : (start : Image) (past : Timeline) (place : Place) (change : List Edit) (took : Bool) → Sound (image_of start past) → MayHappen start past (Committed place change took) → AreNumbered (logs_put change)
numbered_commit start past Global change true sound h = by_counter _ _ (logs_put change) sound.globals.operations.0 h
numbered_commit start past Global change false sound h = by_number _ (logs_put change) sound.globals.operations.0 h
numbered_commit start past (Shard location) change true sound h = none_put (logs_put change) h.0
numbered_commit start past (Shard location) change false sound h = none_put (logs_put change) h.0

pub tries_numbered : (since : ℕ) (start : Image) (past : Timeline) (cs : Connections) → Unfolds since start past cs → AllSound start past → TriesNumbered past
tries_numbered since start [] cs u sound = tt
tries_numbered since start (Entered e ∷ past) cs u sound = tries_numbered since start past u.0 u.1 sound
tries_numbered since start (Happened (Wrote bytes) ∷ past) cs u sound = tries_numbered since start past cs u.0 sound.1
tries_numbered since start (Happened (Reopened place cells) ∷ past) cs u sound = tries_numbered since start past cs u.0 sound.1
tries_numbered since start (Happened (Committed place change took) ∷ past) cs u sound =
    (numbered_commit start past place change took (sound_now start past sound.1) u.2, tries_numbered since start past cs u.0 sound.1)
