-- What a call makes of the stores, from its beginning to its end: the transactions that it tried, in order, and the image before and after each of them.
use Rattle.std.specs.Prelude.{◌≡◌, Bool, true, List, [], ◌∷◌, Result, Ok, Err}
use Rattle.cell_world.specs.Images.{Image, Place, Happening, Committed, Wrote, Reopened, with_store, after_one}
use Rattle.cell_world.specs.Stores.{changed}
use Rattle.cell_world.specs.Outside.{Outside, Told, IfContents, IsLater, told_after}
use Rattle.cell_world.specs.declared.changes.Edit.{Edit}
use Rattle.global_tables.specs.declared.faults.StepFault.{StepFault}
use Rattle.global_tables.specs.declared.faults.StepFault.TheVariants as fault

-- ---- what happened

-- more things happened, one after another
abbrev pub told_after_all : Told → List Happening → Told
told_after_all told [] = told
told_after_all told (h ∷ hs) = told_after_all (told_after told h) hs

-- What happened from one outside to a later one, and what is so of it from the contents on, where they are told.
pub record Passes (P : Image → List Happening → Type 0) (old new : Outside) : Type 0 where
  -- what happened, in order
  pub happened : List Happening
  -- it is told, and nothing else
  pub told : new.told ≡ told_after_all old.told happened
  -- and this is so of it, from the contents before it on
  pub each : IfContents old.told (λ image. P image happened)
  -- locations stay, and no count falls
  pub later : IsLater old new

-- ---- courses

-- the image with a change made at a place
abbrev pub changed_at : Image → Place → List Edit → Image
changed_at image place change = with_store image place (changed (image.at place) change)

-- A transaction was tried, and it was such a step: at this place, with this change, whether it took or not.
abbrev pub Tries : (Image → Place → List Edit → Type 0) → Image → Happening → Type 0
Tries Step image (Committed place change took) = Step image place change
Tries Step image (Wrote bytes) = ⊥
Tries Step image (Reopened place cells) = ⊥

-- Transactions were tried one after another from the image on, and each was such a step. One that took is made, and one that didn't leaves the image. Nothing else happened.
abbrev pub IsCourse : (Image → Place → List Edit → Type 0) → Image → List Happening → Type 0
IsCourse Step image [] = Unit {0}
IsCourse Step image (h ∷ hs) = Tries Step image h × IsCourse Step (after_one image h) hs

-- this is so of each image between, of the first one and of the last one
abbrev pub AtEach : (Image → Type 0) → Image → List Happening → Type 0
AtEach P image [] = P image
AtEach P image (h ∷ hs) = P image × AtEach P (after_one image h) hs

-- ---- one transaction

-- what is tried of a change, by the answer: want of memory tries nothing
abbrev pub IsTryOf : Place → List Edit → Result (Unit {0}) StepFault → List Happening → Type 0
IsTryOf place change (Ok done) hs = hs ≡ Committed place change true ∷ []
IsTryOf place change (Err fault.Store) hs = (took : Bool) × (hs ≡ Committed place change took ∷ [])
IsTryOf place change (Err fault.Memory) hs = hs ≡ []

-- the call failed for want of memory
abbrev pub FailsByMemory : {T : Type 0} → Result T StepFault → Type 0
FailsByMemory (Ok value) = ⊥
FailsByMemory (Err fault.Store) = ⊥
FailsByMemory (Err fault.Memory) = Unit {0}

-- The change was tried at the place.
abbrev pub TriesAt : Place → List Edit → Result (Unit {0}) StepFault → Outside → Outside → Type 0
TriesAt place change result old new = Passes (λ image hs. IsTryOf place change result hs) old new
