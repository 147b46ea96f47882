-- Image and trail: what all stores hold at a moment, and the list of what was done.
use Rattle.std.specs.Prelude.{ℕ, Bool, true, false, List, [], ◌∷◌, ◌++◌, length, take, drop, if◌then◌else◌}
use Rattle.cell_world.specs.Texts.{Text}
use Rattle.cell_world.specs.Keys.{same}
use Rattle.cell_world.specs.Stores.{Store, IsStore, changed, empty_store}
use Rattle.cell_world.specs.declared.changes.Edit.{Edit}

-- ---- images

-- the global store, or the store of the shard at a location
pub data Place : Type 0 where
  Global : Place
  Shard : (location : Text) → Place

abbrev pub same_place : Place → Place → Bool
same_place Global Global = true
same_place (Shard a) (Shard b) = same a b
same_place Global (Shard b) = false
same_place (Shard a) Global = false

pub record Image : Type 0 where
  pub locations : List Text  -- those of the world, each with a store of its own
  pub at : Place → Store  -- what each place holds

abbrev pub global : Image → Store
global image = image.at Global

-- the stores before anything was put there
abbrev pub empty_image : List Text → Image
empty_image locations = record { locations = locations; at = λ place. empty_store }

-- the image with another store at one place
abbrev pub with_store : Image → Place → Store → Image
with_store image place store = record image { at = λ other. if same_place place other then store else image.at other }

-- Nothing but cells stands in the image, each under its own key.
abbrev pub IsImage : Image → Type 0
IsImage image = (place : Place) → IsStore (image.at place)

-- ---- happenings

pub data Happening : Type 0 where
  -- A transaction at a place was tried, and it took or it didn't.
  Committed : (place : Place) (change : List Edit) (took : Bool) → Happening
  -- Bytes went to the output.
  Wrote : (bytes : Text) → Happening
  -- A place was opened again, and the outside gave it these cells.
  Reopened : (place : Place) (cells : Store) → Happening

abbrev pub after_one : Image → Happening → Image
after_one image (Committed place change true) = with_store image place (changed (image.at place) change)
after_one image (Committed place change false) = image
after_one image (Wrote bytes) = image
after_one image (Reopened place cells) = with_store image place cells

abbrev pub after_all : Image → List Happening → Image
after_all image [] = image
after_all image (h ∷ hs) = after_all (after_one image h) hs

-- the bytes that they wrote, in order
abbrev pub written : List Happening → Text
written [] = []
written (Wrote bytes ∷ hs) = bytes ++ written hs
written (Committed place change took ∷ hs) = written hs
written (Reopened place cells ∷ hs) = written hs

-- ---- trails

pub record Trail : Type 0 where
  pub start : Image  -- at moment 0
  pub happened : List Happening  -- from then on; moment t is after the first t

-- the last moment
abbrev pub end_of_trail : Trail → ℕ
end_of_trail trail = length trail.happened

abbrev pub extended : Trail → Happening → Trail
extended trail h = record trail { happened = trail.happened ++ h ∷ [] }

-- The image at a moment, which is also what a crash at that moment leaves.
abbrev pub image_at : Trail → ℕ → Image
image_at trail moment = after_all trail.start (take moment trail.happened)

-- what happened from one moment up to another
abbrev pub stretch : Trail → ℕ → ℕ → List Happening
stretch trail from to = drop from (take to trail.happened)

-- the bytes written from one moment up to another
abbrev pub bytes_between : Trail → ℕ → ℕ → Text
bytes_between trail from to = written (stretch trail from to)
