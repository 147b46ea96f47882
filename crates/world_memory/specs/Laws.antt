-- A world in memory keeps the laws of worlds.
use Rattle.std.specs.Prelude.{◌≡◌, ℕ, ◌≤◌, suc, zero, Bool, true, false, if◌then◌else◌, List, [], ◌∷◌, take, drop, length, Option, Some, None, option_map, unwrap_or, IsTrue, refl}
use Rattle.std.specs.List.{AllByRecursion, IsDistinct}
use Rattle.std.proofs.Common.{◌∙◌}
use Rattle.std.proofs.Math.Nat.{min-le_right}
use Rattle.cell_world.specs.Texts.{Text, is_location}
use Rattle.cell_world.specs.Keys.{same}
use Rattle.cell_world.specs.Counts.{last_count}
use Rattle.cell_world.specs.Stores.{Store, IsStore}
use Rattle.cell_world.specs.Images.{Image, Place, Committed, Wrote, Reopened, IsImage, same_place, after_one, after_all, empty_image}
use Rattle.cell_world.specs.Outside.{IsWorld, place_at}
use Rattle.cell_world.proofs.KeyedLaws.{store_empty, store_edits}
use Rattle.cell_world.specs.declared.limits.TheConstants.{MOST_LOCATIONS}
use Rattle.world_memory.specs.declared.contents.Made.{Made}
use Rattle.world_memory.specs.declared.contents.Made.TheVariants as kept
use Rattle.world_memory.specs.Kept.{IsKept}
use Rattle.world_memory.specs.Told.{told_as, story, leaves, begins, trail_from, tells}

-- where one of two stores stands
one_of : (b : Bool) (s t : Store) → IsStore s → IsStore t → IsStore (if b then s else t)
one_of true s t f g = f
one_of false s t f g = g

image_one : (locations : List Text) (image : Image) (h : Made) → IsKept h → IsImage image → IsImage (after_one image (told_as locations image h))
image_one locations image (kept.Committed at change) are is = by (place_at locations at.0)
  where
    by : (p : Option Place) → IsImage (after_one image (unwrap_or (option_map (λ place. Committed place change true) p) (Wrote [])))
    by None = is
    by (Some p) = λ q. one_of (same_place p q) _ _ (store_edits (image.at p) change are (is p)) (is q)
image_one locations image (kept.Tried at change) are is = by (place_at locations at.0)
  where
    by : (p : Option Place) → IsImage (after_one image (unwrap_or (option_map (λ place. Committed place change false) p) (Wrote [])))
    by None = is
    by (Some p) = is
image_one locations image (kept.Wrote bytes) are is = is
image_one locations image (kept.Reopened at) are is = by (place_at locations at.0)
  where
    by : (p : Option Place) → IsImage (after_one image (unwrap_or (option_map (λ place. Reopened place (image.at place)) p) (Wrote [])))
    by None = is
    by (Some p) = λ q. one_of (same_place p q) _ _ (is p) (is q)

pub image_leaves : (locations : List Text) (image : Image) (hs : List Made) (n : ℕ) → AllByRecursion IsKept hs → IsImage image → IsImage (leaves locations image (take n hs))
image_leaves locations image hs zero are is = is
image_leaves locations image [] (suc n) are is = is
image_leaves locations image (h ∷ hs) (suc n) are is = image_leaves locations (after_one image (told_as locations image h)) hs n are.1 (image_one locations image h are.0 is)

image_story : (locations : List Text) (image : Image) (hs : List Made) (n : ℕ) → AllByRecursion IsKept hs → IsImage image → IsImage (after_all image (take n (story locations image hs)))
image_story locations image hs zero are is = is
image_story locations image [] (suc n) are is = is
image_story locations image (h ∷ hs) (suc n) are is = image_story locations (after_one image (told_as locations image h)) hs n are.1 (image_one locations image h are.0 is)

kept_drop : (hs : List Made) (n : ℕ) → AllByRecursion IsKept hs → AllByRecursion IsKept (drop n hs)
kept_drop hs zero are = are
kept_drop [] (suc n) are = are
kept_drop (h ∷ hs) (suc n) are = kept_drop hs n are.1

-- the locations stay
same_locations : (locations : List Text) (image : Image) (h : Made) → (after_one image (told_as locations image h)).locations ≡ image.locations
same_locations locations image (kept.Committed at change) = by (place_at locations at.0)
  where
    by : (p : Option Place) → (after_one image (unwrap_or (option_map (λ place. Committed place change true) p) (Wrote []))).locations ≡ image.locations
    by None = refl
    by (Some p) = refl
same_locations locations image (kept.Tried at change) = by (place_at locations at.0)
  where
    by : (p : Option Place) → (after_one image (unwrap_or (option_map (λ place. Committed place change false) p) (Wrote []))).locations ≡ image.locations
    by None = refl
    by (Some p) = refl
same_locations locations image (kept.Wrote bytes) = refl
same_locations locations image (kept.Reopened at) = by (place_at locations at.0)
  where
    by : (p : Option Place) → (after_one image (unwrap_or (option_map (λ place. Reopened place (image.at place)) p) (Wrote []))).locations ≡ image.locations
    by None = refl
    by (Some p) = refl

over_all : (locations : List Text) (image : Image) (hs : List Made) → (leaves locations image hs).locations ≡ image.locations
over_all locations image [] = refl
over_all locations image (h ∷ hs) = over_all locations (after_one image (told_as locations image h)) hs ∙ same_locations locations image h

pub is_world : (locations : List Text) (happened : List Made) (failed : List ℕ) (start sink reads : ℕ) → AllByRecursion (λ location. IsTrue (is_location location)) locations → IsDistinct same locations → length locations ≤ MOST_LOCATIONS → AllByRecursion IsKept happened → sink ≤ last_count → reads ≤ last_count
    → IsWorld (tells locations (trail_from locations happened start) failed sink reads)
is_world locations happened failed start sink reads spelled distinct few are sunk counted = record {
  spelled = spelled;
  distinct = distinct;
  few = few;
  faults = λ site. min-le_right _ _;
  sink = sunk;
  reads = counted;
  over = over_all locations (empty_image locations) (take start happened);
  cells = λ moment. image_story locations (begins locations happened start) (drop start happened) moment (kept_drop happened start are) (image_leaves locations (empty_image locations) happened start are (λ place. store_empty));
}
