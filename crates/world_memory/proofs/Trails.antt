-- The trail of what is kept.
use Rattle.std.proofs.Common.{◌≡◌, ℕ, suc, zero, ◌+◌, ◌≤◌, ◌<◌, List, [], ◌∷◌, ◌++◌, length, take, drop, get_or, refl, sym, ap, ◌∙◌, arith, true, false, replicate, Option, Some, None, option_map, unwrap_or, append_assoc, length-drop}
use Rattle.std.proofs.Math.ListN.{drop_of_length-le}
use Rattle.std.proofs.lemmas.List.{take_more, length-take, take_all, take-append-le, drop-append-le, take-append-drop}
use Rattle.cell_world.specs.Texts.{Text}
use Rattle.cell_world.specs.Images.{Image, Place, Trail, Happening, Committed, Wrote, Reopened, after_one, after_all, empty_image, image_at, end_of_trail, extended, written}
use Rattle.cell_world.specs.Outside.{TellsTrail, place_at}
use Rattle.cell_world.specs.declared.cells.Site.{Site}
use Rattle.world_memory.specs.declared.contents.Made.{Made}
use Rattle.world_memory.specs.declared.contents.Made.TheVariants as kept
use Rattle.std.specs.List.{AllByRecursion}
use Rattle.world_memory.specs.Kept.{IsKept}
use Rattle.world_memory.specs.Told.{at_place, told_as, story, leaves, begins, trail_from, failed_at, tells, fresh, wrote}

story_length : (l : List Text) (image : Image) (hs : List Made) → length (story l image hs) ≡ length hs
story_length l image [] = refl
story_length l image (h ∷ hs) = ap suc (story_length l (after_one image (told_as l image h)) hs)

story_added : (l : List Text) (image : Image) (hs : List Made) (h : Made) → story l image (hs ++ h ∷ []) ≡ story l image hs ++ told_as l (leaves l image hs) h ∷ []
story_added l image [] h = refl
story_added l image (e ∷ es) h = ap (λ r. told_as l image e ∷ r) (story_added l (after_one image (told_as l image e)) es h)

leaves_joined : (l : List Text) (image : Image) (hs gs : List Made) → leaves l image (hs ++ gs) ≡ leaves l (leaves l image hs) gs
leaves_joined l image [] gs = refl
leaves_joined l image (h ∷ hs) gs = leaves_joined l (after_one image (told_as l image h)) hs gs

after_story : (l : List Text) (image : Image) (hs : List Made) (n : ℕ) → after_all image (take n (story l image hs)) ≡ leaves l image (take n hs)
after_story l image hs zero = refl
after_story l image [] (suc n) = refl
after_story l image (h ∷ hs) (suc n) = after_story l (after_one image (told_as l image h)) hs n

take_none : (n : ℕ) → take n [] ≡ (let none : List Made = [] in none)
take_none zero = refl
take_none (suc n) = refl

fronts : (hs : List Made) (m n : ℕ) → take m hs ++ take n (drop m hs) ≡ take (m + n) hs
fronts hs zero n = ap (λ k. take k hs) (let is : n ≡ 0 + n = omega arith in is)
fronts [] (suc m) n = take_none n ∙ sym (take_none (suc m + n))
fronts (h ∷ hs) (suc m) n = ap (λ r. h ∷ r) (fronts hs m n) ∙ ap (λ k. take k (h ∷ hs)) (let is : suc (m + n) ≡ suc m + n = omega arith in is)

-- the image at a moment of the trail
pub image_then : (l : List Text) (hs : List Made) (start moment : ℕ) → image_at (trail_from l hs start) moment ≡ begins l hs (start + moment)
image_then l hs start moment = after_story l (begins l hs start) (drop start hs) moment ∙ sym (leaves_joined l (empty_image l) (take start hs) (take moment (drop start hs))) ∙ ap (leaves l (empty_image l)) (fronts hs start moment)

pub moments : (l : List Text) (hs : List Made) (start : ℕ) → start ≤ length hs → end_of_trail (trail_from l hs start) + start ≡ length hs
moments l hs start within = omega (arith, story_length l (begins l hs start) (drop start hs), length-drop start hs)

-- the image at the end
pub image_now : (l : List Text) (hs : List Made) (start : ℕ) → start ≤ length hs → image_at (trail_from l hs start) (end_of_trail (trail_from l hs start)) ≡ leaves l (empty_image l) hs
image_now l hs start within = image_then l hs start (end_of_trail (trail_from l hs start)) ∙ ap (leaves l (empty_image l)) (take_all _ hs (omega (arith, moments l hs start within)))

-- one thing more
pub trail_added : (l : List Text) (hs : List Made) (h : Made) (start : ℕ) → start ≤ length hs → trail_from l (hs ++ h ∷ []) start ≡ extended (trail_from l hs start) (told_as l (leaves l (empty_image l) hs) h)
trail_added l hs h start within =
    let front : take start (hs ++ h ∷ []) ≡ take start hs = take-append-le start hs (h ∷ []) within in
    let rest : drop start (hs ++ h ∷ []) ≡ drop start hs ++ h ∷ [] = drop-append-le start hs (h ∷ []) within in
    let image = begins l hs start in
    let before : leaves l image (drop start hs) ≡ leaves l (empty_image l) hs = sym (leaves_joined l (empty_image l) (take start hs) (drop start hs)) ∙ ap (leaves l (empty_image l)) (take-append-drop start hs) in
    (λ i. record { start = leaves l (empty_image l) (front i); happened = story l (leaves l (empty_image l) (front i)) (rest i) })
    ∙ ap (λ r. record { start = image; happened = r }) (story_added l image (drop start hs) h ∙ ap (λ j. story l image (drop start hs) ++ told_as l j h ∷ []) before)

-- no call at any site failed
none_failed : (n site : ℕ) → failed_at (replicate n 0) site ≡ 0
none_failed n site = let is = zero_at n site in grind (arith, is)
  where
    zero_at : (m k : ℕ) → get_or (let zeros : List ℕ = replicate m 0 in zeros) k 0 ≡ 0
    zero_at zero k = refl
    zero_at (suc m) zero = refl
    zero_at (suc m) (suc k) = zero_at m k

-- a world that was just made
pub made_anew : (l : List Text) (image : Image) (trail : Trail) (failed : List ℕ) (n : ℕ) → trail ≡ record { start = image; happened = [] } → failed ≡ replicate n 0 → tells l trail failed 0 0 ≡ fresh l image
made_anew l image trail failed n is zeros = (λ i. tells l (is i) (zeros i) 0 0) ∙ (λ i. record { locations = l; told = TellsTrail (record { start = image; happened = [] }); faults_at = λ site. none_failed n site i; sink_faults = 0; global_reads = 0 })

-- what a crash leaves
pub crash : (l : List Text) (hs : List Made) (start moment : ℕ) → trail_from l (take (start + moment) hs) (start + moment) ≡ record { start = image_at (trail_from l hs start) moment; happened = [] }
crash l hs start moment =
    let n = start + moment in
    let front : take n (take n hs) ≡ take n hs = take_all n (take n hs) (omega (arith, length-take n hs)) in
    let rest : drop n (take n hs) ≡ [] = drop_of_length-le (take n hs) (omega (arith, length-take n hs)) in
    (λ i. record { start = leaves l (empty_image l) (front i); happened = story l (leaves l (empty_image l) (front i)) (rest i) })
    ∙ ap (λ j. record { start = j; happened = [] }) (sym (image_then l hs start moment))

-- what happens at a place writes nothing
none_written : (l : List Text) (image : Image) (at : Site) (h : Place → Happening) (rest : List Happening) → ((p : Place) → written (h p ∷ rest) ≡ written rest) → written (at_place l at h ∷ rest) ≡ written rest
none_written l image at h rest none = by (place_at l at.0)
  where
    by : (p : Option Place) → written (unwrap_or (option_map h p) (Wrote []) ∷ rest) ≡ written rest
    by None = refl
    by (Some p) = none p

-- the bytes that were written
pub all_written : (l : List Text) (image : Image) (hs : List Made) → written (story l image hs) ≡ wrote hs
all_written l image [] = refl
all_written l image (kept.Wrote bytes ∷ hs) = ap (λ r. bytes ++ r) (all_written l image hs)
all_written l image (kept.Committed at change ∷ hs) = none_written l image at (λ p. Committed p change true) _ (λ p. refl) ∙ all_written l (after_one image (told_as l image (kept.Committed at change))) hs
all_written l image (kept.Tried at change ∷ hs) = none_written l image at (λ p. Committed p change false) _ (λ p. refl) ∙ all_written l (after_one image (told_as l image (kept.Tried at change))) hs
all_written l image (kept.Reopened at ∷ hs) = none_written l image at (λ p. Reopened p (image.at p)) _ (λ p. refl) ∙ all_written l (after_one image (told_as l image (kept.Reopened at))) hs

-- the first so many of what is kept are changes
pub kept_take : (hs : List Made) (n : ℕ) → AllByRecursion IsKept hs → AllByRecursion IsKept (take n hs)
kept_take hs zero are = tt
kept_take [] (suc n) are = tt
kept_take (h ∷ hs) (suc n) are = (are.0, kept_take hs n are.1)

-- one thing more is a change too
pub kept_added : (hs : List Made) (h : Made) → AllByRecursion IsKept hs → IsKept h → AllByRecursion IsKept (hs ++ h ∷ [])
kept_added [] h are is = (is, tt)
kept_added (e ∷ es) h are is = (are.0, kept_added es h are.1 is)

wrote_joined : (hs gs : List Made) → wrote (hs ++ gs) ≡ wrote hs ++ wrote gs
wrote_joined [] gs = refl
wrote_joined (kept.Wrote bytes ∷ hs) gs = ap (λ r. bytes ++ r) (wrote_joined hs gs) ∙ sym (append_assoc bytes (wrote hs) (wrote gs))
wrote_joined (kept.Committed at change ∷ hs) gs = wrote_joined hs gs
wrote_joined (kept.Tried at change ∷ hs) gs = wrote_joined hs gs
wrote_joined (kept.Reopened at ∷ hs) gs = wrote_joined hs gs

-- the bytes of one entry more
pub wrote_more : (hs : List Made) (i : ℕ) (h : Made) → i < length hs → h ≡ get_or hs i h → wrote (take (i + 1) hs) ≡ wrote (take i hs) ++ wrote (h ∷ [])
wrote_more hs i h less is = ap wrote (take_more hs i h less) ∙ wrote_joined (take i hs) (get_or hs i h ∷ []) ∙ ap (λ e. wrote (take i hs) ++ wrote (e ∷ [])) (sym is)
