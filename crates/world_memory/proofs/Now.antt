-- What the world is now: its stores, and what one thing more makes of it.
use Rattle.std.proofs.Common.{◌≡◌, ℕ, ◌≤◌, Bool, true, false, if◌then◌else◌, List, [], ◌∷◌, ◌++◌, length, refl, sym, ap, ◌∙◌, subst, Some, None, Option, option_map, unwrap_or, IsSome, Result, Ok, Err, arith, length-append}
use Rattle.std.proofs.Math.Seq.{take-length}
use Rattle.std.specs.List.{IsDistinct, AllByRecursion}
use Rattle.std.specs.BTreeMap.{BTreeMap}
use Rattle.cell_world.specs.Texts.{Text}
use Rattle.cell_world.specs.Keys.{same}
use Rattle.cell_world.specs.Stores.{IsStore, empty_store}
use Rattle.cell_world.specs.Spelled.{AreEdits}
use Rattle.cell_world.specs.Images.{Image, Place, Happening, Committed, Wrote, Reopened, IsImage, empty_image, image_at, end_of_trail}
use Rattle.cell_world.specs.Outside.{Outside, TellsTrail, happens, happens_at, place_at, store_at}
use Rattle.cell_world.specs.declared.cells.Site.{Site}
use Rattle.cell_world.specs.declared.cells.Cell.{Cell}
use Rattle.cell_world.proofs.KeyedLaws.{store_empty}
use Rattle.world_memory.specs.declared.contents.SiteKey.{SiteKey}
use Rattle.world_memory.specs.declared.contents.Made.{Made}
use Rattle.world_memory.specs.declared.contents.Made.TheVariants as kept
use Rattle.cell_world.specs.declared.changes.Edit.{Edit}
use Rattle.std.specs.Result.{is_ok, is_err}
use Rattle.world_memory.specs.Kept.{IsKept, IsAt, store_after}
use Rattle.world_memory.specs.Faults.{held}
use Rattle.world_memory.specs.Told.{at_place, told_as, leaves, trail_from, tells}
use Rattle.world_memory.specs.Laws.{image_leaves}
use Rattle.world_memory.proofs.Following as follow
use Rattle.world_memory.proofs.Places.{stores_left}
use Rattle.world_memory.proofs.Trails.{image_now, trail_added, kept_added}

module _ (l : List Text) (hs : List Made) (failed : List ℕ) (start sink reads : ℕ) (within : start ≤ length hs) (site : Site) (known : IsSome (place_at l site.0)) where
  the_place : (place : Place) × (place_at l site.0 ≡ Some place)
  the_place = by (place_at l site.0) refl known
    where
      by : (p : Option Place) → place_at l site.0 ≡ p → IsSome p → (place : Place) × (place_at l site.0 ≡ Some place)
      by None e h = cc
      by (Some place) e h = (place, e)

  image : Image
  image = leaves l (empty_image l) hs

  -- the store of a site is what is kept for it
  module _ (apart : IsDistinct same l) where
    pub now_is : store_at (tells l (trail_from l hs start) failed sink reads) site (image_at (trail_from l hs start) (end_of_trail (trail_from l hs start))) ≡ store_after site.0 empty_store hs
    unfolding image the_place
    now_is =
        ap (λ p. unwrap_or (option_map (image_at (trail_from l hs start) (end_of_trail (trail_from l hs start))).at p) empty_store) the_place.1
        ∙ ap (λ (i : Image). i.at the_place.0) (image_now l hs start within)
        ∙ stores_left l (empty_image l) site.0 the_place.0 hs apart the_place.1

    pub now_store : AllByRecursion IsKept hs → IsStore (store_after site.0 empty_store hs)
    unfolding image the_place
    now_store are = subst IsStore (stores_left l (empty_image l) site.0 the_place.0 hs apart the_place.1) (image_is are the_place.0)
      where
        image_is : AllByRecursion IsKept hs → IsImage (leaves l (empty_image l) hs)
        image_is known = subst (λ xs. IsImage (leaves l (empty_image l) xs)) (take-length hs) (image_leaves l (empty_image l) hs (length hs) known (λ place. store_empty))

  -- what happens at the place of the site happens at the site
  pub at_its_place : (h : Place → Happening) → happens (tells l (trail_from l hs start) failed sink reads) (at_place l site h) ≡ happens_at (tells l (trail_from l hs start) failed sink reads) site h
  unfolding the_place
  at_its_place h =
      let o = tells l (trail_from l hs start) failed sink reads in
      ap (λ p. happens o (unwrap_or (option_map h p) (Wrote []))) the_place.1 ∙ sym (ap (λ p. unwrap_or (option_map (λ place. happens o (h place)) p) o) the_place.1)

-- ---- after a push that had room, or hadn't

module _ (hs : List Made) (e : Made) where
  pub kept_after : (b : Bool) (after : List Made) → after ≡ (if b then hs ++ e ∷ [] else hs) → AllByRecursion IsKept hs → IsKept e → AllByRecursion IsKept after
  kept_after true after is are one = subst (AllByRecursion IsKept) (sym is) (kept_added hs e are one)
  kept_after false after is are one = subst (AllByRecursion IsKept) (sym is) are

  pub within_after : (b : Bool) (after : List Made) (start : ℕ) → after ≡ (if b then hs ++ e ∷ [] else hs) → start ≤ length hs → start ≤ length after
  within_after true after start is less = omega (arith, less, ap length is, length-append hs (e ∷ []))
  within_after false after start is less = omega (arith, less, ap length is)

  pub at_after : (b : Bool) (after : List Made) (m : BTreeMap SiteKey Cell) (done part : ℕ) → after ≡ (if b then hs ++ e ∷ [] else hs) → IsAt hs m done part → IsAt after m done part
  at_after true after m done part is at = subst (λ xs. IsAt xs m done part) (sym is) (follow.one_more hs e m done part at)
  at_after false after m done part is at = subst (λ xs. IsAt xs m done part) (sym is) at

  -- the push had room
  pub pushed : {T E : Type 0} (after : List Made) (r : Result T E) → false ≡ is_err r → after ≡ (if is_ok r then hs ++ e ∷ [] else hs) → after ≡ hs ++ e ∷ []
  pushed after (Ok x) h is = is
  pushed after (Err y) h is = cc

-- a tried change is one
pub kept_tried : (site : Site) (change : List Edit) (took : Bool) → AreEdits change → IsKept (if took then kept.Committed site change else kept.Tried site change)
kept_tried site change true are = are
kept_tried site change false are = tt

module _ (l : List Text) (hs : List Made) (failed : List ℕ) (start sink reads : ℕ) (within : start ≤ length hs) where
  abbrev now : Outside
  now = tells l (trail_from l hs start) failed sink reads

  -- one thing more happened
  pub has_happened : (e : Made) (after : List Made) → after ≡ hs ++ e ∷ [] → tells l (trail_from l after start) failed sink reads ≡ happens now (told_as l (leaves l (empty_image l) hs) e)
  has_happened e after is = ap (λ xs. tells l (trail_from l xs start) failed sink reads) is ∙ ap (λ t. tells l t failed sink reads) (trail_added l hs e start within)

  -- a change was tried
  pub has_tried : (site : Site) → IsSome (place_at l site.0) → (copy change : List Edit) → copy ≡ change → (took : Bool) → happens now (told_as l (leaves l (empty_image l) hs) (if took then kept.Committed site copy else kept.Tried site copy)) ≡ happens_at now site (λ place. Committed place change took)
  has_tried site known copy change same true = at_its_place l hs failed start sink reads within site known (λ place. Committed place copy true) ∙ ap (λ es. happens_at now site (λ place. Committed place es true)) same
  has_tried site known copy change same false = at_its_place l hs failed start sink reads within site known (λ place. Committed place copy false) ∙ ap (λ es. happens_at now site (λ place. Committed place es false)) same

  -- a site was opened again
  pub has_reopened : (site : Site) → IsSome (place_at l site.0) → happens now (told_as l (leaves l (empty_image l) hs) (kept.Reopened site)) ≡ happens_at now site (λ place. Reopened place (held (TellsTrail (trail_from l hs start)) place))
  has_reopened site known = at_its_place l hs failed start sink reads within site known (λ place. Reopened place ((leaves l (empty_image l) hs).at place)) ∙ ap (λ (image : Image). happens_at now site (λ place. Reopened place (image.at place))) (sym (image_now l hs start within))
