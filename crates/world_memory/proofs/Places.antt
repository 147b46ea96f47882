-- The stores of what is told are the stores of what is kept.
use Rattle.std.proofs.Common.{◌≡◌, ℕ, suc, zero, ◌-◌, ◌==◌, Bool, true, false, if◌then◌else◌, List, [], ◌∷◌, refl, sym, ap, ◌∙◌, subst, Some, None, Option, option_map, unwrap_or, arith}
use Rattle.std.specs.List.{slice_get, IsDistinct, AllByRecursion}
use Rattle.std.proofs.lemmas.Bool.{eqb-true}
use Rattle.cell_world.specs.Texts.{Text}
use Rattle.cell_world.specs.Keys.{same}
use Rattle.cell_world.specs.Stores.{changed}
use Rattle.cell_world.specs.Images.{Image, Place, Global, Shard, Committed, Wrote, Reopened, same_place, after_one}
use Rattle.cell_world.specs.Outside.{place_at}
use Rattle.cell_world.proofs.ImageLaws.{same_place_self, same_place_is}
use Rattle.cell_world.proofs.SpanLaws.{same_self}
use Rattle.world_memory.specs.declared.contents.Made.{Made}
use Rattle.world_memory.specs.declared.contents.Made.TheVariants as kept
use Rattle.world_memory.specs.Kept.{edits_at, store_after}
use Rattle.world_memory.specs.Told.{told_as, leaves}

-- a text that differs from all of a list isn't one of them
none_of : (x : Text) (ys : List Text) (i : ℕ) (b : Text) → AllByRecursion (λ y. same x y ≡ false) ys → slice_get ys i ≡ Some b → same x b ≡ false
none_of x [] i b all is = cc
none_of x (y ∷ ys) zero b all is = let e : y ≡ b = cc in subst (λ z. same x z ≡ false) e all.0
none_of x (y ∷ ys) (suc i) b all is = none_of x ys i b all.1 is

first_alone : (x : Text) (xs : List Text) (j : ℕ) (a : Text) → AllByRecursion (λ y. same x y ≡ false) xs → Some x ≡ Some a → slice_get xs j ≡ Some a → ⊥
first_alone x xs j a all is at = let e : x ≡ a = cc in let f : same x a ≡ false = none_of x xs j a all at in let g : same a a ≡ false = subst (λ z. same z a ≡ false) e f in let t : same a a ≡ true = same_self a in cc

-- a location stands at one place of the list
one_place : (xs : List Text) (i j : ℕ) (a : Text) → IsDistinct same xs → slice_get xs i ≡ Some a → slice_get xs j ≡ Some a → i ≡ j
unfolding IsDistinct
one_place [] i j a apart p q = cc
one_place (x ∷ xs) zero zero a apart p q = refl
one_place (x ∷ xs) zero (suc j) a apart p q = absurd (first_alone x xs j a apart.0 p q)
one_place (x ∷ xs) (suc i) zero a apart p q = absurd (first_alone x xs i a apart.0 q p)
one_place (x ∷ xs) (suc i) (suc j) a apart p q = ap suc (one_place xs i j a apart.1 p q)

shard_at : (locations : List Text) (n : ℕ) → place_at locations (suc n) ≡ option_map Shard (slice_get locations n)
shard_at locations n = let no : (suc n == 0) ≡ false = grind arith in let is : suc n - 1 ≡ n = omega arith in λ i. if no i then Some Global else option_map Shard (slice_get locations (is i))

no_shard : (o : Option Text) → option_map Shard o ≡ Some Global → ⊥
no_shard None e = cc
no_shard (Some a) e = cc

some_shard : (o : Option Text) (p : Place) → option_map Shard o ≡ Some p → (a : Text) × (o ≡ Some a) × (Shard a ≡ p)
some_shard None p e = cc
some_shard (Some a) p e = (a, refl, (let is : Shard a ≡ p = cc in is))

-- a place has one site
pub one_site : (locations : List Text) (m n : ℕ) (p : Place) → IsDistinct same locations → place_at locations m ≡ Some p → place_at locations n ≡ Some p → m ≡ n
one_site locations zero zero p apart e f = refl
one_site locations zero (suc n) p apart e f = absurd (no_shard (slice_get locations n) (sym (shard_at locations n) ∙ f ∙ sym e))
one_site locations (suc m) zero p apart e f = absurd (no_shard (slice_get locations m) (sym (shard_at locations m) ∙ e ∙ sym f))
one_site locations (suc m) (suc n) p apart e f =
    let a = some_shard (slice_get locations m) p (sym (shard_at locations m) ∙ e) in
    let b = some_shard (slice_get locations n) p (sym (shard_at locations n) ∙ f) in
    let is : Shard b.0 ≡ Shard a.0 = b.2 ∙ sym a.2 in
    let one : b.0 ≡ a.0 = cc in
    ap suc (one_place locations m n a.0 apart a.1 (b.1 ∙ ap Some one))

apart_from : (a b : ℕ) → a ≡ b → (a == b) ≡ false → ⊥
apart_from a b e f = grind (arith, e, f)

-- what an entry leaves at a site
after_entry : (locations : List Text) (image : Image) (n : ℕ) (place : Place) (h : Made) → IsDistinct same locations → place_at locations n ≡ Some place
    → (after_one image (told_as locations image h)).at place ≡ changed (image.at place) (edits_at n h)
after_entry locations image n place (kept.Committed at change) apart is = by (place_at locations at.0) refl (n == at.0) refl
  where
    by : (p : Option Place) → place_at locations at.0 ≡ p → (b : Bool) → (n == at.0) ≡ b → (after_one image (unwrap_or (option_map (λ q. Committed q change true) p) (Wrote []))).at place ≡ changed (image.at place) (if b then change else [])
    by None e true f = let both : Some place ≡ None = sym is ∙ ap (place_at locations) (eqb-true n at.0 f) ∙ e in cc
    by None e false f = refl
    by (Some p) e true f =
        let both : Some p ≡ Some place = sym e ∙ ap (place_at locations) (sym (eqb-true n at.0 f)) ∙ is in
        let same_one : p ≡ place = cc in
        ap (λ b. if b then changed (image.at p) change else image.at place) (ap (λ q. same_place q place) same_one ∙ same_place_self place) ∙ ap (λ q. changed (image.at q) change) same_one
    by (Some p) e false f = held (same_place p place) refl
      where
        held : (b : Bool) → same_place p place ≡ b → (if b then changed (image.at p) change else image.at place) ≡ image.at place
        held true g = absurd (apart_from n at.0 (one_site locations n at.0 place apart is (e ∙ ap Some (same_place_is p place g))) f)
        held false g = refl
after_entry locations image n place (kept.Tried at change) apart is = by (place_at locations at.0)
  where
    by : (p : Option Place) → (after_one image (unwrap_or (option_map (λ q. Committed q change false) p) (Wrote []))).at place ≡ image.at place
    by None = refl
    by (Some p) = refl
after_entry locations image n place (kept.Wrote bytes) apart is = refl
after_entry locations image n place (kept.Reopened at) apart is = by (place_at locations at.0)
  where
    by : (p : Option Place) → (after_one image (unwrap_or (option_map (λ q. Reopened q (image.at q)) p) (Wrote []))).at place ≡ image.at place
    by None = refl
    by (Some p) = held (same_place p place) refl
      where
        held : (b : Bool) → same_place p place ≡ b → (if b then image.at p else image.at place) ≡ image.at place
        held true e = ap image.at (same_place_is p place e)
        held false e = refl

pub stores_left : (locations : List Text) (image : Image) (n : ℕ) (place : Place) (hs : List Made) → IsDistinct same locations → place_at locations n ≡ Some place
    → (leaves locations image hs).at place ≡ store_after n (image.at place) hs
stores_left locations image n place [] apart is = refl
stores_left locations image n place (h ∷ hs) apart is = stores_left locations (after_one image (told_as locations image h)) n place hs apart is ∙ ap (λ s. store_after n s hs) (after_entry locations image n place h apart is)
