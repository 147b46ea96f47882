-- Of distinct locations one has the number of a site.
use Rattle.std.proofs.Common.{◌≡◌, ℕ, suc, zero, ◌-◌, ◌==◌, eqb, Bool, true, false, if◌then◌else◌, List, [], ◌∷◌, ◌||◌, refl, sym, ap, ◌∙◌, subst, Some, None, Option, option_map, is_some, arith, true≢false}
use Rattle.std.specs.List.{slice_get, IsDistinct, AllByRecursion}
use Rattle.std.proofs.lemmas.Bool.Decides.{nat_tests}
use Rattle.cell_world.specs.Texts.{Text}
use Rattle.cell_world.specs.Keys.{same, is_among}
use Rattle.cell_world.specs.Images.{Global, Shard}
use Rattle.cell_world.specs.Outside.{place_at, site_number}
use Rattle.cell_world.specs.declared.cells.Site.{Site}
use Rattle.cell_world.proofs.SpanLaws.{same_is, same_self}
use Rattle.image_laws.proofs.SiteLaws.{place_of_number, number_known}

-- a text that differs from all of a list isn't one of them
none_of : (x : Text) (ys : List Text) (i : ℕ) (b : Text) → AllByRecursion (λ y. same x y ≡ false) ys → slice_get ys i ≡ Some b → same x b ≡ false
none_of x [] i b all is = cc
none_of x (y ∷ ys) zero b all is = let e : y ≡ b = cc in subst (λ z. same x z ≡ false) e all.0
none_of x (y ∷ ys) (suc i) b all is = none_of x ys i b all.1 is

first_alone : (x : Text) (xs : List Text) (j : ℕ) (a : Text) → AllByRecursion (λ y. same x y ≡ false) xs → Some x ≡ Some a → slice_get xs j ≡ Some a → ⊥
first_alone x xs j a all is at = let e : x ≡ a = cc in let f : same x a ≡ false = none_of x xs j a all at in let g : same a a ≡ false = subst (λ z. same z a ≡ false) e f in let t : same a a ≡ true = same_self a in cc

-- a location stands at one place of the list
one_place : (xs : List Text) (i j : ℕ) (a : Text) → IsDistinct same xs → slice_get xs i ≡ Some a → slice_get xs j ≡ Some a → i ≡ j
unfolding IsDistinct
one_place [] i j a apart p q = cc
one_place (x ∷ xs) zero zero a apart p q = refl
one_place (x ∷ xs) zero (suc j) a apart p q = absurd (first_alone x xs j a apart.0 p q)
one_place (x ∷ xs) (suc i) zero a apart p q = absurd (first_alone x xs i a apart.0 q p)
one_place (x ∷ xs) (suc i) (suc j) a apart p q = ap suc (one_place xs i j a apart.1 p q)

shard_at : (locations : List Text) (n : ℕ) → place_at locations (suc n) ≡ option_map Shard (slice_get locations n)
shard_at locations n = let no : (suc n == 0) ≡ false = grind arith in let is : suc n - 1 ≡ n = omega arith in λ i. if no i then Some Global else option_map Shard (slice_get locations (is i))

location_of : (o : Option Text) (l : Text) → option_map Shard o ≡ Some (Shard l) → o ≡ Some l
location_of None l e = cc
location_of (Some a) l e = let is : Shard a ≡ Shard l = cc in let one : a ≡ l = cc in ap Some one

-- a shard's place has one site
one_site : (locations : List Text) (m n : ℕ) (l : Text) → IsDistinct same locations → place_at locations m ≡ Some (Shard l) → place_at locations n ≡ Some (Shard l) → m ≡ n
one_site locations zero n l apart e f = let bad : Global ≡ Shard l = cc in absurd (cc)
one_site locations (suc m) zero l apart e f = let bad : Global ≡ Shard l = cc in absurd (cc)
one_site locations (suc m) (suc n) l apart e f =
    ap suc (one_place locations m n l apart (location_of (slice_get locations m) l (sym (shard_at locations m) ∙ e)) (location_of (slice_get locations n) l (sym (shard_at locations n) ∙ f)))

among_at : (l : Text) (ls : List Text) (i : ℕ) → slice_get ls i ≡ Some l → is_among ls l ≡ true
among_at l [] i e = cc
among_at l (x ∷ xs) zero e = let is : x ≡ l = cc in ap (λ b. b || is_among xs l) (subst (λ y. same l y ≡ true) (sym is) (same_self l))
among_at l (x ∷ xs) (suc i) e = by (same l x) (among_at l xs i e)
  where
    by : (b : Bool) → is_among xs l ≡ true → (b || is_among xs l) ≡ true
    by true h = refl
    by false h = h

module _ (locations : List Text) (apart : IsDistinct same locations) (site : Site) (l : Text) (place : place_at locations site.0 ≡ Some (Shard l)) where
  known : is_among locations l ≡ true
  known = by site.0 place
    where
      by : (n : ℕ) → place_at locations n ≡ Some (Shard l) → is_among locations l ≡ true
      by zero e = let bad : Global ≡ Shard l = cc in absurd (cc)
      by (suc n) e = among_at l locations n (location_of (slice_get locations n) l (sym (shard_at locations n) ∙ e))

  -- A location that isn't known is another one.
  pub none_here : (at : Text) (found : Option Site) → found ≡ site_number locations at → found ≡ None → false ≡ same at l
  none_here at found is none = by (same at l) refl
    where
      by : (b : Bool) → same at l ≡ b → false ≡ same at l
      by false e = sym e
      by true e =
          let one : at ≡ l = same_is at l e in
          let some : is_some found ≡ true = ap is_some is ∙ number_known locations at ∙ ap (is_among locations) one ∙ known in
          let no : is_some found ≡ false = ap is_some none in
          absurd (true≢false (sym some ∙ no))

  -- A location has the site's number exactly where it is the site's.
  pub number_here : (at : Text) (found : Option Site) (other : Site) → found ≡ site_number locations at → found ≡ Some other → eqb other.0 site.0 ≡ same at l
  number_here at found other is some = by (eqb other.0 site.0) (same at l) refl refl
    where
      there : place_at locations other.0 ≡ Some (Shard at)
      there = place_of_number locations at other (sym is ∙ some)

      by : (b c : Bool) → eqb other.0 site.0 ≡ b → same at l ≡ c → b ≡ c
      by true true e f = refl
      by false false e f = refl
      by true false e f =
          let number : other.0 ≡ site.0 = grind (arith, nat_tests) in
          let both : Some (Shard at) ≡ Some (Shard l) = sym there ∙ ap (place_at locations) number ∙ place in
          let one : at ≡ l = cc in
          let t : same at l ≡ true = subst (λ x. same at x ≡ true) one (same_self at) in absurd (true≢false (sym t ∙ f))
      by false true e f =
          let one : at ≡ l = same_is at l f in
          let number : other.0 ≡ site.0 = one_site locations other.0 site.0 l apart (there ∙ ap (λ x. Some (Shard x)) one) place in
          grind (arith, nat_tests)
