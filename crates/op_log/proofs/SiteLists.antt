-- How the sites of an operation are gathered.
use Rattle.std.proofs.Common.{◌≡◌, ◌≢◌, ◌⊎◌, Bool, true, false, cond, refl, sym, ap, ◌∙◌, subst, Some, None, Option, inl, inr, List, [], ◌∷◌, ◌++◌, ◌||◌}
use Rattle.std.specs.Prelude.{◌↔◌}
use Rattle.std.specs.List.{list_any}
use Rattle.std.proofs.lemmas.Option.{same_Some}
use Rattle.cell_world.specs.Texts.{Text}
use Rattle.cell_world.specs.Lists.{IsOneOf}
use Rattle.cell_world.specs.Keys.{same}
use Rattle.cell_world.specs.Operations.{locations_of}
use Rattle.cell_world.specs.declared.operations.Piece.{Piece}
use Rattle.cell_world.proofs.SpanLaws.{same_is, same_self}
use Rattle.op_log.specs.Sites.{locations_in, with_next, with_site, with_sites, AreInOrder, AreAtMostTwo}
use Rattle.op_log.specs.declared.sites.Sites.{Sites}

-- ---- lists one after another

pub with_sites-append : (sites : Sites) (xs ys : List Text) → with_sites (with_sites sites xs) ys ≡ with_sites sites (xs ++ ys)
with_sites-append sites [] ys = refl
with_sites-append sites (x ∷ xs) ys = with_sites-append (with_site sites x) xs ys

pub locations-append : (xs ys : List Piece) → locations_of (xs ++ ys) ≡ locations_of xs ++ locations_of ys
locations-append [] ys = refl
locations-append (x ∷ xs) ys = ap (λ ls. x.location ∷ ls) (locations-append xs ys)

pub any-append : (f : Text → Bool) (xs ys : List Text) → list_any f (xs ++ ys) ≡ (list_any f xs || list_any f ys)
any-append f [] ys = refl
any-append f (x ∷ xs) ys = by (f x) (any-append f xs ys)
  where
    by : (b : Bool) → list_any f (xs ++ ys) ≡ (list_any f xs || list_any f ys) → (b || list_any f (xs ++ ys)) ≡ ((b || list_any f xs) || list_any f ys)
    by true e = refl
    by false e = e

-- ---- what is gathered

-- A second one stands only beside another first one, and each is one of these two.
record IsFine (a b : Text) (sites : Sites) : Type 0 where
  order : AreInOrder sites
  two : (location : Text) → IsOneOf (locations_in sites) location → (location ≡ a) ⊎ (location ≡ b)

abbrev sites_from : Option Text → Option Text → Sites
sites_from one two = record { one = one; two = two }

module _ (a b x : Text) (is : (x ≡ a) ⊎ (x ≡ b)) where
  next_fine : (one two : Option Text) → IsFine a b (sites_from one two) → IsFine a b (with_next x one two)
  next_fine None None f = record { order = tt; two = only }
    where
      only : (l : Text) → IsOneOf (x ∷ []) l → (l ≡ a) ⊎ (l ≡ b)
      only l (inl e) = subst (λ y. (y ≡ a) ⊎ (y ≡ b)) e is
      only l (inr e) = absurd e
  next_fine None (Some t) f = let never : false ≡ true = f.order.0 in cc
  next_fine (Some o) (Some t) f = f
  next_fine (Some o) None f = by (same o x) refl
    where
      both : (l : Text) → IsOneOf (o ∷ x ∷ []) l → (l ≡ a) ⊎ (l ≡ b)
      both l (inl e) = f.two l (inl e)
      both l (inr (inl e)) = subst (λ y. (y ≡ a) ⊎ (y ≡ b)) e is
      both l (inr (inr e)) = absurd e

      other : same o x ≡ false → Some o ≡ Some x → ⊥
      other t e = let never : true ≡ false = sym (same_self o) ∙ ap (same o) (same_Some o x e) ∙ t in cc

      by : (c : Bool) → same o x ≡ c → IsFine a b (cond c (sites_from (Some o) None) (sites_from (Some o) (Some x)))
      by true t = f
      by false t = record { order = (refl, other t); two = both }

  next_back : (one two : Option Text) (l : Text) → IsOneOf (locations_in (with_next x one two)) l → IsOneOf (locations_in (sites_from one two)) l ⊎ (x ≡ l)
  next_back None None l (inl e) = inr e
  next_back None None l (inr e) = absurd e
  next_back None (Some t) l (inl e) = inr e
  next_back None (Some t) l (inr h) = inl h
  next_back (Some o) (Some t) l h = inl h
  next_back (Some o) None l h = by (same o x) h
    where
      by : (c : Bool) → IsOneOf (locations_in (cond c (sites_from (Some o) None) (sites_from (Some o) (Some x)))) l → IsOneOf (o ∷ []) l ⊎ (x ≡ l)
      by true h = inl h
      by false (inl e) = inl (inl e)
      by false (inr (inl e)) = inr e
      by false (inr (inr e)) = absurd e

  next_forth : (one two : Option Text) → IsFine a b (sites_from one two) → (l : Text) → IsOneOf (locations_in (sites_from one two)) l ⊎ (x ≡ l) → IsOneOf (locations_in (with_next x one two)) l
  next_forth None None f l (inl h) = absurd h
  next_forth None None f l (inr e) = inl e
  next_forth None (Some t) f l h = let never : false ≡ true = f.order.0 in cc
  next_forth (Some o) (Some t) f l (inl h) = h
  next_forth (Some o) (Some t) f l (inr e) = by is (f.two o (inl refl)) (f.two t (inr (inl refl)))
    where
      apart : o ≡ t → ⊥
      apart g = f.order.1 (ap Some g)

      by : (x ≡ a) ⊎ (x ≡ b) → (o ≡ a) ⊎ (o ≡ b) → (t ≡ a) ⊎ (t ≡ b) → IsOneOf (o ∷ t ∷ []) l
      by (inl p) (inl q) r = inl (q ∙ sym p ∙ e)
      by (inl p) (inr q) (inl r) = inr (inl (r ∙ sym p ∙ e))
      by (inl p) (inr q) (inr r) = absurd (apart (q ∙ sym r))
      by (inr p) (inr q) r = inl (q ∙ sym p ∙ e)
      by (inr p) (inl q) (inr r) = inr (inl (r ∙ sym p ∙ e))
      by (inr p) (inl q) (inl r) = absurd (apart (q ∙ sym r))
  next_forth (Some o) None f l h = by (same o x) refl h
    where
      by : (c : Bool) → same o x ≡ c → IsOneOf (o ∷ []) l ⊎ (x ≡ l) → IsOneOf (locations_in (cond c (sites_from (Some o) None) (sites_from (Some o) (Some x)))) l
      by true t (inl h) = h
      by true t (inr e) = inl (same_is o x t ∙ e)
      by false t (inl (inl e)) = inl e
      by false t (inl (inr e)) = absurd e
      by false t (inr e) = inr (inl e)

module _ (a b : Text) where
  all_fine : (sites : Sites) (xs : List Text) → IsFine a b sites → ((l : Text) → IsOneOf xs l → (l ≡ a) ⊎ (l ≡ b)) → IsFine a b (with_sites sites xs)
  all_fine sites [] f g = f
  all_fine sites (x ∷ xs) f g = all_fine (with_site sites x) xs (next_fine a b x (g x (inl refl)) sites.one sites.two f) (λ l h. g l (inr h))

  all_back : (sites : Sites) (xs : List Text) → ((l : Text) → IsOneOf xs l → (l ≡ a) ⊎ (l ≡ b)) → (l : Text) → IsOneOf (locations_in (with_sites sites xs)) l → IsOneOf (locations_in sites) l ⊎ IsOneOf xs l
  all_back sites [] g l h = inl h
  all_back sites (x ∷ xs) g l h = elim (all_back (with_site sites x) xs (λ k m. g k (inr m)) l h) [
    | inl m ↦ elim (next_back a b x (g x (inl refl)) sites.one sites.two l m) [ inl n ↦ inl n | inr e ↦ inr (inl e) ]
    | inr m ↦ inr (inr m)
  ]

  all_forth : (sites : Sites) (xs : List Text) → IsFine a b sites → ((l : Text) → IsOneOf xs l → (l ≡ a) ⊎ (l ≡ b)) → (l : Text) → IsOneOf (locations_in sites) l ⊎ IsOneOf xs l → IsOneOf (locations_in (with_sites sites xs)) l
  all_forth sites [] f g l (inl h) = h
  all_forth sites [] f g l (inr h) = absurd h
  all_forth sites (x ∷ xs) f g l h = all_forth (with_site sites x) xs (next_fine a b x (g x (inl refl)) sites.one sites.two f) (λ k m. g k (inr m)) l (pass h)
    where
      first : IsOneOf (locations_in sites) l ⊎ (x ≡ l) → IsOneOf (locations_in (with_site sites x)) l
      first = next_forth a b x (g x (inl refl)) sites.one sites.two f l

      pass : IsOneOf (locations_in sites) l ⊎ IsOneOf (x ∷ xs) l → IsOneOf (locations_in (with_site sites x)) l ⊎ IsOneOf xs l
      pass (inl m) = inl (first (inl m))
      pass (inr (inl e)) = inl (first (inr e))
      pass (inr (inr m)) = inr m

-- Of at most two locations these are gathered, each once.
abbrev pub nowhere : Sites
nowhere = record { one = None; two = None }

nowhere_fine : (a b : Text) → IsFine a b nowhere
nowhere_fine a b = record { order = tt; two = λ l h. absurd h }

module _ (xs : List Text) (most : AreAtMostTwo xs) where
  pub gathered_order : AreInOrder (with_sites nowhere xs)
  gathered_order = (all_fine most.one most.two nowhere xs (nowhere_fine most.one most.two) most.each).order

  pub gathered_back : (l : Text) → IsOneOf (locations_in (with_sites nowhere xs)) l → IsOneOf xs l
  gathered_back l h = elim (all_back most.one most.two nowhere xs most.each l h) [ inl m ↦ absurd m | inr m ↦ m ]

  pub gathered_forth : (l : Text) → IsOneOf xs l → IsOneOf (locations_in (with_sites nowhere xs)) l
  gathered_forth l h = all_forth most.one most.two nowhere xs (nowhere_fine most.one most.two) most.each l (inr h)
