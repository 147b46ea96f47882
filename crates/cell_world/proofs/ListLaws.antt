-- What holds of each, and of some, of a list.
use Rattle.std.proofs.Common.{sym, subst, refl, inl, inr, ◌⊎◌, List, [], ◌∷◌, ◌++◌}
use Rattle.std.specs.List.{AllByRecursion}
use Rattle.cell_world.specs.Lists.{IsOneOf, SomeOf}

module _ {A : Type 0} where
  -- What holds of each holds of one of them, and the other way round.
  pub all_at : (P : A → Type 0) (xs : List A) → AllByRecursion P xs → (x : A) → IsOneOf xs x → P x
  all_at P [] h x one = absurd one
  all_at P (y ∷ ys) h x (inl e) = subst P e h.0
  all_at P (y ∷ ys) h x (inr g) = all_at P ys h.1 x g

  pub all_from : (P : A → Type 0) (xs : List A) → ((x : A) → IsOneOf xs x → P x) → AllByRecursion P xs
  all_from P [] h = tt
  all_from P (y ∷ ys) h = (h y (inl refl), all_from P ys (λ x g. h x (inr g)))

  -- What holds of some holds of one of them, and the other way round.
  pub some_at : (P : A → Type 0) (xs : List A) → SomeOf P xs → (x : A) × IsOneOf xs x × P x
  some_at P [] h = absurd h
  some_at P (y ∷ ys) (inl p) = (y, inl refl, p)
  some_at P (y ∷ ys) (inr h) = let s = some_at P ys h in (s.0, inr s.1, s.2)

  pub some_from : (P : A → Type 0) (xs : List A) (x : A) → IsOneOf xs x → P x → SomeOf P xs
  some_from P [] x h p = absurd h
  some_from P (y ∷ ys) x (inl e) p = inl (subst P (sym e) p)
  some_from P (y ∷ ys) x (inr h) p = inr (some_from P ys x h p)

  -- One of two lists is one of the first or one of the second, and the other way round.
  pub one_of_two : (xs ys : List A) (x : A) → IsOneOf (xs ++ ys) x → IsOneOf xs x ⊎ IsOneOf ys x
  one_of_two [] ys x h = inr h
  one_of_two (z ∷ xs) ys x (inl e) = inl (inl e)
  one_of_two (z ∷ xs) ys x (inr h) = by (one_of_two xs ys x h)
    where
      by : IsOneOf xs x ⊎ IsOneOf ys x → IsOneOf (z ∷ xs) x ⊎ IsOneOf ys x
      by (inl first) = inl (inr first)
      by (inr second) = inr second

  pub in_first : (xs ys : List A) (x : A) → IsOneOf xs x → IsOneOf (xs ++ ys) x
  in_first [] ys x h = absurd h
  in_first (z ∷ xs) ys x (inl e) = inl e
  in_first (z ∷ xs) ys x (inr h) = inr (in_first xs ys x h)

  pub in_second : (xs ys : List A) (x : A) → IsOneOf ys x → IsOneOf (xs ++ ys) x
  in_second [] ys x h = h
  in_second (z ∷ xs) ys x h = inr (in_second xs ys x h)
