-- A test on the elements of a list.
use Rattle.std.proofs.Common.{◌≡◌, Bool, true, false, refl, ap, ◌∙◌, inl, inr, List, [], ◌∷◌, ◌||◌}
use Rattle.std.specs.List.{list_any}
use Rattle.cell_world.specs.Lists.{IsOneOf}

pub or_true : (a b : Bool) → b ≡ true → (a || b) ≡ true
or_true true b e = refl
or_true false b e = e

module _ {A : Type 0} where
  -- Where it holds of one of them it holds of some, and the other way round.
  pub any_from : (f : A → Bool) (xs : List A) (x : A) → IsOneOf xs x → f x ≡ true → list_any f xs ≡ true
  any_from f [] x h e = absurd h
  any_from f (y ∷ ys) x (inl is) e = ap (λ b. b || list_any f ys) (ap f is ∙ e)
  any_from f (y ∷ ys) x (inr h) e = or_true (f y) (list_any f ys) (any_from f ys x h e)

  pub any_gives : (f : A → Bool) (xs : List A) → list_any f xs ≡ true → (x : A) × IsOneOf xs x × (f x ≡ true)
  any_gives f [] e = let never : false ≡ true = e in cc
  any_gives f (y ∷ ys) e = by (f y) refl e (any_gives f ys)
    where
      by : (b : Bool) → f y ≡ b → (b || list_any f ys) ≡ true → (list_any f ys ≡ true → (x : A) × IsOneOf ys x × (f x ≡ true)) → (x : A) × IsOneOf (y ∷ ys) x × (f x ≡ true)
      by true t e more = (y, inl refl, t)
      by false t e more = let m = more e in (m.0, inr m.1, m.2)
