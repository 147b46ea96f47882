-- The short lists of mappings of a step.
use Rattle.std.proofs.Common.{◌≡◌, refl, sym, ◌∙◌, subst, inl, inr, List, [], ◌∷◌}
use Rattle.cell_world.specs.Lists.{IsOneOf}
use Rattle.cell_world.specs.declared.operations.Piece.{Piece}
use Rattle.image_laws.proofs.ShapeLaws.{of_one, of_two}

-- what holds of the one mapping of a list, or of both, holds of each of it
pub in_one : (xs : List Piece) (a : Piece) → xs ≡ a ∷ [] → (P : Piece → Type 0) → P a → (x : Piece) → IsOneOf xs x → P x
in_one xs a e P p x h = of_one P p x (subst (λ ys. IsOneOf ys x) e h)

pub in_two : (xs : List Piece) (a b : Piece) → xs ≡ a ∷ b ∷ [] → (P : Piece → Type 0) → P a → P b → (x : Piece) → IsOneOf xs x → P x
in_two xs a b e P p q x h = of_two P p q x (subst (λ ys. IsOneOf ys x) e h)

-- the first one, and the second one, is one of them; so there are some
pub first_of : (xs : List Piece) (a : Piece) (ys : List Piece) → xs ≡ a ∷ ys → IsOneOf xs a
first_of xs a ys e = subst (λ zs. IsOneOf zs a) (sym e) (inl refl)

pub second_of : (xs : List Piece) (a b : Piece) → xs ≡ a ∷ b ∷ [] → IsOneOf xs b
second_of xs a b e = subst (λ zs. IsOneOf zs b) (sym e) (inr (inl refl))

pub some_of : (xs : List Piece) (a : Piece) (ys : List Piece) → xs ≡ a ∷ ys → (xs ≡ []) → ⊥
some_of xs a ys e f = let g : (a ∷ ys) ≡ [] = sym e ∙ f in absurd (cc)
