-- Some element of a list. `proofs/ListLaws.antt` takes these apart, and `AllByRecursion` too.
use Rattle.std.specs.Prelude.{◌≡◌, ◌⊎◌, List, [], ◌∷◌}

-- P holds of one of them
abbrev pub SomeOf : {A : Type 0} → (A → Type 0) → List A → Type 0
SomeOf P [] = ⊥
SomeOf P (x ∷ xs) = P x ⊎ SomeOf P xs

-- the value is one of them
abbrev pub IsOneOf : {A : Type 0} → List A → A → Type 0
IsOneOf xs x = SomeOf (λ y. y ≡ x) xs
